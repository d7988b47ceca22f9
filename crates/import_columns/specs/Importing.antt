-- Request 2026-12: what import's steps ask and answer. Assumes nothing.
use Rattle.std.specs.Prelude.{ℕ, ◌≤◌, Bool, true, false, List, [], ◌∷◌, Option, Some, None, length}
use Rattle.lists.specs.Lists.{member}
use Rattle.columns.specs.Lines.{tab, carriage_return, line_feed}
use Rattle.columns.specs.Operations.{import_text, import_refusal}
use Rattle.answers.specs.Answers.{Stored}
use Rattle.operations.specs.Judge.{stored_in}
use Rattle.write.specs.Writing.{Tried}
use Rattle.column_walk.specs.declared.Line.{Line}

-- a value holds "no tab, carriage return or line feed": one of them ends it
abbrev pub ends_value : ℕ → Bool
ends_value b = member b (tab ∷ carriage_return ∷ line_feed ∷ [])

-- a line's value stands in the text
abbrev pub is_line_in : List ℕ → Line → Type 0
is_line_in s l = (l.start ≤ l.end) × (l.end ≤ length s)

-- the number of lines of a text that is taken, and none of any other
abbrev pub checked_by : Bool → ℕ → Option ℕ
checked_by true count = Some count
checked_by false count = None

-- what import answers and leaves, before a refusal leaves its output zero
abbrev pub TriesImport : (service s output : List ℕ) → Stored → (after : List ℕ) → Type 0
TriesImport service s output r after =
    let text = import_text service s in
    Tried (import_refusal service s output) (length text) (stored_in output text) output r after
