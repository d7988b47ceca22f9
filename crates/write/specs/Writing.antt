-- "Writer: 15, 2, 16, 1, 14, then 3 to 13 as Judge would answer for the text": what is answered from each stage on, and what an answer
-- leaves in the output. Assumes nothing.
use Rattle.std.specs.Prelude.{ℕ, ◌≤◌, ◌≡◌, true, List, length, drop, replicate, ltb, Option as Perhaps, Some, None, Result, Ok, Err, if◌then◌else◌}
use Rattle.std.proofs.Math.Option.{Option, none, some}
use Rattle.lists.specs.Lists.{is_empty}
use Rattle.characters.specs.declared.Characters.{Characters}
use Rattle.characters.specs.Characters.{six_bytes}
use Rattle.refusals.specs.declared.Fault.TheVariants.{TooLong, UnusableAdvice, BufferShort}
use Rattle.refusals.specs.declared.Refusal.{Refusal}
use Rattle.refusals.specs.Refusals.{answering}
use Rattle.answers.specs.Answers.{Stored}
use Rattle.operations.specs.Judge.{stored_in}
use Rattle.operations.specs.ValueList.{listed_in}
use Rattle.operations.specs.Write.{unusable_bytes, written_text, write_stages}
use Rattle.trimming_laws.specs.Kinds.{first_kind}
use Rattle.value_lists.specs.Records.{well_listed}
use Rattle.refusals.specs.Limits.{most_numbers}

-- a refusal, and an output that is left zero
abbrev pub Refuses : Refusal → (output : List ℕ) → Stored → (after : List ℕ) → Type 0
Refuses q output r after = (r ≡ Err q) × (after ≡ replicate (length output) 0)

-- what an answer leaves of the output: a refusal leaves it zero
abbrev pub cleared : (answer : Stored) → (output : List ℕ) → List ℕ
cleared (Ok n) output = output
cleared (Err q) output = replicate (length output) 0

-- 2
unfoldable pub service_of : List ℕ → Result Characters Refusal
service_of service = if is_empty (unusable_bytes service) then Ok (six_bytes service) else Err (record { fault = UnusableAdvice; place = 0 })

-- 1 and 14, of a length that a text may have
unfoldable pub size_in : (room : ℕ) → Perhaps ℕ → Stored
size_in room None = Err (record { fault = TooLong; place = 0 })
size_in room (Some n) = if ltb room n then Err (record { fault = BufferShort; place = n }) else Ok n

-- The answer is the refusal, if any, or the length; the output is as long as it was, and the text where nothing is refused.
pub record Tried (o : Option Refusal) (size : ℕ) (text before : List ℕ) (r : Stored) (after : List ℕ) : Type 0 where
  pub failed : (q : Refusal) → r ≡ Err q → o ≡ some q
  pub passed : (n : ℕ) → r ≡ Ok n → (o ≡ none) × (n ≡ size) × (after ≡ text)
  pub long : length after ≡ length before

-- what Write answers and leaves where so many of its stages are passed, before a refusal leaves its output zero
abbrev pub TriesAfter : ℕ → (service bytes table output : List ℕ) → Stored → (after : List ℕ) → Type 0
TriesAfter passed service bytes table output r after =
    let text = written_text service bytes table in
    Tried (answering (drop passed (write_stages service bytes table output))) (length text) (stored_in output text) output r after

abbrev pub Tries : (service bytes table output : List ℕ) → Stored → (after : List ℕ) → Type 0
Tries service bytes table output r after = TriesAfter 0 service bytes table output r after

-- what holds of a list that 15 passed
pub record Passed (bytes table : List ℕ) : Type 0 where
  pub good : well_listed bytes table ≡ true
  pub short : length table ≤ most_numbers
  pub first : first_kind (listed_in bytes table) ≡ 0
