-- Paper 01, refusal 15: which kinds a value list may have; request 2026-01: what may begin a segment; request 2026-10: kind 3.
-- Assumes nothing.
use Rattle.std.specs.Prelude.{ℕ, ◌≡◌, Bool, true, not, ◌&&◌, List, [], ◌∷◌, leb, eqb}
use Rattle.lists.specs.Lists.{all}
use Rattle.values.specs.Spelling.{leads_break}
use Rattle.operations.specs.ValueList.{Item}

-- the kind of the first value; the end counts as a new segment
unfoldable pub first_kind : List Item → ℕ
first_kind [] = 0
first_kind (l ∷ ls) = l.kind

-- no kind is above 3
unfoldable pub kinds_up_to3 : List Item → Bool
kinds_up_to3 items = all (λ l. leb l.kind 3) items

-- neither "first kind not 0" nor "a kind above 3"
pub record Kinds (items : List Item) : Type 0 where
  pub first : first_kind items ≡ 0
  pub highest : kinds_up_to3 items ≡ true

-- "No segment of a list may begin with a break": no value of kind 0 begins with one
abbrev pub starts_well : Item → Bool
starts_well l = not (eqb l.kind 0 && leads_break l.value)

unfoldable pub unbroken_starts : List Item → Bool
unbroken_starts items = all starts_well items
