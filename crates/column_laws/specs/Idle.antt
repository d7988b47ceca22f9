-- Request 2026-12: a trimmed list, told from its values one after the other. That a list is trimmed exactly where none of its values is an
-- empty end is proved in `proofs/Idle.antt` (`no_idle_ends_lem`). Assumes nothing.
use Rattle.std.specs.Prelude.{ℕ, Bool, true, not, ◌&&◌, List, [], ◌∷◌, ltb}
use Rattle.lists.specs.Lists.{is_empty}
use Rattle.operations.specs.ValueList.{Item, rank_of}
use Rattle.trimming_laws.specs.Kinds.{first_kind}

-- An empty value after which a larger part begins than it began itself (after a component a repeat, after an element a segment, or the end):
-- it is an empty end, which trimming takes. A tag begins a segment, and no part is larger.
unfoldable pub is_idle_end : Item → ℕ → Bool
is_idle_end l kind = is_empty l.value && ltb (rank_of kind) (rank_of l.kind)

-- none of them is such an end; what ends the list counts as a new segment
unfoldable pub no_idle_ends : List Item → Bool
no_idle_ends [] = true
no_idle_ends (l ∷ ls) = not (is_idle_end l (first_kind ls)) && no_idle_ends ls
