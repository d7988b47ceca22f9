-- Request 2026-08: the walk. It goes over anything that has a tag, and says before which of them it stopped. Assumes nothing.
use Rattle.std.specs.Prelude.{ℕ, zero, suc, Bool, false, not, ◌&&◌, List, [], ◌∷◌, drop, if◌then◌else◌}
use Rattle.std.proofs.Math.Option.{Option, none, some}
use Rattle.lists.specs.Lists.{same}
use Rattle.message_tables.specs.Structure.{Structure, done, entry}

-- what is left where the walk stopped, or where it went through all entries
pub data Walked (A : Type 0) : Type 0 where
  stopped : (left : List A) → Walked A
  through : (left : List A) → Walked A

module _ {A : Type 0} (tag_of : A → List ℕ) where
  -- on with what is left, unless the walk stopped
  unfoldable pub onward : Walked A → (List A → Walked A) → Walked A
  onward (stopped left) next = stopped left
  onward (through left) next = next left

  -- the next segment has this tag
  unfoldable pub leads : List ℕ → List A → Bool
  leads tag [] = false
  leads tag (g ∷ gs) = same (tag_of g) tag

  -- "Each entry takes as many segments or group repeats as it can", up to so many; "wherever its trigger stands, a group is gone through the
  -- same way, one level deeper"
  unfoldable pub repeated : (inside : List A → Walked A) → (tag : List ℕ) → (most : ℕ) → List A → Walked A
  repeated inside tag zero gs = through gs
  repeated inside tag (suc most) gs =
      if leads tag gs then onward (inside (drop 1 gs)) (repeated inside tag most) else through gs

  -- "before the next entry has its turn"; it "stops at a mandatory entry that can't be met"
  unfoldable pub walk : Structure → List A → Walked A
  walk done gs = through gs
  walk (entry mandatory repeats tag inside following) gs =
      if mandatory && not (leads tag gs) then stopped gs
      else onward (repeated (walk inside) tag repeats gs) (walk following)

  -- "or at a segment left over after the last entry"
  unfoldable pub left_over : Walked A → Option (List A)
  left_over (stopped left) = some left
  left_over (through []) = none
  left_over (through (g ∷ gs)) = some (g ∷ gs)

  -- what is left of a body that does not match, perhaps nothing; none where it matches
  unfoldable pub unmatched : Structure → List A → Option (List A)
  unmatched structure body = left_over (walk structure body)
