-- Requests 2026-04 and 2026-06: a list of operations done on a shelf one after the other, the lengths that were newly put and removed on
-- the way, and how many puts found their copy. Assumes nothing.
use Rattle.std.specs.Prelude.{ℕ, ◌+◌, Bool, ◌&&◌, List, [], ◌∷◌, eqb, length, get_or, if◌then◌else◌}
use Rattle.stages.specs.Contents.{normal_form}
use Rattle.answers.specs.Answers.{Answer}
use Rattle.shelves.specs.Layout.{Layout}
use Rattle.shelves.specs.Operations.{put, put_shelf, remove, remove_shelf}

pub data Operation : Type 0 where
  puts : (input : List ℕ) → Operation
  gets : (slot : ℕ) → Operation
  removes : (slot : ℕ) → Operation

-- an answer that refuses nothing, one that tells of a new text, and one that tells of a copy
unfoldable pub is_given : Answer → Bool
is_given a = eqb a.number 0

unfoldable pub is_new : Answer → Bool
is_new a = is_given a && eqb (get_or a.values 1 0) 1

unfoldable pub is_copy : Answer → Bool
is_copy a = is_given a && eqb (get_or a.values 1 0) 0

module _ (l : Layout) where
  -- the shelf after an operation: Get changes nothing
  unfoldable pub after : List ℕ → Operation → List ℕ
  after s (puts input) = put_shelf l s input
  after s (gets slot) = s
  after s (removes slot) = remove_shelf l s slot

  -- the length that it newly puts, and the length that it removes, by what is answered
  unfoldable pub newly_put : List ℕ → Operation → ℕ
  newly_put s (puts input) = if is_new (put l s input) then length (normal_form input) else 0
  newly_put s (gets slot) = 0
  newly_put s (removes slot) = 0

  unfoldable pub taken : List ℕ → Operation → ℕ
  taken s (puts input) = 0
  taken s (gets slot) = 0
  taken s (removes slot) = if is_given (remove l s slot) then get_or (remove l s slot).values 0 0 else 0

  -- 1 for a put that finds its copy
  unfoldable pub copied : List ℕ → Operation → ℕ
  copied s (puts input) = if is_copy (put l s input) then 1 else 0
  copied s (gets slot) = 0
  copied s (removes slot) = 0

  -- the same of all of them
  unfoldable pub after_all : List ℕ → List Operation → List ℕ
  after_all s [] = s
  after_all s (o ∷ os) = after_all (after s o) os

  unfoldable pub all_put : List ℕ → List Operation → ℕ
  all_put s [] = 0
  all_put s (o ∷ os) = newly_put s o + all_put (after s o) os

  unfoldable pub all_removed : List ℕ → List Operation → ℕ
  all_removed s [] = 0
  all_removed s (o ∷ os) = taken s o + all_removed (after s o) os

  unfoldable pub all_copied : List ℕ → List Operation → ℕ
  all_copied s [] = 0
  all_copied s (o ∷ os) = copied s o + all_copied (after s o) os
