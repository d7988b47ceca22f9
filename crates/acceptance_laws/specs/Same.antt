-- Paper 01, "Normal form" and "Operations": which interchanges are the same, and what Keep hands back. Assumes nothing.
use Rattle.std.specs.Prelude.{ℕ, ◌≡◌, List, take, drop}
use Rattle.stages.specs.Contents.{normal_form}
use Rattle.operations.specs.Compare.{Part, of_first, of_second}
use Rattle.acceptance_laws.specs.Allowed.{Allowed}

-- "Two interchanges are the same when both are accepted and their normal forms are equal."
pub record Same (a b : List ℕ) : Type 0 where
  pub first : Allowed a
  pub second : Allowed b
  pub normal : normal_form a ≡ normal_form b

-- the bytes of a part of the first input or of the second
unfoldable pub handed : List ℕ → List ℕ → Part → List ℕ
handed a b (of_first offset length) = take length (drop offset a)
handed a b (of_second offset length) = take length (drop offset b)
