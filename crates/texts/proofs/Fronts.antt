-- A text begins with another exactly where its front is the other. Assumes nothing.
use Prim.Native.Nat.{ℕ}
use mathlib.Core.Path.{◌≡◌, refl, ap}
use mathlib.Core.Bool.{Bool, ◌&&◌}
use mathlib.Core.List.{List, [], ◌∷◌}
use lib.Dec.{eqb}
use lib.ListN.{length, take}
use lib.Pointwise.{pointwise}
use Rattle.lists.specs.Lists.{begins}

pub begins_is : (ps xs : List ℕ) → pointwise eqb ps (take (length ps) xs) ≡ begins ps xs
unfolding begins
begins_is [] xs = refl
begins_is (p ∷ ps) [] = refl
begins_is (p ∷ ps) (x ∷ xs) = ap (λ (t : Bool). eqb p x && t) (begins_is ps xs)
