-- The number 0 of an answer says that nothing is refused. Assumes nothing.
use Prim.Native.Nat.{ℕ}
use mathlib.Core.Path.{◌≡◌, refl}
use mathlib.Core.List.{List}
use mathlib.Core.Option.{Option, none, some}
use Rattle.lists.specs.Lists.{maybe}
use Rattle.refusals.specs.declared.Refusal.{Refusal}
use Rattle.refusals.proofs.Order.{number_not_zero}
use Rattle.answers.specs.Answers.{given, refused}

pub unrefused : (values : List ℕ) (o : Option Refusal) → (maybe (given values) refused o).number ≡ 0 → o ≡ none
unfolding maybe given refused
unrefused values none e = refl
unrefused values (some r) e = absurd (number_not_zero r.fault e)
