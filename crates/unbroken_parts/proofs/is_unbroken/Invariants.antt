-- `unbroken_parts::is_unbroken` meets its contract. The loop's invariant: where none below the space was found, none stands up to `at`. Assumes nothing.
use Prim.Native.Nat.{ℕ, ◌≤◌, ◌<◌}
use mathlib.Core.Path.{◌≡◌}
use mathlib.Core.Bool.{true}
use lib.Dec.{leb}
use lib.ListN.{get_or}
use Rattle.unbroken_parts.proofs.is_unbroken.Given as goal

abbrev pub invariant-loop-at : goal.invariant-loop-at
invariant-loop-at l = l.whole ≡ true → (k : ℕ) → l.start ≤ k → k < l.at → leb 32 (get_or l.s k 0) ≡ true
