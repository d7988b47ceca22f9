-- "over 32,000 bytes" is not met exactly by 32,000 bytes or fewer. Assumes nothing.
use Prim.Native.Nat.{ℕ, ◌≤◌}
use mathlib.Core.Path.{◌≡◌}
use mathlib.Core.List.{List, []}
use mathlib.Core.Logic.{◌↔◌}
use lib.ListN.{length}
use lib.Dec.{ltb}
use borrow.Author.Tests.{ltb-false, le-ltb}
use Rattle.refusals.specs.Refusals.{place_if}
use Rattle.refusals.proofs.Stages.{place_none}
use Rattle.stages.specs.Places.{is_over}
use Rattle.refusals.specs.Limits.{most_bytes}

pub within : (s : List ℕ) (p : ℕ) → (place_if (is_over s) p ≡ []) ↔ (length s ≤ most_bytes)
unfolding is_over
within s p =
    let test = place_none (ltb most_bytes (length s)) p in
    (λ h. ltb-false most_bytes (length s) (test.0 h), λ h. test.1 (le-ltb most_bytes (length s) h))
