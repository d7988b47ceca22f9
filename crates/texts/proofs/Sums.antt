-- A sum of bytes, one byte more at a time. Assumes nothing.
use Prim.Native.Nat.{ℕ, ◌+◌, ◌<◌}
use mathlib.Core.Path.{◌≡◌, ap, sym, ◌∙◌}
use mathlib.Core.List.{List, [], ◌∷◌}
use native.Mathlib.Numerals.{add-one}
use native.Mathlib.Omega.{arith}
use lib.ListN.{length, take, get_or}
use lib.Seq.{take-suc}
use Rattle.shelves.specs.Layout.{total}
use Rattle.shelves.proofs.Sums.{total_append}

pub sum_more : (s : List ℕ) (i sum : ℕ) → i < length s → sum ≡ total (take i s) → sum + get_or s i 0 ≡ total (take (i + 1) s)
unfolding total
sum_more s i sum h e =
    sym (ap (λ (n : ℕ). total (take n s)) (add-one i)
    ∙ ap total (take-suc s i 0 h)
    ∙ total_append (take i s) (get_or s i 0 ∷ [])
    ∙ omega arith)
