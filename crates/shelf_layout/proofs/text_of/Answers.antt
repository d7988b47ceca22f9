-- `shelf_layout::text_of` meets its contract: the bytes from its start up to its end. Assumes nothing.
use Prim.Native.Nat.{ℕ}
use mathlib.Core.Path.{ap₂, ◌∙◌}
use native.Mathlib.Nat.{add-sub_cancel_left}
use native.Mathlib.Omega.{arith}
use lib.ListN.{take, drop}
use Rattle.shelves.specs.Layout.{text_of}
use Rattle.shelf_layout.proofs.text_of.Goals as goal

pub slice_bounds-result-end : goal.slice_bounds-result-end
slice_bounds-result-end c = omega (arith, c.requires.2, c.start_of-start.ensures.0, c.length_of.ensures.0)

pub returns : goal.returns
unfolding text_of
returns c =
    let x = c.args in
    ap₂ (λ (i j : ℕ). take i (drop j x.s.now)) (add-sub_cancel_left c.start_of-start.result c.length_of.result ∙ c.length_of.ensures.0) c.start_of-start.ensures.0
