-- `big_endian::put` meets its contract. The loop's invariant: what is left of the number, stored in the bytes that are left, gives what the
-- whole gives. Assumes nothing.
use Prim.Native.Nat.{ℕ}
use mathlib.Core.Path.{◌≡◌, sym, ap, ◌∙◌}
use native.Mathlib.Omega.{arith}
use lib.Seq.{sets}
use Rattle.numbers.specs.Numbers.{in_bytes}
use Rattle.big_endian.proofs.Steps.{one_stored}
use Rattle.big_endian.proofs.put.Goals as goal

pub loop-i-preserved : goal.loop-i-preserved
loop-i-preserved c = let loop = c.loop-i in loop.invariant ∙ one_stored loop.s c.args.at loop.i loop.rest (omega arith)

pub returns : goal.returns
unfolding in_bytes
returns c =
    let loop = c.loop-i in
    let none : loop.i ≡ 0 = omega arith in
    sym (loop.invariant ∙ ap (λ (n : ℕ). sets loop.s c.args.at (in_bytes n loop.rest)) none)
