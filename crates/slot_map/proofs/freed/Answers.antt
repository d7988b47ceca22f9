-- `slot_map::freed` meets its contract. Assumes nothing.
use native.Mathlib.Omega.{arith}
use Prim.Native.Nat.{ℕ, ◌-◌}
use mathlib.Core.Path.{ap}
use Rattle.shelves.proofs.Bits.{bit_one, worth_least}
use Rattle.slot_map.proofs.Maps.{shifted}
use borrow.Author.Rules.{rules}
use Rattle.slot_map.proofs.freed.Goals as goal

pub overflow_sub-result : goal.overflow_sub-result
overflow_sub-result c = omega (arith, shifted c.args.slot c.requires.0, worth_least c.args.slot c.args.map (bit_one c.args.map c.args.slot c.requires.1))

pub returns : goal.returns
returns c = ap (λ (n : ℕ). c.args.map - n) (shifted c.args.slot c.requires.0)
