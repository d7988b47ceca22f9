-- `slot_map::occupied` meets its contract. Assumes nothing.
use Prim.Native.Nat.{ℕ}
use mathlib.Core.Path.{ap, ◌∙◌}
use lib.Bits.{bit_or}
use Rattle.slot_map.proofs.Maps.{shifted, bit_added}
use borrow.Author.Rules.{rules}
use Rattle.slot_map.proofs.occupied.Goals as goal

pub returns : goal.returns
returns c = ap (bit_or c.args.map) (shifted c.args.slot c.requires.0) ∙ bit_added c.args.map c.args.slot c.requires.1
