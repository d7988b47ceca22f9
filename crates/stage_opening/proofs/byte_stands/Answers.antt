-- `stage_opening::byte_stands` meets its contract: after the last byte nothing stands. Assumes nothing.
use Prim.Native.Nat.{◌+◌, ◌-◌}
use mathlib.Core.Path.{sym, ◌∙◌}
use native.Mathlib.Omega.{arith}
use lib.ListN.{length}
use borrow.Author.Tests.{le-ltb}
use Rattle.stage_opening.proofs.Beginnings.{stands_none, stands_byte}
use Rattle.stage_opening.proofs.byte_stands.Goals as goal

pub returns-then-after-s : goal.returns-then-after-s
returns-then-after-s c = sym (stands_byte c.args.s.now (c.args.at + c.args.after) c.args.b (omega arith))

pub returns-else-after-s : goal.returns-else-after-s
returns-else-after-s c =
    le-ltb c.args.after (length c.args.s.now - c.args.at) (omega arith)
    ∙ sym (stands_none c.args.s.now (c.args.at + c.args.after) c.args.b (omega arith))

pub returns-else-at-s : goal.returns-else-at-s
returns-else-at-s c =
    le-ltb c.args.at (length c.args.s.now) (omega arith)
    ∙ sym (stands_none c.args.s.now (c.args.at + c.args.after) c.args.b (omega arith))
