-- `level_classes::is_set` meets its contract: a byte's number in the mask is counted round after 255. Assumes nothing.
use Rattle.std.proofs.Common.{◌+◌, ◌-◌, ◌%◌, arith}
use Rattle.level_classes.specs.Masks.{bit_set}
use Rattle.level_classes.proofs.Classes.{set_counted}
use Rattle.level_classes.proofs.is_set.Goals as goal

pub returns : goal.returns
unfolding bit_set
returns c =
    let args = c.args in
    set_counted args.mask args.first args.b ((args.b + (256 - args.first)) % 256) (omega arith) c.requires (omega arith) (omega arith)
