-- `read_counts::with_byte` meets its contract: what is held back is let out, then the byte is added. Assumes nothing.
use mathlib.Core.Path.{ap}
use native.Mathlib.Omega.{arith}
use Rattle.read_counts.specs.declared.Listing.{Listing}
use Rattle.read_counts.specs.Tally.{end}
use Rattle.read_counts.proofs.Steps.{end_held}
use Rattle.read_counts.proofs.with_byte.Goals as goal

pub with_one_more-requires : goal.with_one_more-requires
with_one_more-requires c = omega (arith, ap (λ (m : Listing). end m) c.put_held.ensures.1, end_held c.args.l)
