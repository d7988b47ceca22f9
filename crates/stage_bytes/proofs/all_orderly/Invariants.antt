-- `stage_bytes::all_orderly` meets its contract. The loop's invariant: all bytes are orderly just where none was found that is not, and those
-- after the four bytes at `at` are. Assumes nothing.
use Prim.Native.Nat.{◌+◌}
use mathlib.Core.Path.{◌≡◌}
use mathlib.Core.Bool.{◌&&◌}
use lib.ListN.{length, drop}
use Rattle.stage_bytes.specs.Orderly.{all_orderly}
use Rattle.stage_bytes.proofs.Tests.{window}
use Rattle.stage_bytes.proofs.all_orderly.Given as goal

abbrev pub invariant-loop-at : goal.invariant-loop-at
invariant-loop-at l = (all_orderly l.c l.level (drop l.start l.s) ≡ (l.found && window l.c l.level l.s l.at)) × (l.last + 4 ≡ length l.s)
