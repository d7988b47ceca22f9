-- `scanner::segment_end` meets its contract: where the scan ends with a terminator, that is the next one. Assumes nothing.
use native.Mathlib.Omega.{arith}
use Rattle.scanner.proofs.Scanning.{scans_as, ended_beyond}
use Rattle.scanner.proofs.segment_end.Goals as goal

pub returns-in-Ended : goal.returns-in-Ended
returns-in-Ended c =
    let h = scans_as _ _ _ c.scan.ensures c.in-Ended.is in
    (ended_beyond _ h.0, omega arith, λ inside. omega arith, λ inside. h.2)
