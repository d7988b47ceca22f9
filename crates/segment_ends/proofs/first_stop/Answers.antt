-- `segment_ends::first_stop` meets its contract: where the way on does not stop at a byte, the next one is reached. Assumes nothing.
use Rattle.std.proofs.Common.{rules, arith, ◌≡◌, ◌+◌, false}
use Rattle.release_marks.specs.Marks.{marked_at}
use Rattle.release_marks.proofs.Reaching.{reached_all}
use Rattle.segment_ends.specs.Releases.{Told, stops_at}
use Rattle.segment_ends.proofs.Passing.{told_here, told_next}
use Rattle.segment_ends.proofs.first_stop.Goals as goal

pub returns : goal.returns
returns c =
    let x = c.args in
    let (most, none) = c.before_first.ensures in (
      most,
      reached_all (Told x.c x.s.now (x.from + 4)) x.c x.s.now x.from c.before_first.result c.requires.2 (told_here x.c x.s.now (omega arith))
          (λ k l. let here : stops_at x.c x.s.now (x.from + k) ≡ false = search (rules, none k l) in
          told_next x.c x.s.now c.requires.1 (x.from + 4) (marked_at x.c x.s.now (x.from + k)) (marked_at x.c x.s.now (x.from + k + 1))
          (x.from + k + 1 + 1 + 1 + 1) (omega arith) here),
    )
