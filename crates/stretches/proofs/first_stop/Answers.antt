-- `stretches::first_stop` meets its contract: where the stretch does not stop at a byte, the next one is reached. Assumes nothing.
use Rattle.std.proofs.Common.{rules, arith, ◌≡◌, ◌+◌, false}
use Rattle.release_marks.specs.Marks.{marked_at}
use Rattle.release_marks.proofs.Reaching.{reached_all}
use Rattle.stretches.specs.Releases.{Passes, stays, stops_at}
use Rattle.stretches.proofs.Releasing.{passes_next}
use Rattle.stretches.proofs.first_stop.Goals as goal

pub returns : goal.returns
returns c =
    let x = c.args in
    let (most, none) = c.before_first.ensures in (
      most,
      λ n v.
          reached_all (Passes x.c n x.s.now (x.from + 4)) x.c x.s.now x.from c.before_first.result c.requires.1
          (stays {to = x.from + 1 + 1 + 1 + 1} (omega arith))
          (λ k l. let here : stops_at x.c x.s.now (x.from + k) ≡ false = search (rules, none k l) in
          passes_next x.c n v x.s.now (x.from + 4) (marked_at x.c x.s.now (x.from + k)) (marked_at x.c x.s.now (x.from + k + 1))
          (x.from + k + 1 + 1 + 1 + 1) (omega arith) here),
    )
