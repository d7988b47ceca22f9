-- `read_counts::with_separator` meets its contract: a terminator ends a record. Assumes nothing.
use native.Mathlib.Omega.{arith}
use borrow.Author.Tests.{le-leb, lt-leb}
use mathlib.Core.Path.{ap}
use Rattle.emission_laws.specs.declared.Held.{Held}
use Rattle.read_counts.specs.Marks.{entry_next}
use Rattle.read_counts.specs.Tally.{entry_of, listing, after_separator}
use Prim.Native.Nat.{◌+◌}
use Rattle.read_counts.proofs.with_separator.Goals as goal

pub returns-then-rank-eq0 : goal.returns-then-rank-eq0
unfolding after_separator
returns-then-rank-eq0 c =
    let l = c.args.l in
    simp (le-leb c.args.rank 0 (omega arith)) (ap (λ (h : Held). listing (l.records + 1) (entry_next 0 (entry_of l)) h) c.after_separator-held.ensures)

pub returns : goal.returns
unfolding after_separator
returns c =
    let l = c.args.l in
    simp (lt-leb c.args.rank 0 (omega arith)) (ap (λ (h : Held). listing l.records (entry_of l) h) c.after_separator-held.ensures)
