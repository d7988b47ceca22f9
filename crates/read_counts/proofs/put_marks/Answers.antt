-- `read_counts::put_marks` meets its contract. Assumes nothing.
use Rattle.read_counts.proofs.Records.{lets_step, lets_end}
use Rattle.read_counts.proofs.put_marks.Goals as goal

pub loop-preserved : goal.loop-preserved
loop-preserved c = lets_step c.loop.m c.loop.invariant c.loop-test.true c.put_record.ensures c.after_marks-m.ensures

pub returns : goal.returns
returns c = lets_end c.loop.m c.loop.invariant c.loop-test.false
