-- `write::judged_length` meets its contract. Assumes nothing.
use Rattle.std.proofs.Common.{rules}
use Rattle.write.proofs.Writing.{judged_refused, judged_accepted}
use Rattle.write.proofs.judged_length.Goals as goal

pub returns-in_err-judge : goal.returns-in_err-judge
returns-in_err-judge c = judged_refused c.args.text.now c.judge.ensures c.in_err-judge.was (search rules)

pub returns : goal.returns
returns c = judged_accepted c.args.text.now c.judge.ensures c.in_ok-judge.was
