-- `clean_walk::step_at` meets its contract: a user segment is told by its four bytes, any other by its tag. Assumes nothing.
use Rattle.clean_walk.proofs.Going.{user_steps}
use Rattle.clean_walk.proofs.step_at.Goals as goal

pub returns-then-is_user : goal.returns-then-is_user
returns-then-is_user c =
    let args = c.args in
    user_steps args.c args.s.now args.at args.kept (c.is_user.ensures c.if-is_user.true) c.user_step.ensures
