-- `stage_control::true_count` meets its contract: in each arm the kind is known. Assumes nothing.
use mathlib.Core.Path.{sym, ap, ◌∙◌}
use Rattle.stage_control.specs.Controlling.{count_due}
use Rattle.stage_control.proofs.true_count.Goals as goal

pub returns-in-Unt : goal.returns-in-Unt
returns-in-Unt c = rw c.in-Unt.is

pub returns-in-Unz : goal.returns-in-Unz
returns-in-Unz c = c.groups_or_messages.ensures ∙ ap (count_due c.args.w) (sym c.in-Unz.is)
