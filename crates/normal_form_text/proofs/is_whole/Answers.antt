-- `normal_form_text::is_whole` meets its contract. Assumes nothing.
use mathlib.Core.Bool.{false≢true}
use Rattle.normal_form_text.proofs.is_whole.Goals as goal

pub returns-then-not-is_normal : goal.returns-then-not-is_normal
returns-then-not-is_normal c e = absurd (false≢true e)

pub returns : goal.returns
returns c = c.is_unbroken.ensures
