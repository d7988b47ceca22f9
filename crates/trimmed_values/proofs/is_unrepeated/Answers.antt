-- `trimmed_values::is_unrepeated` meets its contract: no byte stands from the second repeat on. Assumes nothing.
use mathlib.Core.Path.{ap, ◌∙◌}
use mathlib.Core.Bool.{not}
use Rattle.elements.specs.Elements.{holds_byte}
use Rattle.trimmed_values.specs.Trimmed.{is_unrepeated}
use Rattle.trimmed_values.proofs.is_unrepeated.Goals as goal

pub returns : goal.returns
unfolding is_unrepeated
returns c = ap not (c.holds_byte.ensures ∙ ap (holds_byte 1) c.repeat_at.ensures.0)
