-- `trimmed_values::is_alone` meets its contract: no byte stands from the value's end on. Assumes nothing.
use mathlib.Core.Path.{ap, ◌∙◌}
use mathlib.Core.Bool.{not}
use Rattle.elements.specs.Elements.{holds_byte}
use Rattle.trimmed_values.specs.Trimmed.{is_alone}
use Rattle.trimmed_values.proofs.is_alone.Goals as goal

pub returns : goal.returns
unfolding is_alone
returns c =
    ap not (c.holds_byte.ensures ∙ ap (holds_byte 1) c.value_end.ensures.0)
