-- `value_list_text::short_length` meets its contract: it makes the definition's test. Assumes nothing.
use Rattle.std.proofs.Common.{◌∙◌}
use Rattle.value_list_text.proofs.Lengths.{short_then}
use Rattle.value_list_text.proofs.short_length.Goals as goal

pub returns : goal.returns
returns c = c.then_some.ensures ∙ short_then c.args.n
