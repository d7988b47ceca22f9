-- `surface::hverolda_value_part` meets its contract: the part is the one that `part_of` says. Assumes nothing.
use mathlib.Core.Path.{ap}
use borrow.Author.Rules.{rules}
use Rattle.values.specs.declared.Span.{Span}
use Rattle.locate.specs.Locating.{part_of as span_of}
use Rattle.surface.specs.Parts.{part_of}
use Rattle.surface.proofs.hverolda_value_part.Goals as goal

pub returns : goal.returns
unfolding part_of span_of
returns c = ap (λ (p : Span). record { offset = p.offset; length = p.length }) c.part_of-part.ensures.value
