-- `tags::is_tag` meets its contract: it asks the test of each byte. Assumes nothing.
use mathlib.Core.Path.{sym, ◌∙◌}
use mathlib.Core.Bool.{and-true, false≢true}
use Rattle.lists.specs.Lists.{all}
use Rattle.segments.specs.Tags.{is_tag}
use Rattle.tags.proofs.is_tag.Goals.{then-tag_byte, else-tag_byte}
use Rattle.tags.proofs.is_tag.Goals as goal

pub returns-then-tag_byte-2 : goal.returns-then-tag_byte-2
unfolding is_tag all
returns-then-tag_byte-2 c =
    elim c.if-tag_byte.branch [
      | then-tag_byte w ↦
          simp (
            sym c.tag_byte.ensures ∙ w.if-tag_byte.true,
            sym w.tag_byte-then-tag_byte.ensures ∙ sym w.value-is ∙ c.if-tag_byte-2.true,
            c.tag_byte-then-tag_byte-2.ensures,
            and-true,
          )
      | else-tag_byte w ↦ absurd (false≢true (sym w.if-tag_byte.false ∙ sym w.value-is ∙ c.if-tag_byte-2.true))
    ]

pub returns-else-tag_byte-2 : goal.returns-else-tag_byte-2
unfolding is_tag all
returns-else-tag_byte-2 c =
    elim c.if-tag_byte.branch [
      | then-tag_byte w ↦
          simp (
            c.if-tag_byte-2.false,
            sym c.tag_byte.ensures ∙ w.if-tag_byte.true,
            sym w.tag_byte-then-tag_byte.ensures ∙ sym w.value-is ∙ c.if-tag_byte-2.false,
          )
      | else-tag_byte w ↦ simp (c.if-tag_byte-2.false, sym c.tag_byte.ensures ∙ w.if-tag_byte.false)
    ]
