-- `stage_opening::characters_of` meets its contract: it makes the definition's tests, that for version 4 after that for `UNB+`. Assumes nothing.
use mathlib.Core.Path.{sym, ◌∙◌}
use Rattle.characters.specs.Characters.{control_characters, six_bytes}
use Rattle.stage_opening.proofs.Beginnings.{begins_plus, characters_advised, characters_plus, characters_control}
use Rattle.stage_opening.proofs.characters_of.Goals as goal

pub returns-then-is_advised : goal.returns-then-is_advised
returns-then-is_advised c =
    characters_advised _
    (sym c.is_advised.ensures ∙ c.if-is_advised.true)
    c.byte_at.ensures
    c.byte_at-then-is_advised.ensures
    c.byte_at-then-is_advised-2.ensures
    c.byte_at-then-is_advised-3.ensures
    c.byte_at-then-is_advised-4.ensures
    c.byte_at-then-is_advised-5.ensures

pub returns-then-tag_stands-byte_stands : goal.returns-then-tag_stands-byte_stands
returns-then-tag_stands-byte_stands c =
    characters_plus _ c.names_version4.ensures (sym c.is_advised.ensures ∙ c.if-is_advised.false)
    (begins_plus _ c.tag_stands.ensures c.byte_stands.ensures c.if-tag_stands-byte_stands.true)
    c.plus_characters.ensures

pub returns : goal.returns
unfolding control_characters six_bytes
returns c =
    characters_control _ (sym c.is_advised.ensures ∙ c.if-is_advised.false)
    (begins_plus _ c.tag_stands.ensures c.byte_stands.ensures c.if-tag_stands-byte_stands.false)
