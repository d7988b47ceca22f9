-- `acknowledgement_parts::check_part` meets its contract: only a lent list may have a record that cannot stand. Assumes nothing.
use mathlib.Core.Path.{◌∙◌}
use mathlib.Core.Logic.{inl, inr}
use Rattle.acknowledgement_parts.specs.Parts.{lent_in}
use Rattle.acknowledgement_parts.proofs.Cases.{fine_as, stands_as, bare_as}
use Rattle.acknowledgement_parts.proofs.Bare.{word_stands, syntax_stands, element_stands, lent_bare}
use Rattle.acknowledgement_parts.proofs.check_part.Goals as goal

pub check_release-requires : goal.check_release-requires
check_release-requires c =
    let x = c.args in
    (fine_as x.s.now x.d (lent_in x.lent.now) c.in-Date.is c.requires.0).good

pub check_release-requires-in-Reference : goal.check_release-requires-in-Reference
check_release-requires-in-Reference c =
    let x = c.args in
    (fine_as x.s.now x.d (lent_in x.lent.now) c.in-Reference.is c.requires.0).good

pub check_release-requires-in-Message : goal.check_release-requires-in-Message
check_release-requires-in-Message c =
    let x = c.args in
    (fine_as x.s.now x.d (lent_in x.lent.now) c.in-Message.is c.requires.0).good

pub returns-in-Word : goal.returns-in-Word
returns-in-Word c =
    let x = c.args in
    let l = lent_in x.lent.now in
    elim c.in-Word.is [
      | inl word ↦ bare_as x.s.now x.d l word.3 x.c (word_stands x.c _ _ _ (fine_as x.s.now x.d l word.3 c.requires.0).0 (stands_as x.s.now x.d l word.3 x.c c.requires.1))
      | inr others ↦
          elim others [
            | inl syntax ↦ bare_as x.s.now x.d l syntax.2 x.c (syntax_stands x.c x.s.now x.d _ _ (stands_as x.s.now x.d l syntax.2 x.c c.requires.1))
            | inr element ↦ bare_as x.s.now x.d l element.1 x.c (element_stands x.c x.s.now x.d _ (stands_as x.s.now x.d l element.1 x.c c.requires.1))
          ]
    ]

pub returns-in-Date : goal.returns-in-Date
returns-in-Date c =
    let x = c.args in
    let e = c.in-Date.is in
    bare_as x.s.now x.d (lent_in x.lent.now) e x.c (c.check_release.ensures ∙ lent_bare x.c x.lent.now.date.bytes.now x.lent.now.date.table.now (fine_as x.s.now x.d (lent_in x.lent.now) e c.requires.0).first)

pub returns-in-Reference : goal.returns-in-Reference
returns-in-Reference c =
    let x = c.args in
    let e = c.in-Reference.is in
    bare_as x.s.now x.d (lent_in x.lent.now) e x.c (c.check_release-in-Reference.ensures ∙ lent_bare x.c x.lent.now.reference.bytes.now x.lent.now.reference.table.now (fine_as x.s.now x.d (lent_in x.lent.now) e c.requires.0).first)

pub returns-in-Message : goal.returns-in-Message
returns-in-Message c =
    let x = c.args in
    let e = c.in-Message.is in
    bare_as x.s.now x.d (lent_in x.lent.now) e x.c (c.check_release-in-Message.ensures ∙ lent_bare x.c x.lent.now.message.bytes.now x.lent.now.message.table.now (fine_as x.s.now x.d (lent_in x.lent.now) e c.requires.0).first)
