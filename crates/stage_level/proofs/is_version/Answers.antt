-- `stage_level::is_version` meets its contract: it asks for 4, and where there is no repetition separator for 1 and 2. Assumes nothing.
use mathlib.Core.Path.{sym, ◌∙◌}
use borrow.Author.Tests.{ne_eqb}
use Rattle.stage_level.proofs.Heading.{version_four, version_repeating, version_old}
use Rattle.stage_level.proofs.is_version.Goals as goal

pub returns-then-is_text : goal.returns-then-is_text
returns-then-is_text c = c.if-is_text.true ∙ version_four c.args.c _ (sym c.is_text.ensures ∙ c.if-is_text.true)

pub returns-then-is_text-2 : goal.returns-then-is_text-2
returns-then-is_text-2 c =
    c.if-is_text-2.true
    ∙ sym
    (version_old c.args.c _ (sym c.is_text.ensures ∙ c.if-is_text.false) c.if-c-eq32.true
    ∙ simp (sym c.is_text-then-c-eq32.ensures ∙ c.if-is_text-2.true))

pub returns-else-is_text-2 : goal.returns-else-is_text-2
returns-else-is_text-2 c =
    c.is_text-else-is_text-2.ensures
    ∙ sym
    (version_old c.args.c _ (sym c.is_text.ensures ∙ c.if-is_text.false) c.if-c-eq32.true
    ∙ simp (sym c.is_text-then-c-eq32.ensures ∙ c.if-is_text-2.false))

pub returns-else-c-eq32 : goal.returns-else-c-eq32
returns-else-c-eq32 c =
    ne_eqb c.args.c.repetition 32 c.if-c-eq32.false
    ∙ version_repeating c.args.c _ (sym c.is_text.ensures ∙ c.if-is_text.false) c.if-c-eq32.false
