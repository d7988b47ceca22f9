-- `tags::well_named` meets its contract: it asks the rule's tests one by one. Assumes nothing.
use mathlib.Core.Path.{sym, ap, ◌∙◌}
use borrow.Author.Tests.{eq-eqb, ne_eqb, not-true, not-false}
use Rattle.lists.specs.Lists.{begins}
use Rattle.segments.specs.declared.Kind.TheVariants.{User}
use Rattle.segments.specs.Kinds.{is}
use Rattle.tags.specs.Naming.{well_named}
use Rattle.tags.proofs.Tagging.{user_is}
use Rattle.tags.proofs.well_named.Goals.{then-first-ne85-via-then-first-ne85, then-first-ne85-via-else-first-ne85+then-second-ne78}
use Rattle.tags.proofs.well_named.Goals as goal

pub returns-then-not-is_tag : goal.returns-then-not-is_tag
unfolding well_named
returns-then-not-is_tag c = simp (sym c.is_tag.ensures ∙ not-true c.is_tag.result c.if-not-is_tag.true-raw)

pub returns-then-first-ne85 : goal.returns-then-first-ne85
unfolding well_named begins
returns-then-first-ne85 c =
    elim c.then-first-ne85.branch [
      | then-first-ne85-via-then-first-ne85 w ↦
          simp (
            sym c.is_tag.ensures ∙ not-false c.is_tag.result c.if-not-is_tag.false-raw,
            ne_eqb 85 c.args.first (λ e. w.if-first-ne85.true (sym e)),
          )
      | then-first-ne85-via-else-first-ne85+then-second-ne78 w ↦
          simp (
            sym c.is_tag.ensures ∙ not-false c.is_tag.result c.if-not-is_tag.false-raw,
            eq-eqb 85 c.args.first (sym w.if-first-ne85.false),
            ne_eqb 78 c.args.second (λ e. w.if-second-ne78.true (sym e)),
          )
    ]

pub returns-then-not-is_user : goal.returns-then-not-is_user
unfolding well_named begins
returns-then-not-is_user c =
    simp (
      sym c.is_tag.ensures ∙ not-false c.is_tag.result c.if-not-is_tag.false-raw,
      eq-eqb 85 c.args.first (sym c.if-first-ne85.false),
      eq-eqb 78 c.args.second (sym c.if-second-ne78.false),
      sym (c.is_user.ensures ∙ user_is c.kind_named.result ∙ ap (is User) c.kind_named.ensures)
          ∙ not-true c.is_user.result c.if-not-is_user.true-raw,
    )

pub returns-else-not-is_user : goal.returns-else-not-is_user
unfolding well_named begins
returns-else-not-is_user c =
    simp (
      sym c.is_tag.ensures ∙ not-false c.is_tag.result c.if-not-is_tag.false-raw,
      eq-eqb 85 c.args.first (sym c.if-first-ne85.false),
      eq-eqb 78 c.args.second (sym c.if-second-ne78.false),
      sym (c.is_user.ensures ∙ user_is c.kind_named.result ∙ ap (is User) c.kind_named.ensures)
          ∙ not-false c.is_user.result c.if-not-is_user.false-raw,
      c.if-not-is_user.false-raw,
    )
