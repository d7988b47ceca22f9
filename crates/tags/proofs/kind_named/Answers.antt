-- `tags::kind_named` meets its contract: it asks for the bytes of the seven tags. Assumes nothing.
use native.Mathlib.Omega.{arith}
use borrow.Author.Tests.{eq-eqb, ne_eqb}
use Rattle.lists.specs.Lists.{same}
use Rattle.segments.specs.Kinds.{kind_named}
use Rattle.tags.proofs.Tagging.{named_as}
use Rattle.tags.proofs.kind_named.Goals.{then-first-ne85-via-then-first-ne85, then-first-ne85-via-else-first-ne85+then-second-ne78}
use Rattle.tags.proofs.kind_named.Goals as goal

pub returns-then-first-ne85 : goal.returns-then-first-ne85
unfolding kind_named same
returns-then-first-ne85 c =
    elim c.then-first-ne85.branch [
      | then-first-ne85-via-then-first-ne85 w ↦ simp (ne_eqb _ _ w.if-first-ne85.true)
      | then-first-ne85-via-else-first-ne85+then-second-ne78 w ↦ simp (eq-eqb _ _ w.if-first-ne85.false, ne_eqb _ _ w.if-second-ne78.true)
    ]

pub returns-in-66 : goal.returns-in-66
unfolding kind_named same
returns-in-66 c = named_as c.if-first-ne85.false c.if-second-ne78.false c.in-66.is

pub returns-in-71 : goal.returns-in-71
unfolding kind_named same
returns-in-71 c = named_as c.if-first-ne85.false c.if-second-ne78.false c.in-71.is

pub returns-in-72 : goal.returns-in-72
unfolding kind_named same
returns-in-72 c = named_as c.if-first-ne85.false c.if-second-ne78.false c.in-72.is

pub returns-in-83 : goal.returns-in-83
unfolding kind_named same
returns-in-83 c = named_as c.if-first-ne85.false c.if-second-ne78.false c.in-83.is

pub returns-in-84 : goal.returns-in-84
unfolding kind_named same
returns-in-84 c = named_as c.if-first-ne85.false c.if-second-ne78.false c.in-84.is

pub returns-in-69 : goal.returns-in-69
unfolding kind_named same
returns-in-69 c = named_as c.if-first-ne85.false c.if-second-ne78.false c.in-69.is

pub returns-in-90 : goal.returns-in-90
unfolding kind_named same
returns-in-90 c = named_as c.if-first-ne85.false c.if-second-ne78.false c.in-90.is

pub returns-in_default : goal.returns-in_default
unfolding kind_named same
returns-in_default c =
    simp (
      eq-eqb _ _ c.if-first-ne85.false,
      eq-eqb _ _ c.if-second-ne78.false,
      ne_eqb c.args.third 66 (omega arith),
      ne_eqb c.args.third 71 (omega arith),
      ne_eqb c.args.third 72 (omega arith),
      ne_eqb c.args.third 83 (omega arith),
      ne_eqb c.args.third 84 (omega arith),
      ne_eqb c.args.third 69 (omega arith),
      ne_eqb c.args.third 90 (omega arith),
    )
