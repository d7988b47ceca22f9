-- `stretches::respelled` meets its contract: it asks which separator the byte is in the order in which its part is told. Assumes nothing.
use borrow.Author.Tests.{eq-eqb, ne_eqb}
use Rattle.characters.specs.Characters.{role, has_repetition}
use Rattle.stretches.specs.Stretches.{respelled}
use Rattle.stretches.proofs.Steps.{respelled_other}
use Rattle.stretches.proofs.respelled.Goals as goal

pub returns-then-b-c : goal.returns-then-b-c
unfolding respelled role
returns-then-b-c c = simp (eq-eqb _ _ c.if-b-c.true)

pub returns-then-b-c-2 : goal.returns-then-b-c-2
unfolding respelled role
returns-then-b-c-2 c = simp (ne_eqb _ _ c.if-b-c.false, eq-eqb _ _ c.if-b-c-2.true)

pub returns-then-c-b : goal.returns-then-c-b
unfolding respelled role has_repetition
returns-then-c-b c = simp (ne_eqb _ _ c.if-b-c.false, ne_eqb _ _ c.if-b-c-2.false, c.if-c-b.true)

pub returns-then-b-c-3 : goal.returns-then-b-c-3
unfolding respelled role has_repetition
returns-then-b-c-3 c =
    simp (
      ne_eqb _ _ c.if-b-c.false,
      ne_eqb _ _ c.if-b-c-2.false,
      c.if-c-b.false,
      eq-eqb _ _ c.if-b-c-3.true,
    )

pub returns : goal.returns
unfolding has_repetition
returns c =
    let x = c.args in
    respelled_other x.c x.n x.b (ne_eqb _ _ c.if-b-c.false)
    (ne_eqb _ _ c.if-b-c-2.false) c.if-c-b.false (ne_eqb _ _ c.if-b-c-3.false)
