-- `verbatim::ends_repeat` meets its contract: a space means that there is no repetition separator. Assumes nothing.
use borrow.Author.Tests.{eq-eqb, ne_eqb}
use Rattle.characters.specs.Characters.{has_repetition}
use Rattle.verbatim.specs.Verbatim.{ends_repeat}
use Rattle.verbatim.proofs.ends_repeat.Goals as goal

pub returns-then-c-eq32 : goal.returns-then-c-eq32
unfolding ends_repeat has_repetition
returns-then-c-eq32 c = simp (eq-eqb _ _ c.if-c-eq32.true)

pub returns : goal.returns
unfolding ends_repeat has_repetition
returns c = simp (ne_eqb _ _ c.if-c-eq32.false)
