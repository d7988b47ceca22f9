-- `surface::laying::location_of` meets its contract: found, absent, or the refusal's number and place. Assumes nothing.
use Rattle.std.specs.Prelude.{Ok}
use mathlib.Core.Path.{sym, ap, ◌∙◌}
use borrow.Author.Rules.{rules}
use Rattle.lists.specs.Lists.{is_empty}
use Rattle.answers.specs.Answers.{given, told_located, Located}
use Rattle.surface.specs.Verdicts.{value}
use Rattle.surface.specs.Answered.{location_of}
use Rattle.surface.proofs.Laid.{refused_location}
use Rattle.surface.proofs.laying.location_of.Goals as goal

pub returns-in-Some : goal.returns-in-Some
unfolding told_located given location_of value is_empty
returns-in-Some c = sym (ap (λ (x : Located). location_of (told_located x)) (c.in-Ok.is ∙ ap Ok c.in-Some.is))

pub returns-in-None : goal.returns-in-None
unfolding told_located given location_of value is_empty
returns-in-None c = sym (ap (λ (x : Located). location_of (told_located x)) (c.in-Ok.is ∙ ap Ok c.in-None.is))

pub returns-in-Err : goal.returns-in-Err
unfolding told_located
returns-in-Err c = refused_location c.in-Err.refusal c.refusal_number.ensures
    ∙ sym (ap (λ (x : Located). location_of (told_located x)) c.in-Err.is)
