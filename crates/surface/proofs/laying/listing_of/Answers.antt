-- `surface::laying::listing_of` meets its contract: both lengths, or the refusal's number and place. Assumes nothing.
use Rattle.refusals.specs.declared.Refusal.{Refusal}
use Rattle.std.specs.Prelude.{Result}
use mathlib.Core.Path.{sym, ap, ◌∙◌}
use borrow.Author.Rules.{rules}
use Rattle.answers.specs.declared.Listed.{Listed}
use Rattle.answers.specs.Answers.{given, told_listed}
use Rattle.surface.specs.Verdicts.{value}
use Rattle.surface.specs.Answered.{listing_of}
use Rattle.surface.proofs.Laid.{refused_listing}
use Rattle.surface.proofs.laying.listing_of.Goals as goal

pub returns-in-Ok : goal.returns-in-Ok
unfolding told_listed given listing_of value
returns-in-Ok c = sym (ap (λ (x : Result Listed Refusal). listing_of (told_listed x)) c.in-Ok.is)

pub returns-in-Err : goal.returns-in-Err
unfolding told_listed
returns-in-Err c = refused_listing c.in-Err.refusal c.refusal_number.ensures
    ∙ sym (ap (λ (x : Result Listed Refusal). listing_of (told_listed x)) c.in-Err.is)
