-- `parties_laying::parties_laid` meets its contract. Assumes nothing.
use Prim.Native.Nat.{ℕ}
use mathlib.Core.Path.{◌≡◌, sym, ap, ◌∙◌}
use borrow.Author.Rules.{rules}
use Rattle.surface.specs.OfParties.{laid_parties}
use Rattle.surface.proofs.parties_laying.parties_laid.Goals as goal

pub returns-in-Ok : goal.returns-in-Ok
unfolding laid_parties
returns-in-Ok c = c.parties_beside.ensures ∙ sym (ap laid_parties c.in-Ok.is)

pub returns-in-Err : goal.returns-in-Err
unfolding laid_parties
returns-in-Err c =
    (λ k.
    record {
      number = c.refusal_number.ensures k;
      place = c.in-Err.refusal.place;
      sender = c.no_part.ensures k;
      recipient = c.no_part-in-Err.ensures k;
      reference = c.no_part-in-Err-2.ensures k;
    })
    ∙ sym (ap laid_parties c.in-Err.is)
