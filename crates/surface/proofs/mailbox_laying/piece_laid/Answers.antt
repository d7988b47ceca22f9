-- `mailbox_laying::piece_laid` meets its contract. Assumes nothing.
use Prim.Native.Nat.{ℕ}
use mathlib.Core.Path.{◌≡◌, sym, ap, ◌∙◌}
use borrow.Author.Rules.{rules}
use Rattle.surface.specs.OfMailbox.{laid_ending}
use Rattle.surface.proofs.mailbox_laying.piece_laid.Goals as goal

pub returns-in-AfterUnz : goal.returns-in-AfterUnz
unfolding laid_ending
returns-in-AfterUnz c = sym (ap (laid_ending _) c.in-AfterUnz.is)

pub returns-in-Stopped : goal.returns-in-Stopped
unfolding laid_ending
returns-in-Stopped c =
    let r = c.in-Stopped.refusal in
    ap (λ (n : ℕ). record { number = n; ended = 0; place = r.place; end = c.args.length }) c.refusal_number-number.ensures
    ∙ sym (ap (laid_ending _) c.in-Stopped.is)

pub returns-in-FileEnd : goal.returns-in-FileEnd
unfolding laid_ending
returns-in-FileEnd c = sym (ap (laid_ending _) c.in-FileEnd.is)
