-- `normalise::store_form` meets its contract: 14 answers, or the normal form is stored. Assumes nothing.
use Rattle.contracts.specs.Promises.{Normalises}
use Rattle.answers.specs.Answers.{Stored}
use mathlib.Core.Path.{sym, subst}
use native.Mathlib.Omega.{arith}
use Rattle.judge.proofs.Told.{length_of_lem, characters_of_lem}
use Rattle.normalise.proofs.Storing.{short_refuses}
use Rattle.normalise.proofs.store_form.Goals as goal

pub returns-then-buffer-i : goal.returns-then-buffer-i
returns-then-buffer-i c =
    let s = c.args.s.now in
    subst (λ (r : Stored). Normalises c.args.buffer.now s r c.args.buffer.now) (sym c.failed.ensures)
    (short_refuses c.args.buffer.now s c.requires.0 (length_of_lem s c.requires.1) c.if-buffer-i.true)

pub put_form-requires : goal.put_form-requires
put_form-requires c =
    let s = c.args.s.now in
    let (a, i) = c.requires in
    (a, characters_of_lem s i, omega (arith, length_of_lem s i, c.if-buffer-i.false))

pub returns : goal.returns
returns c = c.put_form.ensures
