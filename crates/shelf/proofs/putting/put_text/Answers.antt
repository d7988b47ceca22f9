-- `putting::put_text` meets its contract: Judge's refusals, or what is accepted is put. Assumes nothing.
use Rattle.refusals.specs.declared.Refusal.{Refusal}
use Rattle.shelf_summary.specs.declared.Placed.{Placed}
use Rattle.std.specs.Prelude.{Err, Result}
use native.Mathlib.Omega.{arith}
use mathlib.Core.Path.{◌≡◌, sym, ap, subst}
use mathlib.Core.Bool.{true}
use Rattle.shelves.specs.Layout.{Layout}
use Rattle.shelves.specs.Soundness.{sound}
use Rattle.judge.proofs.Told.{told_accepted, told_refused}
use Rattle.shelves.specs.Layout.{version_two}
use Rattle.shelf.specs.Parts.{PutsText}
use Rattle.shelf.proofs.Puts.{puts_judged}
use borrow.Author.Rules.{rules}
use Rattle.shelf.proofs.putting.put_text.Goals as goal

pub put_accepted-requires : goal.put_accepted-requires
put_accepted-requires c =
    let x = c.args in
    let known = c.requires in
    let two = c.version_two.ensures in
    let pairs = ap (λ (l : Layout). l.pairs) two in
    ((subst (λ (l : Layout). sound l x.s.now ≡ true) (sym two) known.0, (omega arith, omega arith), known.1), told_accepted x.input.now c.judge.ensures c.in_ok-figures.was)

pub returns-in_err-figures : goal.returns-in_err-figures
returns-in_err-figures c =
    let x = c.args in
    let known = c.requires in
    let e : c.from_residual.result ≡ Err c.in_err-figures.field-0.0 = search rules in
    subst (λ (r : Result Placed Refusal). PutsText version_two x.s.now x.input.now r x.s.now) (sym e)
    (puts_judged version_two x.s.now x.input.now x.u known.1 known.0 (told_refused x.input.now c.judge.ensures c.in_err-figures.was))

pub returns : goal.returns
returns c =
    let x = c.args in
    subst (λ (l : Layout). PutsText l x.s.now x.input.now c.put_accepted.result c.put_accepted.new.s) c.version_two.ensures
    c.put_accepted.ensures
