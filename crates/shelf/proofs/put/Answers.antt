-- `shelf::put` meets its contract: 19, or the summary is read from the head and lent. Assumes nothing.
use Rattle.refusals.specs.declared.Refusal.{Refusal}
use Rattle.std.specs.Prelude.{Result, Err}
use Rattle.std.proofs.Common.{rules}
use native.Mathlib.Omega.{arith}
use mathlib.Core.Path.{◌≡◌, sym, ap, subst, ◌∙◌}
use Rattle.shelves.specs.Layout.{Layout, version_two}
use Rattle.shelves.proofs.Sound.{says_sound}
use Rattle.shelves.specs.declared.Shelved.{Shelved}
use Rattle.shelf_contracts.specs.Promises.{Puts}
use Rattle.shelf_soundness.proofs.Asking.{passed_sound, failed_sound}
use Rattle.shelf.proofs.Puts.{puts_unsound}
use Rattle.shelf.proofs.put.Goals as goal

pub check_sound-requires : goal.check_sound-requires
check_sound-requires c = omega (arith, ap (λ (l : Layout). l.pairs) c.version_two.ensures)

pub returns-in_err-check_sound : goal.returns-in_err-check_sound
returns-in_err-check_sound c =
    let x = c.args in
    let s = x.s.now in
    let e : c.from_residual.result ≡ Err c.in_err-check_sound.field-0.0 = search rules in
    let f = failed_sound version_two s c.version_two.ensures c.check_sound.ensures c.in_err-check_sound.was in
    subst (λ (r : Result Shelved Refusal). Puts version_two s x.input.now r s) (sym (e ∙ ap Err f.1)) (puts_unsound version_two s x.input.now f.0)

pub head_of-head-requires : goal.head_of-head-requires
head_of-head-requires c = let s = c.args.s.now in omega (arith, ((says_sound version_two s).0 (passed_sound version_two s c.version_two.ensures c.check_sound.ensures c.in_ok-check_sound.was)).least)

pub put_on-requires : goal.put_on-requires
put_on-requires c = let s = c.args.s.now in (passed_sound version_two s c.version_two.ensures c.check_sound.ensures c.in_ok-check_sound.was, c.head_of-head.ensures)

pub returns : goal.returns
returns c =
    let x = c.args in
    let on = c.put_on in
    subst (λ (r : Result Shelved Refusal). Puts version_two x.s.now x.input.now r on.new.s) (sym c.shelved_of.ensures) on.ensures
