-- `shelf::remove` meets its contract: 19, or the summary is read from the head and lent. Assumes nothing.
use Rattle.shelf_contracts.specs.Promises.{Removes}
use Rattle.answers.specs.Answers.{Stored}
use Rattle.std.specs.Prelude.{Err}
use Rattle.std.proofs.Common.{rules}
use native.Mathlib.Omega.{arith}
use mathlib.Core.Path.{◌≡◌, sym, ap, subst, ◌∙◌}
use Rattle.shelves.specs.Layout.{Layout, version_two}
use Rattle.shelves.proofs.Sound.{says_sound}
use Rattle.shelves.proofs.Answered.{slot_unsound}
use Rattle.shelf_soundness.proofs.Asking.{passed_sound, failed_sound}
use Rattle.shelf.proofs.Spans.{removes_refused}
use Rattle.shelf.proofs.remove.Goals as goal

pub check_sound-requires : goal.check_sound-requires
check_sound-requires c = omega (arith, ap (λ (l : Layout). l.pairs) c.version_two.ensures)

pub returns-in_err-check_sound : goal.returns-in_err-check_sound
returns-in_err-check_sound c =
    let x = c.args in
    let s = x.s.now in
    let e : c.from_residual.result ≡ Err c.in_err-check_sound.field-0.0 = search rules in
    let f = failed_sound version_two s c.version_two.ensures c.check_sound.ensures c.in_err-check_sound.was in
    subst (λ (r : Stored). Removes version_two s x.slot r s) (sym (e ∙ ap Err f.1)) (removes_refused version_two s x.slot (slot_unsound version_two s x.slot f.0))

pub head_of-head-requires : goal.head_of-head-requires
head_of-head-requires c = let s = c.args.s.now in omega (arith, ((says_sound version_two s).0 (passed_sound version_two s c.version_two.ensures c.check_sound.ensures c.in_ok-check_sound.was)).least)

pub remove_on-requires : goal.remove_on-requires
remove_on-requires c = let s = c.args.s.now in (passed_sound version_two s c.version_two.ensures c.check_sound.ensures c.in_ok-check_sound.was, c.head_of-head.ensures)
