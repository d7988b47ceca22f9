-- `shelf::sums` meets its contract: the two sums as the head has them. Assumes nothing.
use Rattle.shelf_contracts.specs.Promises.{Sums}
use Rattle.shelves.specs.declared.TwoSums.{TwoSums}
use Rattle.refusals.specs.declared.Refusal.{Refusal}
use Rattle.std.specs.Prelude.{Result, Err}
use Rattle.std.proofs.Common.{rules}
use native.Mathlib.Omega.{arith}
use mathlib.Core.Path.{◌≡◌, sym, ap, subst, ◌∙◌}
use Rattle.shelves.specs.Layout.{Layout, version_two}
use Rattle.shelves.proofs.Sound.{says_sound}
use Rattle.shelf_soundness.proofs.Asking.{passed_sound, failed_sound}
use Rattle.shelf.proofs.Lent.{sums_unsound, sums_sound}
use Rattle.shelf.proofs.sums.Goals as goal

pub check_sound-requires : goal.check_sound-requires
check_sound-requires c = omega (arith, ap (λ (l : Layout). l.pairs) c.version_two.ensures)

pub returns-in_err-check_sound : goal.returns-in_err-check_sound
returns-in_err-check_sound c =
    let s = c.args.s.now in
    let e : c.from_residual.result ≡ Err c.in_err-check_sound.field-0.0 = search rules in
    let f = failed_sound version_two s c.version_two.ensures c.check_sound.ensures c.in_err-check_sound.was in
    subst (λ (r : Result TwoSums Refusal). Sums version_two s r) (sym (e ∙ ap Err f.1)) (sums_unsound version_two s f.0)

pub head_of-u-requires : goal.head_of-u-requires
head_of-u-requires c = let s = c.args.s.now in omega (arith, ((says_sound version_two s).0 (passed_sound version_two s c.version_two.ensures c.check_sound.ensures c.in_ok-check_sound.was)).least)

pub returns : goal.returns
returns c =
    let s = c.args.s.now in
    sums_sound version_two s c.head_of-u.result c.head_of-u.ensures (omega arith) (passed_sound version_two s c.version_two.ensures c.check_sound.ensures c.in_ok-check_sound.was)
