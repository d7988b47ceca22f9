-- `shelf_carrying::carry_back` meets its contract: 19, or the shelf is carried back. Assumes nothing.
use Rattle.std.proofs.Common.{Err, rules}
use native.Mathlib.Omega.{arith}
use mathlib.Core.Path.{◌≡◌, ap, ◌∙◌}
use Rattle.shelves.specs.Layout.{Layout, version_two}
use Rattle.shelf_soundness.proofs.Asking.{passed_sound, failed_sound}
use Rattle.shelf_carrying.proofs.Answers.{back-unsounded, back-carried}
use Rattle.shelf_carrying.proofs.carry_back.Goals as goal

pub check_sound-requires : goal.check_sound-requires
check_sound-requires c = omega (arith, ap (λ (l : Layout). l.pairs) c.version_two.ensures)

pub returns-in_err-check_sound : goal.returns-in_err-check_sound
returns-in_err-check_sound c =
    let s = c.args.s.now in
    let e : c.from_residual.result ≡ Err c.in_err-check_sound.field-0.0 = search rules in
    let f = failed_sound version_two s c.version_two.ensures c.check_sound.ensures c.in_err-check_sound.was in
    back-unsounded s (e ∙ ap Err f.1) f.0

pub carry_down-requires : goal.carry_down-requires
carry_down-requires c =
    passed_sound version_two c.args.s.now c.version_two.ensures c.check_sound.ensures c.in_ok-check_sound.was

pub returns : goal.returns
returns c =
    let s = c.args.s.now in
    back-carried s (passed_sound version_two s c.version_two.ensures c.check_sound.ensures c.in_ok-check_sound.was) c.carry_down.ensures
