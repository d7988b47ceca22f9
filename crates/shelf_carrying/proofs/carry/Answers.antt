-- `shelf_carrying::carry` meets its contract: 19, then 18, or the shelf is carried. Assumes nothing.
use Rattle.std.proofs.Common.{Err, rules}
use native.Mathlib.Omega.{arith}
use mathlib.Core.Path.{◌≡◌, ap, ◌∙◌}
use Rattle.shelves.specs.Layout.{Layout, version_one, end_of}
use Rattle.shelves.proofs.Sound.{says_sound}
use Rattle.shelf_soundness.proofs.Asking.{passed_sound, failed_sound}
use Rattle.shelf_carrying.proofs.Answers.{carries-unsound, carries-roomless, carries-done}
use Rattle.shelf_carrying.proofs.carry.Goals as goal

pub check_sound-requires : goal.check_sound-requires
check_sound-requires c = omega (arith, ap (λ (l : Layout). l.pairs) c.version_one.ensures)

pub returns-in_err-check_sound : goal.returns-in_err-check_sound
returns-in_err-check_sound c =
    let s = c.args.s.now in
    let e : c.from_residual.result ≡ Err c.in_err-check_sound.field-0.0 = search rules in
    let f = failed_sound version_one s c.version_one.ensures c.check_sound.ensures c.in_err-check_sound.was in
    carries-unsound s (e ∙ ap Err f.1) f.0

pub end_of-requires : goal.end_of-requires
end_of-requires c =
    let s = c.args.s.now in
    let sane = passed_sound version_one s c.version_one.ensures c.check_sound.ensures c.in_ok-check_sound.was in
    let one = ap (λ (l : Layout). l.pairs) c.version_one-2.ensures in
    (omega (arith, ((says_sound version_one s).0 sane).least, one), omega (arith, one))

pub overflow_sub-s : goal.overflow_sub-s
overflow_sub-s c =
    let s = c.args.s.now in
    let sane = passed_sound version_one s c.version_one.ensures c.check_sound.ensures c.in_ok-check_sound.was in
    omega (arith, ((says_sound version_one s).0 sane).room, c.end_of.ensures, ap (λ (l : Layout). end_of l s) c.version_one-2.ensures)

pub returns-then-s-end_of-lt8 : goal.returns-then-s-end_of-lt8
returns-then-s-end_of-lt8 c =
    let s = c.args.s.now in
    let sane = passed_sound version_one s c.version_one.ensures c.check_sound.ensures c.in_ok-check_sound.was in
    let end = c.end_of.ensures ∙ ap (λ (l : Layout). end_of l s) c.version_one-2.ensures in
    carries-roomless s c.failed.ensures sane (omega (arith, end, c.if-s-end_of-lt8.true, ((says_sound version_one s).0 sane).room))

pub carry_up-requires : goal.carry_up-requires
carry_up-requires c =
    let s = c.args.s.now in
    let sane = passed_sound version_one s c.version_one.ensures c.check_sound.ensures c.in_ok-check_sound.was in
    let end = c.end_of.ensures ∙ ap (λ (l : Layout). end_of l s) c.version_one-2.ensures in
    (sane, omega (arith, end, c.if-s-end_of-lt8.false, ((says_sound version_one s).0 sane).room))

pub returns : goal.returns
returns c =
    let s = c.args.s.now in
    let sane = passed_sound version_one s c.version_one.ensures c.check_sound.ensures c.in_ok-check_sound.was in
    let end = c.end_of.ensures ∙ ap (λ (l : Layout). end_of l s) c.version_one-2.ensures in
    carries-done s sane (omega (arith, end, c.if-s-end_of-lt8.false, ((says_sound version_one s).0 sane).room)) c.carry_up.ensures
