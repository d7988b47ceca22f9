-- `shelf::slot_refusal` meets its contract: 19, then 20. Assumes nothing.
use Rattle.std.proofs.Common.{Err, rules}
use native.Mathlib.Omega.{arith}
use mathlib.Core.Path.{◌≡◌, refl, ap, ◌∙◌}
use Rattle.shelf_layout.specs.Laid.{laid}
use Rattle.shelf_soundness.proofs.Asking.{passed_sound, failed_sound}
use Rattle.shelves.proofs.Sound.{says_sound}
use Rattle.shelf.proofs.Refusing.{outcome_unsound, asked_here}
use Rattle.shelf.proofs.slot_refusal.Goals as goal

pub returns-in_err-check_sound : goal.returns-in_err-check_sound
returns-in_err-check_sound c =
    let x = c.args in
    let e : c.from_residual.result ≡ Err c.in_err-check_sound.field-0.0 = search rules in
    let f = failed_sound (laid x.l) x.s.now refl c.check_sound.ensures c.in_err-check_sound.was in
    e ∙ ap Err f.1 ∙ outcome_unsound (laid x.l) x.s.now x.slot f.0

pub map_of-requires : goal.map_of-requires
map_of-requires c =
    let x = c.args in
    let sane = passed_sound (laid x.l) x.s.now refl c.check_sound.ensures c.in_ok-check_sound.was in
    omega (arith, ((says_sound (laid x.l) x.s.now).0 sane).least)

pub returns : goal.returns
returns c =
    let x = c.args in
    let sane = passed_sound (laid x.l) x.s.now refl c.check_sound.ensures c.in_ok-check_sound.was in
    c.check_slot.ensures ∙ asked_here (laid x.l) x.s.now x.slot sane c.map_of.ensures
