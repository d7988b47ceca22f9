-- `shelf::slots_of` meets its contract. Assumes nothing.
use Rattle.shelf_contracts.specs.Promises.{Counts}
use Rattle.shelves.specs.declared.Slots.{Slots}
use Rattle.refusals.specs.declared.Refusal.{Refusal}
use Rattle.std.specs.Prelude.{Result, Err}
use Rattle.std.proofs.Common.{rules}
use native.Mathlib.Omega.{arith}
use mathlib.Core.Path.{◌≡◌, refl, sym, ap, subst, ◌∙◌}
use Rattle.shelf_layout.specs.Laid.{laid}
use Rattle.shelf_soundness.proofs.Asking.{passed_sound, failed_sound}
use Rattle.shelves.proofs.Sound.{says_sound}
use Rattle.shelf.proofs.Spans.{counts_unsound, counts_sound}
use Rattle.shelf.proofs.slots_of.Goals as goal

pub returns-in_err-check_sound : goal.returns-in_err-check_sound
returns-in_err-check_sound c =
    let x = c.args in
    let e : c.from_residual.result ≡ Err c.in_err-check_sound.field-0.0 = search rules in
    let f = failed_sound (laid x.l) x.s.now refl c.check_sound.ensures c.in_err-check_sound.was in
    subst (λ (r : Result Slots Refusal). Counts (laid x.l) x.s.now r) (sym (e ∙ ap Err f.1)) (counts_unsound (laid x.l) x.s.now f.0)

pub map_of-map-requires : goal.map_of-map-requires
map_of-map-requires c =
    let x = c.args in
    let sane = passed_sound (laid x.l) x.s.now refl c.check_sound.ensures c.in_ok-check_sound.was in
    omega (arith, ((says_sound (laid x.l) x.s.now).0 sane).least)

pub returns : goal.returns
returns c =
    let x = c.args in
    let sane = passed_sound (laid x.l) x.s.now refl c.check_sound.ensures c.in_ok-check_sound.was in
    counts_sound (laid x.l) x.s.now sane c.map_of-map.ensures c.count.ensures c.lowest_free.ensures
