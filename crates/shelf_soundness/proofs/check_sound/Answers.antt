-- `shelf_soundness::check_sound` meets its contract. Assumes nothing.
use mathlib.Core.Path.{sym, ◌∙◌}
use Rattle.shelf_layout.specs.Laid.{laid}
use Rattle.shelf_soundness.proofs.Asking.{asked_sound, asked_unsound}
use Rattle.shelf_soundness.proofs.check_sound.Goals as goal

pub returns-then-is_sound : goal.returns-then-is_sound
returns-then-is_sound c = let x = c.args in asked_sound (laid x.l) x.s.now (sym c.is_sound.ensures ∙ c.if-is_sound.true)

pub returns-else-is_sound : goal.returns-else-is_sound
returns-else-is_sound c = let x = c.args in asked_unsound (laid x.l) x.s.now (sym c.is_sound.ensures ∙ c.if-is_sound.false)
