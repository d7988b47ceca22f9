-- `shelf::check_slot` meets its contract. Assumes nothing.
use mathlib.Core.Path.{sym, ap, ap₂, ◌∙◌}
use mathlib.Core.Bool.{Bool, ◌&&◌}
use borrow.Author.Tests.{lt-ltb, le-ltb}
use Rattle.shelves.specs.Layout.{bit}
use Rattle.shelf.proofs.Refusing.{slot_passes, slot_fails}
use Rattle.shelf.proofs.check_slot.Goals.{else-slot-lt-SLOTS-via-then-slot-lt-SLOTS+else-is_occupied, else-slot-lt-SLOTS-via-else-slot-lt-SLOTS}
use Rattle.shelf.proofs.check_slot.Goals as goal

pub returns-then-is_occupied : goal.returns-then-is_occupied
returns-then-is_occupied c =
    let x = c.args in
    slot_passes x.map x.slot (ap₂ ◌&&◌ (lt-ltb x.slot 64 c.if-slot-lt-SLOTS.true) (sym c.is_occupied.ensures ∙ c.if-is_occupied.true))

pub returns-else-slot-lt-SLOTS : goal.returns-else-slot-lt-SLOTS
returns-else-slot-lt-SLOTS c =
    let x = c.args in
    c.failed.ensures
    ∙ slot_fails x.map x.slot
    (elim c.else-slot-lt-SLOTS.branch [
      | else-slot-lt-SLOTS-via-then-slot-lt-SLOTS+else-is_occupied w ↦
          ap₂ ◌&&◌ (lt-ltb x.slot 64 w.if-slot-lt-SLOTS.true) (sym w.is_occupied.ensures ∙ w.if-is_occupied.false)
      | else-slot-lt-SLOTS-via-else-slot-lt-SLOTS w ↦ ap (λ (b : Bool). b && bit x.map x.slot) (le-ltb x.slot 64 w.if-slot-lt-SLOTS.false)
    ])
