-- `finding::keeps` meets its contract. Assumes nothing.
use Prim.Native.Nat.{ℕ}
use mathlib.Core.Path.{◌≡◌, sym, ap, ◌∙◌}
use mathlib.Core.Bool.{true, false≢true}
use mathlib.Core.List.{List}
use lib.Dec.{eqb}
use lib.ListN.{length}
use Rattle.lists.proofs.Tests.{fails, says_eq}
use Rattle.shelf_layout.specs.Laid.{laid}
use Rattle.shelf_layout.proofs.Readings.{occupied_by}
use Rattle.shelves.specs.Layout.{is_occupied}
use Rattle.shelves.proofs.Sound.{says_sound}
use Rattle.lists.specs.Lists.{same}
use Rattle.shelf.proofs.Copies.{keeps_free, keeps_same, keeps_longer, kept_within}
use Rattle.shelf.proofs.finding.keeps.Goals.{then-is_occupied, else-is_occupied}
use Rattle.shelf.proofs.finding.keeps.Goals as goal

pub length_of-requires : goal.length_of-requires
length_of-requires c = let x = c.args in (((says_sound (laid x.l) x.s.now).0 c.requires.0).least, c.requires.2)

pub text_of-requires : goal.text_of-requires
text_of-requires c =
    let x = c.args in
    let s = x.s.now in
    let known = c.requires in
    let o : is_occupied s x.slot ≡ true = elim c.if-is_occupied.branch [
      | then-is_occupied w ↦ occupied_by s x.slot c.requires.1 c.is_occupied.ensures w.if-is_occupied.true
      | else-is_occupied w ↦ absurd (false≢true (sym w.if-is_occupied.false ∙ sym w.value-is ∙ c.if-length_of-form.true))
    ] in
    (((says_sound (laid x.l) s).0 known.0).least, known.2, kept_within (laid x.l) s x.slot known.0 known.2 o)

pub returns-then-length_of-form : goal.returns-then-length_of-form
returns-then-length_of-form c =
    let x = c.args in
    let s = x.s.now in
    let o : is_occupied s x.slot ≡ true = elim c.if-is_occupied.branch [
      | then-is_occupied w ↦ occupied_by s x.slot c.requires.1 c.is_occupied.ensures w.if-is_occupied.true
      | else-is_occupied w ↦ absurd (false≢true (sym w.if-is_occupied.false ∙ sym w.value-is ∙ c.if-length_of-form.true))
    ] in
    keeps_same (laid x.l) s x.form.now x.slot o (c.equal.ensures ∙ ap (λ (t : List ℕ). same t x.form.now) c.text_of.ensures)

pub returns-else-length_of-form : goal.returns-else-length_of-form
returns-else-length_of-form c =
    let x = c.args in
    let s = x.s.now in
    let form = x.form.now in
    let known = c.requires in
    c.if-length_of-form.false
    ∙ elim c.if-is_occupied.branch [
      | then-is_occupied w ↦
          let o = occupied_by s x.slot known.1 c.is_occupied.ensures w.if-is_occupied.true in
          let n = w.length_of.result in
          keeps_longer (laid x.l) s form x.slot o (kept_within (laid x.l) s x.slot known.0 known.2 o) w.length_of.ensures.0
          ((fails (eqb n (length form)) (says_eq n (length form))).0 (sym w.value-is ∙ c.if-length_of-form.false))
      | else-is_occupied w ↦ keeps_free (laid x.l) s form x.slot (occupied_by s x.slot known.1 c.is_occupied.ensures w.if-is_occupied.false)
    ]
