-- The part of the shelf that Get hands back, and what Get and Remove answer. Assumes nothing.
use Rattle.std.specs.Prelude.{Ok, Err}
use Prim.Native.Nat.{ℕ, ◌+◌, ◌-◌, ◌≤◌}
use mathlib.Core.Path.{◌≡◌, sym, ap, ap₂, ◌∙◌}
use mathlib.Core.Bool.{true, false}
use mathlib.Core.List.{List, [], ◌∷◌}
use mathlib.Core.Option.{none, some}
use native.Mathlib.Nat.{add-sub_cancel_left, min-eq_left}
use native.Mathlib.Omega.{arith}
use lib.ListN.{length, take, drop, length-take, length-drop}
use denote.Ref.{Bor}
use Rattle.refusals.specs.declared.Refusal.{Refusal}
use Rattle.answers.specs.Answers.{given, told_stored}
use Rattle.shelves.specs.Layout.{Layout, map_of, is_occupied, occupied, start_of, length_of}
use Rattle.shelves.specs.Soundness.{sound}
use Rattle.shelves.specs.Answers.{told_slots}
use Rattle.shelves.specs.Operations.{slot_refusal, remove, without}
use Rattle.shelves.proofs.Answered.{nineteen, slots_refused, slots_given, slot_refused, slot_given}
use Rattle.slot_map.specs.Slots.{occupied_count, lowest_free_in}
use Rattle.shelf_contracts.specs.Promises.{Gets, Measures, Removes, Counts}
use Rattle.values.specs.declared.Span.{Span}
use Rattle.shelf.specs.Parts.{got_span}
use Rattle.shelf.proofs.Lowest.{lowest_by}

module _ (l : Layout) (s : List ℕ) (slot : ℕ) where
  module _ {r : Refusal} (e : slot_refusal l s slot ≡ some r) where
    pub got_refused : record { offset = 0; length = 0 } ≡ got_span l s slot
    unfolding got_span
    got_refused =
        let d = slot_refused l s slot e in sym (ap₂ (λ (a n : ℕ). record { offset = a; length = n }) d.1 d.2)

    pub measures_refused : Measures l s slot (Err r)
    unfolding told_stored
    measures_refused = sym (slot_refused l s slot e).0

    pub removes_refused : Removes l s slot (Err r) s
    unfolding told_stored remove
    removes_refused = let d = slot_refused l s slot e in (sym d.0, sym d.3)

  module _ (e : slot_refusal l s slot ≡ none) {n : ℕ} (q : n ≡ length_of l s slot) where
    pub got_kept : {a : ℕ} → a ≡ start_of l s slot → record { offset = a; length = n } ≡ got_span l s slot
    unfolding got_span
    got_kept p =
        let d = slot_given l s slot e in ap₂ (λ (a n : ℕ). record { offset = a; length = n }) (p ∙ sym d.1) (q ∙ sym d.2)

    pub measures_kept : Measures l s slot (Ok n)
    unfolding told_stored
    measures_kept = ap (λ (k : ℕ). given (k ∷ [])) q ∙ sym (slot_given l s slot e).0

    pub removes_kept : {after : List ℕ} → after ≡ without l s slot → Removes l s slot (Ok n) after
    unfolding told_stored remove
    removes_kept g = let d = slot_given l s slot e in (ap (λ (k : ℕ). given (k ∷ [])) q ∙ sym d.0, g ∙ sym d.3)

-- the part as a slice
pub handed : (l : Layout) (whole : Bor (List ℕ)) (slot : ℕ) {part : Span} (p : Bor (List ℕ)) → part ≡ got_span l whole.now slot
    → part.offset + part.length ≤ length whole.now
    → p.now ≡ take (part.offset + part.length - part.offset) (drop part.offset whole.now)
    → p.ref_ptr ≡ (whole.ref_ptr.0, part.offset + whole.ref_ptr.1) → Gets l whole slot p
unfolding got_span
handed l whole slot {part} p e h b q =
    let from = ap (λ (x : Span). x.offset) e in
    let size = ap (λ (x : Span). x.length) e in
    let bytes = b ∙ ap (λ (k : ℕ). take k (drop part.offset whole.now)) (add-sub_cancel_left part.offset part.length) in
    record {
      place = q ∙ ap (λ (k : ℕ). (whole.ref_ptr.0, k + whole.ref_ptr.1)) from;
      long =
          ap length bytes
          ∙ length-take part.length (drop part.offset whole.now)
          ∙ min-eq_left (omega (arith, length-drop part.offset whole.now))
          ∙ size;
      bytes = bytes ∙ ap₂ (λ (k n : ℕ). take k (drop n whole.now)) size from;
    }

-- ---- the two numbers

module _ (l : Layout) (s : List ℕ) where
  pub counts_unsound : sound l s ≡ false → Counts l s (Err nineteen)
  unfolding told_slots
  counts_unsound e = sym (slots_refused l s e)

  pub counts_sound : sound l s ≡ true → {m n k : ℕ} → m ≡ map_of s → n ≡ occupied_count m → k ≡ lowest_free_in m
      → Counts l s (Ok (record { occupied = n; lowest_free = k }))
  unfolding told_slots occupied is_occupied occupied_count
  counts_sound e d p q =
      ap₂ (λ (n k : ℕ). given (n ∷ k ∷ [])) (p ∙ ap occupied_count d) (lowest_by l s d q) ∙ sym (slots_given l s e)
