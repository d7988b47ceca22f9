-- What follows for shelves that are carried over, and back. Assumes nothing.
use Prim.Native.Nat.{ℕ, ◌+◌, ◌-◌, ◌≤◌, ◌<◌}
use mathlib.Core.Path.{◌≡◌, refl, sym, ap, ap₂, subst, ◌∙◌}
use mathlib.Core.Bool.{not}
use mathlib.Core.List.{List, [], ◌∷◌, map, Memᴰ}
use native.Mathlib.Omega.{arith}
use lib.ListN.{length}
use lib.Seq.{sets}
use Rattle.lists.specs.Lists.{those, at, maybe}
use Rattle.numbers.specs.Numbers.{in_bytes}
use Rattle.answers.specs.Answers.{given}
use Rattle.shelves.specs.Layout.{Layout, version_one, version_two, slot_count, below, bit, is_occupied, Occupied, occupied, free, start_of, text_of, kept, held, end_of}
use Rattle.shelves.specs.Operations.{lowest_free, sums_of}
use Rattle.shelves.proofs.Sound as clauses
use Rattle.shelves.proofs.Sound.{says_sound}
use Rattle.shelves.proofs.Words.{occupied_are}
use Rattle.shelves.proofs.Answered.{slots_given, sums_given}
use Rattle.shelf_laws.specs.Shelf.{Sound}
use Rattle.shelf_laws.proofs.Slots.{alike_in}
use Rattle.shelf_laws.proofs.Theorems.{old_unsound}
use Rattle.carrying.specs.Carrying.{carried, carry, carry_shelf, carried_back, carry_back, carry_back_shelf}
use Rattle.carrying.proofs.Answered.{refusal_none, carry_done, back_none, back_done}
use Rattle.carrying.proofs.Carried.{Carried}
use Rattle.carrying.proofs.Ways.{carried_two, two_long, figure_starts, carried_one, one_long}
use Rattle.carrying_laws.specs.OldShelves.{Bytes, SlotsAndTextsStay, OldShelves}
use Rattle.carrying_laws.proofs.Opened.{Open, carry_open, roomy_carry, nineteen_carry, eighteen_carry, carry_keeps, sound_back, back_open, nineteen_back, back_keeps}
use Rattle.carrying_laws.proofs.Restored.{there_back, back_room, back_there}

-- what is the same for each of them is the same for all
map_same : {A : Type 0} (f g : ℕ → A) (ks : List ℕ) → ((k : ℕ) → Memᴰ k ks → f k ≡ g k) → map f ks ≡ map g ks
map_same f g [] h = refl
map_same {A} f g (k ∷ ks) h = ap₂ (λ (x : A) (xs : List A). x ∷ xs) (h k (Memᴰ.head refl)) (map_same f g ks (λ j m. h j (Memᴰ.tail m)))

-- ---- "Slots and texts stay", in either direction

module _ (from to : Layout) (head : 13 ≤ from.pairs) (heads : 13 ≤ to.pairs) (s t : List ℕ) (sane : Sound from s) (c : Carried from to s t) where
  free_as : free t ≡ free s
  unfolding free is_occupied
  free_as = ap (λ (m : ℕ). those (λ k. not (bit m k)) (below slot_count)) c.map_as

  lowest_as : lowest_free to t ≡ lowest_free from s
  unfolding lowest_free
  lowest_as = ap (λ (ks : List ℕ). maybe slot_count (λ k. k) (at ks 0)) free_as

  texts_as : kept to t ≡ kept from s
  unfolding kept
  texts_as =
      ap (map (text_of to t)) c.slots
      ∙ map_same (text_of to t) (text_of from s) (occupied s) (λ k m. c.text_as k ((occupied_are s k).0 m))

  now_sound : Sound to t
  now_sound = (says_sound to t).1 c.sound

  stays : length t ≡ length s → SlotsAndTextsStay from to s t
  stays long = record {
    size = long;
    slots = (
      c.slots,
      slots_given to t now_sound
          ∙ ap₂ (λ (n k : ℕ). given (n ∷ k ∷ [])) (ap length c.slots) lowest_as
          ∙ sym (slots_given from s sane),
    );
    gets =
        λ slot.
        let a = alike_in slot from to head heads s t sane now_sound (λ h. c.occupied_as slot) (c.length_as slot) (c.text_as slot) in
        (a.1, a.0);
    texts = texts_as;
    bytes = c.held_as;
  }

-- ---- version 1 into version 2

module _ (s : List ℕ) (e : carry s ≡ given []) where
  opened : Open s
  opened = carry_open s e

  was : clauses.Sound version_one s
  was = (says_sound version_one s).0 opened.sane

  shelf_is : carry_shelf s ≡ carried s
  shelf_is = (carry_done s (refusal_none s opened.sane opened.room)).1

  over_sound : Sound version_two (carried s)
  over_sound = (says_sound version_two (carried s)).1 (carried_two s was opened.room).sound

  over_stays : SlotsAndTextsStay version_one version_two s (carried s)
  over_stays =
      stays version_one version_two (omega arith) (omega arith) s (carried s) opened.sane (carried_two s was opened.room)
      (two_long s was opened.room)

  over_starts : (k : ℕ) → Occupied s k → start_of version_two (carried s) k ≡ start_of version_one s k + 8
  over_starts k o = omega (arith, (carried_two s was opened.room).start_kept k o, (was.lie k o).0)

  over_sums : sums_of version_two (carried s) ≡ given (held version_one s ∷ 0 ∷ [])
  over_sums =
      sums_given version_two (carried s) over_sound
      ∙ ap₂ (λ (n d : ℕ). given (n ∷ d ∷ [])) (carried_two s was opened.room).held_as (figure_starts s was opened.room)

  over_and_back : Bytes s → (carry_back (carried s) ≡ given []) × (carry_back_shelf (carried s) ≡ s)
  over_and_back bytes =
      let d = back_done (carried s) (back_none (carried s) over_sound) in
      (d.0, d.1 ∙ there_back s bytes was opened.room)

-- ---- version 2 into version 1

module _ (s : List ℕ) (e : carry_back s ≡ given []) where
  sane : Sound version_two s
  sane = back_open s e

  new : clauses.Sound version_two s
  new = (says_sound version_two s).0 sane

  back_is : carry_back_shelf s ≡ carried_back s
  back_is = (back_done s (back_none s sane)).1

  down_sound : Sound version_one (carried_back s)
  down_sound = (says_sound version_one (carried_back s)).1 (carried_one s new).sound

  down_stays : SlotsAndTextsStay version_two version_one s (carried_back s)
  down_stays =
      stays version_two version_one (omega arith) (omega arith) s (carried_back s) sane (carried_one s new) (one_long s new)

  down_starts : (k : ℕ) → Occupied s k → start_of version_one (carried_back s) k + 8 ≡ start_of version_two s k
  down_starts k o = omega (arith, (carried_one s new).start_kept k o, (new.lie k o).0)

  four_zeros : in_bytes 4 0 ≡ 0 ∷ 0 ∷ 0 ∷ 0 ∷ []
  unfolding in_bytes
  four_zeros = refl

  down_and_up : Bytes s → (carry (carried_back s) ≡ given []) × (carry_shelf (carried_back s) ≡ sets s 17 (0 ∷ 0 ∷ 0 ∷ 0 ∷ []))
  down_and_up bytes =
      let d = carry_done (carried_back s) (refusal_none (carried_back s) down_sound (back_room s bytes new)) in
      (d.0, d.1 ∙ back_there s bytes new ∙ ap (sets s 17) four_zeros)

-- ---- all of it

pub old_shelves : OldShelves
old_shelves = record {
  carry_nineteen = nineteen_carry;
  back_nineteen = nineteen_back;
  one_version = old_unsound;
  carry_eighteen = eighteen_carry;
  carry_else = λ s q h. roomy_carry s q (room s h);
  back_else = sound_back;
  carry_refused = carry_keeps;
  back_refused = back_keeps;
  carry_sound = λ s e. subst (Sound version_two) (sym (shelf_is s e)) (over_sound s e);
  back_sound = λ s e. subst (Sound version_one) (sym (back_is s e)) (down_sound s e);
  carry_stays = λ s e. subst (SlotsAndTextsStay version_one version_two s) (sym (shelf_is s e)) (over_stays s e);
  back_stays = λ s e. subst (SlotsAndTextsStay version_two version_one s) (sym (back_is s e)) (down_stays s e);
  carry_starts = λ s e k o. ap (λ (t : List ℕ). start_of version_two t k) (shelf_is s e) ∙ over_starts s e k o;
  back_starts = λ s e k o. ap (λ (t : List ℕ). start_of version_one t k + 8) (back_is s e) ∙ down_starts s e k o;
  carry_sums = λ s e. ap (sums_of version_two) (shelf_is s e) ∙ over_sums s e;
  there_and_back =
      λ s bytes e.
      subst (λ (t : List ℕ). (carry_back t ≡ given []) × (carry_back_shelf t ≡ s)) (sym (shelf_is s e)) (over_and_back s e bytes);
  back_and_there =
      λ s bytes e.
      subst (λ (t : List ℕ). (carry t ≡ given []) × (carry_shelf t ≡ sets s 17 (0 ∷ 0 ∷ 0 ∷ 0 ∷ []))) (sym (back_is s e))
      (down_and_up s e bytes);
}
  where
    room : (s : List ℕ) → (length s - end_of version_one s < 8 → ⊥) → end_of version_one s + 8 ≤ length s
    room s h = omega (arith, h)
