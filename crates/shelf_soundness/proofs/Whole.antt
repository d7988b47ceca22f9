-- The clauses, slot by slot, and soundness as a whole: each from the other. Assumes nothing.
use Prim.Native.Nat.{ℕ, ◌+◌, ◌≤◌, ◌<◌}
use mathlib.Core.Path.{◌≡◌, refl, sym}
use mathlib.Core.Bool.{Bool, true, false, not, ◌&&◌, ◌||◌, false≢true}
use mathlib.Core.List.{List}
use mathlib.Core.Logic.{inl, inr, ⊎_elim}
use native.Mathlib.Omega.{arith}
use lib.Dec.{eqb, leb, ltb}
use lib.ListN.{length}
use borrow.Author.Tests.{ltb-true, ltb-false}
use Rattle.lists.specs.Lists.{same, begins}
use Rattle.lists.proofs.Texts.{decided}
use Rattle.lists.proofs.Tests.{Says, says_as, says_both, says_either, says_not, says_eq, says_le, says_same, fails}
use Rattle.shelves.specs.Layout.{Layout, most_shelf, slot_count, held_figure, base, heading, is_occupied, Occupied, start_of, length_of, text_of, end_of}
use Rattle.shelves.specs.Soundness.{is_normal_form, lies, apart, differ, is_blank_pair, is_summed, sound}
use Rattle.shelves.proofs.Sound.{Apart, Sound, says_summed, says_sound}
use Rattle.shelf_soundness.specs.Clauses.{placed, Placed, parted, Alone, formed, Formed, Ranged, Kept}
use Rattle.shelf_soundness.proofs.Loops.{chosen, other_chosen, choose}

-- two tests that say the same are the same
pub says_unique : {P : Type 0} (t u : Bool) → Says t P → Says u P → t ≡ u
says_unique true u p q = sym (q.1 (p.0 refl))
says_unique false u p q = sym ((fails u q).1 (λ x. false≢true (p.1 x)))

module _ (l : Layout) (s : List ℕ) where
  -- ---- what the tests of a slot, and of two, say

  says_lies : (k : ℕ) → Says (lies l s k) ((base l ≤ start_of l s k) × (start_of l s k + length_of l s k ≤ end_of l s))
  unfolding lies
  says_lies k =
      let end = start_of l s k + length_of l s k in
      says_both (leb (base l) (start_of l s k)) (leb end (end_of l s)) (says_le (base l) (start_of l s k)) (says_le end (end_of l s))

  says_blank : (k : ℕ) → Says (is_blank_pair l s k) ((start_of l s k ≡ 0) × (length_of l s k ≡ 0))
  unfolding is_blank_pair
  says_blank k = says_both (eqb (start_of l s k) 0) (eqb (length_of l s k) 0) (says_eq (start_of l s k) 0) (says_eq (length_of l s k) 0)

  says_parts : (j k : ℕ) → Says (apart l s j k && differ l s j k) (Apart l s j k × (text_of l s j ≡ text_of l s k → ⊥))
  unfolding apart differ
  says_parts j k =
      let endJ = start_of l s j + length_of l s j in
      let endK = start_of l s k + length_of l s k in
      says_both (leb endJ (start_of l s k) || leb endK (start_of l s j)) (not (same (text_of l s j) (text_of l s k)))
      (says_either (leb endJ (start_of l s k)) (leb endK (start_of l s j)) (says_le endJ (start_of l s k)) (says_le endK (start_of l s j)))
      (says_not (same (text_of l s j) (text_of l s k)) (says_same (text_of l s j) (text_of l s k)))

  -- ---- from a sound shelf to the clauses

  pub sound_placed : Sound l s → Placed l s
  unfolding placed
  sound_placed q k a b =
      choose (is_occupied s k) (lies l s k) (is_blank_pair l s k)
      (λ o. (says_lies k).1 (q.lie k (b, o)))
      (λ o. (says_blank k).1 (q.blank k (b, o)))

  sound_alone : Sound l s → Alone l s
  unfolding parted
  sound_alone q j a b o k c d =
      choose (is_occupied s k) (apart l s j k && differ l s j k) true
      (λ p.
      let away : j ≡ k → ⊥ = λ e. omega arith in
      (says_parts j k).1 (q.disjoint j k (b, o) (d, p) away, q.different j k (b, o) (d, p) away))
      (λ p. refl)

  sound_formed : Sound l s → Formed l s
  unfolding formed
  sound_formed q k a b =
      choose (is_occupied s k) (is_normal_form (text_of l s k)) true (λ o. q.normal k (b, o)) (λ o. refl)

  pub sound_kept : Sound l s → Kept l s
  sound_kept q = (sound_alone q, q.zero, sound_formed q)

  -- ---- and back

  module _ (p : Placed l s) where
    lie : (k : ℕ) → Occupied s k → (base l ≤ start_of l s k) × (start_of l s k + length_of l s k ≤ end_of l s)
    unfolding placed
    lie k o = (says_lies k).0 (chosen (is_occupied s k) (lies l s k) (is_blank_pair l s k) (p k (omega arith) o.0) o.1)

    blank : (k : ℕ) → (k < slot_count) × (is_occupied s k ≡ false) → (start_of l s k ≡ 0) × (length_of l s k ≡ 0)
    unfolding placed
    blank k o = (says_blank k).0 (other_chosen (is_occupied s k) (lies l s k) (is_blank_pair l s k) (p k (omega arith) o.0) o.1)

    pub ranged : (base l ≤ length s) × (length s ≤ most_shelf) → end_of l s ≤ length s → Ranged l s
    ranged size room = record {
      least = size.0;
      most = size.1;
      within = λ k i o. let h = lie k (i, o) in omega arith;
    }

    module _ (m : Kept l s) where
      two : (j k : ℕ) → j < k → Occupied s j → Occupied s k → Apart l s j k × (text_of l s j ≡ text_of l s k → ⊥)
      unfolding parted
      two j k h a b =
          (says_parts j k).0
          (chosen (is_occupied s k) (apart l s j k && differ l s j k) true (m.0 j (omega arith) a.0 a.1 k (omega arith) b.0) b.1)

      any_two : (j k : ℕ) → Occupied s j → Occupied s k → (j ≡ k → ⊥) → Apart l s j k × (text_of l s j ≡ text_of l s k → ⊥)
      any_two j k a b d =
          ⊎_elim
          (λ (e : ltb j k ≡ true). two j k (ltb-true j k e) a b)
          (λ (e : ltb j k ≡ false).
          let h = ltb-false j k e in
          let t = two k j (omega arith) b a in
          (⊎_elim inr inl t.0, λ q. t.1 (sym q)))
          (decided (ltb j k))

      normal : (k : ℕ) → Occupied s k → is_normal_form (text_of l s k) ≡ true
      unfolding formed
      normal k o = chosen (is_occupied s k) (is_normal_form (text_of l s k)) true (m.2 k (omega arith) o.0) o.1

      clauses_sound : (base l ≤ length s) × (length s ≤ most_shelf) → begins (heading l) s ≡ true → end_of l s ≤ length s → is_summed l s ≡ true → Sound l s
      clauses_sound size headed room sums = record {
        least = size.0;
        most = size.1;
        headed = headed;
        room = room;
        lie = lie;
        disjoint = λ j k a b d. (any_two j k a b d).0;
        normal = normal;
        different = λ j k a b d. (any_two j k a b d).1;
        blank = blank;
        zero = m.1;
        summed = (says_summed l s).0 sums;
      }

  -- ---- the text bytes held

  -- a layout without the figure
  pub summed_free : l.pairs < 21 → true ≡ is_summed l s
  summed_free h = sym ((says_summed l s).1 (λ sums. absurd (omega arith)))

  -- the figure, behind where the texts begin, is where they end
  pub summed_by : {a n end : ℕ} → 21 ≤ l.pairs → a ≡ base l → n ≡ held_figure s → end ≡ end_of l s → eqb (a + n) end ≡ is_summed l s
  unfolding end_of
  summed_by {a} {n} {end} sums e f g =
      says_unique (eqb (a + n) end) (is_summed l s)
      (says_as (says_eq (a + n) end) (λ h room. omega (arith, e, f, g, h)) (λ h. omega (arith, e, f, g, h sums)))
      (says_summed l s)

  -- ---- the answer

  -- something that a sound shelf has is missing
  pub not_sound : (Sound l s → ⊥) → false ≡ sound l s
  not_sound d = sym ((fails (sound l s) (says_sound l s)).1 d)

  -- the last clauses decide
  pub sound_by : Placed l s → (base l ≤ length s) × (length s ≤ most_shelf) → begins (heading l) s ≡ true → end_of l s ≤ length s
      → is_summed l s ≡ true → {r : Bool} → Says r (Kept l s) → r ≡ sound l s
  sound_by p size headed room sums {r} h =
      says_unique r (sound l s) (says_as h (λ m. clauses_sound p m size headed room sums) sound_kept) (says_sound l s)
