-- The test of soundness passes exactly where the request's words hold. Assumes nothing.
use Prim.Native.Nat.{ℕ, zero, suc, ◌+◌, ◌-◌, ◌≤◌, ◌<◌, max}
use mathlib.Core.Path.{◌≡◌, refl, sym, ap, subst, ◌∙◌}
use mathlib.Core.Bool.{true, false}
use mathlib.Core.List.{List, [], ◌∷◌}
use mathlib.Core.Logic.{inl, inr, ⊎_elim, ◌↔◌}
use native.Mathlib.Omega.{arith}
use lib.Dec.{eqb, leb}
use lib.ListN.{length, get_or, drop, length-take, length-drop}
use lib.Seq.{get_or-drop}
use borrow.Author.Tests.{eqb-true, eq-eqb, leb-true, leb-false}
use Rattle.lists.specs.Lists.{all}
use Rattle.lists.proofs.Texts.{and_left, and_right, and_both, decided}
use Rattle.lists.proofs.Tests.{says_begins, says_eq, decides}
use Rattle.shelves.specs.Layout.{Layout, held_figure, Occupied, base, heading, start_of, length_of, text_of, held, end_of}
use Rattle.shelves.specs.Soundness.{is_normal_form, sound}
use Rattle.shelves.proofs.Sound.{says_normal, Apart, Sound, says_sound}
use Rattle.own_form_laws.proofs.OwnForm.{normal_nine}
use Rattle.shelf_laws.specs.InWords.{LiesIn, SoundInWords}
use Rattle.shelf_laws.proofs.Filled.{no_gap, all_filled}

-- ---- zeros, place by place

zeros_at : (xs : List ℕ) → all (eqb 0) xs ≡ true → (i : ℕ) → i < length xs → get_or xs i 0 ≡ 0
unfolding all
zeros_at [] h i k = refl
zeros_at (x ∷ xs) h zero k = sym (eqb-true 0 x (and_left (eqb 0 x) (all (eqb 0) xs) h))
zeros_at (x ∷ xs) h (suc i) k = zeros_at xs (and_right (eqb 0 x) (all (eqb 0) xs) h) i (omega arith)

at_zeros : (xs : List ℕ) → ((i : ℕ) → i < length xs → get_or xs i 0 ≡ 0) → all (eqb 0) xs ≡ true
unfolding all
at_zeros [] h = refl
at_zeros (x ∷ xs) h =
    and_both (eqb 0 x) (all (eqb 0) xs) (eq-eqb 0 x (sym (h 0 (omega arith)))) (at_zeros xs (λ i k. h (suc i) (omega arith)))

module _ (l : Layout) (s : List ℕ) where
  -- ---- from the clauses to the words

  module _ (was : Sound l s) where
    -- no place lies in two texts
    once : (place j k : ℕ) → Occupied s j → Occupied s k → LiesIn l s place j → LiesIn l s place k → j ≡ k
    once place j k p q a b =
        ⊎_elim (λ (e : j ≡ k). e)
        (λ (d : j ≡ k → ⊥). absurd (⊎_elim (λ h. omega arith) (λ h. omega arith) (was.disjoint j k p q d)))
        (decides (eqb j k) (says_eq j k))

    lie_in : (k : ℕ) → Occupied s k → (base l ≤ start_of l s k) × (start_of l s k + length_of l s k ≤ base l + held l s)
    unfolding end_of
    lie_in k o = was.lie k o

    filled : (place : ℕ) → ((base l ≤ place) × (place < base l + held l s)) ↔ ((k : ℕ) × Occupied s k × LiesIn l s place k)
    filled place = (
      λ h.
          let (k, o, p) = no_gap l s (held l s) lie_in once refl (place - base l) (omega arith) in
          let e : base l + (place - base l) ≡ place = omega arith in
          (k, o, subst (λ (n : ℕ). LiesIn l s n k) e p),
      λ f. let (k, o, p) = f in let room = lie_in k o in (omega arith, omega arith),
    )

    in_words : SoundInWords l s
    unfolding end_of held held_figure
    in_words = record {
      size = (was.least, was.most);
      headed = (says_begins (heading l) s).0 was.headed;
      normal_forms = λ k o. (says_normal (text_of l s k)).0 (was.normal k o);
      all_different =
          λ j k p q e.
          ⊎_elim (λ (i : j ≡ k). i) (λ (d : j ≡ k → ⊥). absurd (was.different j k p q d e)) (decides (eqb j k) (says_eq j k));
      disjoint = once;
      end = base l + held l s;
      room = (omega arith, was.room);
      filled = filled;
      free_entries = was.blank;
      free_bytes =
          λ place h k.
          let i = place - (base l + held l s) in
          let e : base l + held l s + i ≡ place = omega arith in
          ap (λ (n : ℕ). get_or s n 0) (sym e)
          ∙ sym (get_or-drop (base l + held l s) s i 0)
          ∙ zeros_at (drop (base l + held l s) s) was.zero i (omega (arith, length-drop (base l + held l s) s));
      sums = was.summed;
    }

  -- ---- from the words to the clauses

  module _ (w : SoundInWords l s) where
    normal : (k : ℕ) → Occupied s k → is_normal_form (text_of l s k) ≡ true
    normal k o = (says_normal (text_of l s k)).1 (w.normal_forms k o)

    -- a text has bytes
    bytes : (k : ℕ) → Occupied s k → 0 < length_of l s k
    unfolding text_of
    bytes k o = omega (arith, normal_nine (text_of l s k) (normal k o), length-take (length_of l s k) (drop (start_of l s k) s))

    -- its first and its last lie in the room
    lie : (k : ℕ) → Occupied s k → (base l ≤ start_of l s k) × (start_of l s k + length_of l s k ≤ w.end)
    lie k o =
        let some = bytes k o in
        let first = (w.filled (start_of l s k)).1 (k, o, (omega arith, omega arith)) in
        let last = (w.filled (start_of l s k + length_of l s k - 1)).1 (k, o, (omega arith, omega arith)) in
        (first.0, omega (arith, last.1))

    abbrev large : ℕ
    large = w.end - base l

    lie_within : (k : ℕ) → Occupied s k → (base l ≤ start_of l s k) × (start_of l s k + length_of l s k ≤ base l + large)
    lie_within k o = let here = lie k o in let room = w.room in (omega arith, omega arith)

    -- the room is as large as the texts together
    whole : held l s ≡ large
    whole =
        all_filled l s large lie_within w.disjoint
        (λ i h. let room = w.room in (w.filled (base l + i)).0 (omega arith, omega arith))

    end_is : end_of l s ≡ w.end
    unfolding end_of
    end_is = let room = w.room in omega (arith, whole)

    -- two texts with no place in common: one ends before the other begins
    apart : (j k : ℕ) → Occupied s j → Occupied s k → (j ≡ k → ⊥) → Apart l s j k
    apart j k p q d =
        ⊎_elim
        (λ (e : leb (start_of l s j + length_of l s j) (start_of l s k) ≡ true). inl (leb-true (start_of l s j + length_of l s j) (start_of l s k) e))
        (λ (e : leb (start_of l s j + length_of l s j) (start_of l s k) ≡ false).
        ⊎_elim
        (λ (f : leb (start_of l s k + length_of l s k) (start_of l s j) ≡ true).
        inr (leb-true (start_of l s k + length_of l s k) (start_of l s j) f))
        (λ (f : leb (start_of l s k + length_of l s k) (start_of l s j) ≡ false).
        absurd (d (common (leb-false (start_of l s j + length_of l s j) (start_of l s k) e) (leb-false (start_of l s k + length_of l s k) (start_of l s j) f))))
        (decided (leb (start_of l s k + length_of l s k) (start_of l s j))))
        (decided (leb (start_of l s j + length_of l s j) (start_of l s k)))
      where
        common : start_of l s k < start_of l s j + length_of l s j → start_of l s j < start_of l s k + length_of l s k → j ≡ k
        common e f =
            let a = bytes j p in
            let b = bytes k q in
            let place = max (start_of l s j) (start_of l s k) in
            w.disjoint place j k p q (omega arith, omega arith) (omega arith, omega arith)

    by_clauses : Sound l s
    unfolding held held_figure
    by_clauses = record {
      least = w.size.0;
      most = w.size.1;
      headed = (says_begins (heading l) s).1 w.headed;
      room = omega (arith, end_is, w.room.1);
      lie = λ k o. let here = lie k o in (here.0, omega (arith, here.1, end_is));
      disjoint = apart;
      normal = normal;
      different = λ j k p q d e. d (w.all_different j k p q e);
      blank = w.free_entries;
      zero =
          at_zeros (drop (end_of l s) s)
          (λ i h.
          get_or-drop (end_of l s) s i 0
          ∙ w.free_bytes (end_of l s + i) (omega (arith, end_is)) (omega (arith, length-drop (end_of l s) s)));
      summed = w.sums;
    }

-- The test passes exactly where the words hold.
pub sound_exactly : (l : Layout) (s : List ℕ) → (sound l s ≡ true) ↔ SoundInWords l s
sound_exactly l s = (λ e. in_words l s ((says_sound l s).0 e), λ w. (says_sound l s).1 (by_clauses l s w))
