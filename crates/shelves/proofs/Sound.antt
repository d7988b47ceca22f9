-- What the test of soundness says, clause by clause. Assumes nothing.
use Prim.Native.Nat.{ℕ, ◌+◌, ◌≤◌, ◌<◌}
use mathlib.Core.Path.{◌≡◌, refl, sym}
use mathlib.Core.Bool.{Bool, true, false, not, ◌&&◌, false≢true}
use mathlib.Core.List.{List}
use mathlib.Core.Option.{Option, none, some, some-ne-none}
use mathlib.Core.Logic.{◌⊎◌, inl, inr, ⊎_elim, ◌↔◌}
use native.Mathlib.Omega.{arith}
use lib.Dec.{eqb, leb, ltb}
use lib.ListN.{length, drop}
use borrow.Author.Tests.{not-true, ltb-true, ltb-false}
use Rattle.lists.specs.Lists.{same, begins, all, maybe}
use Rattle.lists.proofs.Texts.{decided}
use Rattle.lists.proofs.Tests.{Says, says_as, says_both, says_either, says_not, says_eq, says_le, says_same, decides}
use Rattle.refusals.specs.declared.Refusal.{Refusal}
use Rattle.stages.specs.Contents.{normal_form}
use Rattle.stages.specs.Stages.{refusal_of}
use Rattle.operations.specs.Compare.{is_accepted}
use Rattle.shelves.specs.Layout.{Layout, most_shelf, slot_count, is_occupied, Occupied, Free, occupied, free, held_figure, has_sums, base, heading, start_of, length_of, text_of, held, end_of}
use Rattle.shelves.specs.Soundness.{is_normal_form, each_two, is_sized, lies, apart, differ, is_blank_pair, is_summed, sound}
use Rattle.shelves.proofs.Passing.{says_each, says_two}

-- a test is passed as it stands
as_it_stands : (t : Bool) → Says t (t ≡ true)
as_it_stands t = (λ h. h, λ h. h)

-- of two different numbers one is lower
pub in_order : (j k : ℕ) → (j ≡ k → ⊥) → (j < k) ⊎ (k < j)
in_order j k d =
    ⊎_elim (λ (e : ltb j k ≡ true). inl (ltb-true j k e)) (λ (e : ltb j k ≡ false). inr (let h = ltb-false j k e in omega arith))
    (decided (ltb j k))

-- ---- a normal form

-- the test of being accepted
pub says_accepted : (s : List ℕ) → Says (is_accepted s) (refusal_of s ≡ none)
unfolding is_accepted maybe
says_accepted s = step (refusal_of s)
  where
    step : (o : Option Refusal) → (maybe true (λ r. false) o ≡ true) ↔ (o ≡ none)
    step none = (λ e. refl, λ e. refl)
    step (some r) = (λ e. absurd (false≢true e), λ e. absurd (some-ne-none r e))

-- what `is_normal_form` says
pub says_normal : (s : List ℕ) → Says (is_normal_form s) ((refusal_of s ≡ none) × (normal_form s ≡ s))
unfolding is_normal_form
says_normal s = says_both (is_accepted s) (same (normal_form s) s) (says_accepted s) (says_same (normal_form s) s)

-- ---- the clauses of soundness

module _ (l : Layout) (s : List ℕ) where
  -- one text ends before the other begins
  abbrev pub Apart : ℕ → ℕ → Type 0
  Apart j k = (start_of l s j + length_of l s j ≤ start_of l s k) ⊎ (start_of l s k + length_of l s k ≤ start_of l s j)

  pub record Sound : Type 0 where
    pub least : base l ≤ length s
    pub most : length s ≤ most_shelf
    pub headed : begins (heading l) s ≡ true
    pub room : end_of l s ≤ length s
    pub lie : (k : ℕ) → Occupied s k → (base l ≤ start_of l s k) × (start_of l s k + length_of l s k ≤ end_of l s)
    pub disjoint : (j k : ℕ) → Occupied s j → Occupied s k → (j ≡ k → ⊥) → Apart j k
    pub normal : (k : ℕ) → Occupied s k → is_normal_form (text_of l s k) ≡ true
    pub different : (j k : ℕ) → Occupied s j → Occupied s k → (j ≡ k → ⊥) → text_of l s j ≡ text_of l s k → ⊥
    pub blank : (k : ℕ) → Free s k → (start_of l s k ≡ 0) × (length_of l s k ≡ 0)
    pub zero : all (eqb 0) (drop (end_of l s) s) ≡ true
    pub summed : 21 ≤ l.pairs → held_figure s ≡ held l s

  -- ---- each clause

  pub says_sized : Says (is_sized l s) ((base l ≤ length s) × (length s ≤ most_shelf))
  unfolding is_sized
  says_sized = says_both (leb (base l) (length s)) (leb (length s) most_shelf) (says_le (base l) (length s)) (says_le (length s) most_shelf)

  says_lies : (k : ℕ) → Says (lies l s k) ((base l ≤ start_of l s k) × (start_of l s k + length_of l s k ≤ end_of l s))
  unfolding lies
  says_lies k =
      let end = start_of l s k + length_of l s k in
      says_both (leb (base l) (start_of l s k)) (leb end (end_of l s)) (says_le (base l) (start_of l s k)) (says_le end (end_of l s))

  says_apart : (j k : ℕ) → Says (apart l s j k) (Apart j k)
  unfolding apart
  says_apart j k =
      let endJ = start_of l s j + length_of l s j in
      let endK = start_of l s k + length_of l s k in
      says_either (leb endJ (start_of l s k)) (leb endK (start_of l s j)) (says_le endJ (start_of l s k)) (says_le endK (start_of l s j))

  says_differ : (j k : ℕ) → Says (differ l s j k) (text_of l s j ≡ text_of l s k → ⊥)
  unfolding differ
  says_differ j k = says_not (same (text_of l s j) (text_of l s k)) (says_same (text_of l s j) (text_of l s k))

  says_blank : (k : ℕ) → Says (is_blank_pair l s k) ((start_of l s k ≡ 0) × (length_of l s k ≡ 0))
  unfolding is_blank_pair
  says_blank k = says_both (eqb (start_of l s k) 0) (eqb (length_of l s k) 0) (says_eq (start_of l s k) 0) (says_eq (length_of l s k) 0)

  -- the pairs leave room for the sums
  pub says_sums : Says (has_sums l) (21 ≤ l.pairs)
  unfolding has_sums
  says_sums = says_le 21 l.pairs

  pub says_summed : Says (is_summed l s) (21 ≤ l.pairs → held_figure s ≡ held l s)
  unfolding is_summed
  says_summed =
      says_as
      (says_either (not (has_sums l)) (eqb (held_figure s) (held l s)) (says_not (has_sums l) says_sums) (says_eq (held_figure s) (held l s)))
      (λ f room. ⊎_elim (λ (n : 21 ≤ l.pairs → ⊥). absurd (n room)) (λ e. e) f)
      (λ f. ⊎_elim (λ (h : 21 ≤ l.pairs). inr (f h)) (λ (n : 21 ≤ l.pairs → ⊥). inl n) (decides (has_sums l) says_sums))

  says_lie : Says (all (lies l s) (occupied s)) ((k : ℕ) → Occupied s k → (base l ≤ start_of l s k) × (start_of l s k + length_of l s k ≤ end_of l s))
  unfolding occupied
  says_lie = says_as (says_each (is_occupied s) (lies l s) says_lies slot_count) (λ f k o. f k o.0 o.1) (λ f k i o. f k (i, o))

  says_normals : Says (all (λ k. is_normal_form (text_of l s k)) (occupied s)) ((k : ℕ) → Occupied s k → is_normal_form (text_of l s k) ≡ true)
  unfolding occupied
  says_normals =
      says_as (says_each (is_occupied s) (λ k. is_normal_form (text_of l s k)) (λ k. as_it_stands (is_normal_form (text_of l s k))) slot_count)
      (λ f k o. f k o.0 o.1)
      (λ f k i o. f k (i, o))

  says_blanks : Says (all (is_blank_pair l s) (free s)) ((k : ℕ) → Free s k → (start_of l s k ≡ 0) × (length_of l s k ≡ 0))
  unfolding free
  says_blanks =
      says_as (says_each (λ k. not (is_occupied s k)) (is_blank_pair l s) says_blank slot_count)
      (λ f k o. f k o.0 (free_not (is_occupied s k) o.1))
      (λ f k i o. f k (i, not-true (is_occupied s k) o))
    where
      free_not : (b : Bool) → b ≡ false → not b ≡ true
      free_not b e = rw e

  -- what is said of any two, the lower first, where it does not matter which is first
  either_first : {P : ℕ → ℕ → Type 0} → ((j k : ℕ) → P j k → P k j)
      → ((j k : ℕ) → j < k → k < slot_count → is_occupied s j ≡ true → is_occupied s k ≡ true → P j k)
      → (j k : ℕ) → Occupied s j → Occupied s k → (j ≡ k → ⊥) → P j k
  either_first {P} turn f j k a b d =
      ⊎_elim (λ (h : j < k). f j k h b.0 a.1 b.1) (λ (h : k < j). turn k j (f k j h a.0 b.1 a.1)) (in_order j k d)

  says_disjoint : Says (each_two (apart l s) (occupied s)) ((j k : ℕ) → Occupied s j → Occupied s k → (j ≡ k → ⊥) → Apart j k)
  unfolding occupied
  says_disjoint =
      says_as (says_two (is_occupied s) (apart l s) says_apart slot_count)
      (either_first (λ j k. ⊎_elim inr inl))
      (λ f j k h i a b. f j k (omega arith, a) (i, b) (λ e. omega arith))

  says_different : Says (each_two (differ l s) (occupied s))
      ((j k : ℕ) → Occupied s j → Occupied s k → (j ≡ k → ⊥) → text_of l s j ≡ text_of l s k → ⊥)
  unfolding occupied
  says_different =
      says_as (says_two (is_occupied s) (differ l s) says_differ slot_count)
      (either_first (λ j k d e. d (sym e)))
      (λ f j k h i a b. f j k (omega arith, a) (i, b) (λ e. omega arith))

  -- ---- all of it

  pub says_sound : Says (sound l s) Sound
  unfolding sound
  says_sound =
      let headed = begins (heading l) s in
      let roomy = leb (end_of l s) (length s) in
      let lying = all (lies l s) (occupied s) in
      let parted = each_two (apart l s) (occupied s) in
      let normals = all (λ k. is_normal_form (text_of l s k)) (occupied s) in
      let differing = each_two (differ l s) (occupied s) in
      let blanks = all (is_blank_pair l s) (free s) in
      let zeros = all (eqb 0) (drop (end_of l s) s) in
      let a = says_both (is_sized l s) headed says_sized (as_it_stands headed) in
      let b = says_both (is_sized l s && headed) roomy a (says_le (end_of l s) (length s)) in
      let c = says_both (is_sized l s && headed && roomy) lying b says_lie in
      let d = says_both (is_sized l s && headed && roomy && lying) parted c says_disjoint in
      let e = says_both (is_sized l s && headed && roomy && lying && parted) normals d says_normals in
      let f = says_both (is_sized l s && headed && roomy && lying && parted && normals) differing e says_different in
      let g = says_both (is_sized l s && headed && roomy && lying && parted && normals && differing) blanks f says_blanks in
      let h = says_both (is_sized l s && headed && roomy && lying && parted && normals && differing && blanks) zeros g (as_it_stands zeros) in
      let i = says_both (is_sized l s && headed && roomy && lying && parted && normals && differing && blanks && zeros) (is_summed l s) h says_summed in
      says_as i
      (λ p.
      record {
        least = p.0.0.0.0.0.0.0.0.0.0;
        most = p.0.0.0.0.0.0.0.0.0.1;
        headed = p.0.0.0.0.0.0.0.0.1;
        room = p.0.0.0.0.0.0.0.1;
        lie = p.0.0.0.0.0.0.1;
        disjoint = p.0.0.0.0.0.1;
        normal = p.0.0.0.0.1;
        different = p.0.0.0.1;
        blank = p.0.0.1;
        zero = p.0.1;
        summed = p.1;
      })
      (λ q.
      ((((((((((q.least, q.most), q.headed), q.room), q.lie), q.disjoint), q.normal), q.different), q.blank), q.zero), q.summed))
