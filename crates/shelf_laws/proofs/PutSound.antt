-- A sound shelf stays sound where a normal form that it does not hold is put behind the last text, into a free slot. Assumes nothing.
use Prim.Native.Nat.{ℕ, ◌+◌, ◌≤◌}
use mathlib.Core.Path.{◌≡◌, sym, ap, ap₂, subst, ◌∙◌}
use mathlib.Core.Bool.{true, true≢false}
use mathlib.Core.List.{List}
use mathlib.Core.Logic.{inl, inr, ⊎_elim}
use native.Mathlib.Nat.{mod-eq_of_lt}
use native.Mathlib.Omega.{arith}
use lib.Dec.{eqb}
use lib.ListN.{length, take, drop}
use lib.Seq.{drop-drop}
use Rattle.lists.specs.Lists.{all}
use Rattle.lists.proofs.Tests.{says_eq, decides}
use Rattle.shelves.specs.Layout.{Layout, held_figure, is_occupied, Occupied, Free, base, heading, start_of, length_of, text_of, held, end_of}
use Rattle.shelves.specs.Soundness.{is_normal_form}
use Rattle.shelves.proofs.Sound.{Apart, Sound}
use Rattle.shelves.proofs.Zeros.{all_drop}
use Rattle.shelves.proofs.Stored.{begins_front, heading_length}
use Rattle.shelves.proofs.Added.{Added}

module _ (l : Layout) (s form : List ℕ) (slot : ℕ) (after : List ℕ) (free : Free s slot) (was : Sound l s)
    (room : end_of l s + length form ≤ length s) (a : Added l s form slot after) (normal : is_normal_form form ≡ true)
    (fresh : (k : ℕ) → Occupied s k → text_of l s k ≡ form → ⊥) where
  -- another slot that is occupied was so
  occupied_before : (k : ℕ) → Occupied after k → (k ≡ slot → ⊥) → Occupied s k
  occupied_before k o d = (o.0, sym (a.occupied_other k o.0 d) ∙ o.1)

  -- and holds what it held
  pub text_other : (k : ℕ) → Occupied s k → (k ≡ slot → ⊥) → text_of l after k ≡ text_of l s k
  unfolding text_of
  text_other k o d =
      let lie = was.lie k o in
      ap₂ (λ (w n : ℕ). take w (drop n after)) (a.length_other k o.0 d) (a.start_other k o.0 d)
      ∙ a.before (start_of l s k) (length_of l s k) lie.0 lie.1

  this_or : (P : ℕ → Type 0) (k : ℕ) → P slot → ((k ≡ slot → ⊥) → P k) → P k
  this_or P k p q = ⊎_elim (λ (e : k ≡ slot). subst P (sym e) p) q (decides (eqb k slot) (says_eq k slot))

  lie_after : (k : ℕ) → Occupied after k → (base l ≤ start_of l after k) × (start_of l after k + length_of l after k ≤ end_of l after)
  unfolding end_of
  lie_after k o =
      this_or (λ j. (base l ≤ start_of l after j) × (start_of l after j + length_of l after j ≤ end_of l after)) k
      (omega (arith, a.start_this, a.end), omega (arith, a.start_this, a.length_this, a.end))
      (λ d.
      let lie = was.lie k (occupied_before k o d) in
      (omega (arith, a.start_other k o.0 d), omega (arith, a.start_other k o.0 d, a.length_other k o.0 d, a.end)))

  -- this text begins where the other texts end
  behind : (k : ℕ) → Occupied after k → (k ≡ slot → ⊥) → start_of l after k + length_of l after k ≤ start_of l after slot
  behind k o d =
      let lie = was.lie k (occupied_before k o d) in
      omega (arith, a.start_this, a.start_other k o.0 d, a.length_other k o.0 d)

  disjoint_after : (j k : ℕ) → Occupied after j → Occupied after k → (j ≡ k → ⊥) → Apart l after j k
  disjoint_after j k p q d =
      ⊎_elim
      (λ (e : j ≡ slot).
      inr (subst (λ (n : ℕ). start_of l after k + length_of l after k ≤ start_of l after n) (sym e)
      (behind k q (λ f. d (e ∙ sym f)))))
      (λ (e : j ≡ slot → ⊥).
      ⊎_elim
      (λ (f : k ≡ slot). inl (subst (λ (n : ℕ). start_of l after j + length_of l after j ≤ start_of l after n) (sym f) (behind j p e)))
      (λ (f : k ≡ slot → ⊥). both e f)
      (decides (eqb k slot) (says_eq k slot)))
      (decides (eqb j slot) (says_eq j slot))
    where
      both : (j ≡ slot → ⊥) → (k ≡ slot → ⊥) → Apart l after j k
      both e f =
          let sj = a.start_other j p.0 e in
          let lj = a.length_other j p.0 e in
          let sk = a.start_other k q.0 f in
          let lk = a.length_other k q.0 f in
          ⊎_elim (λ h. inl (omega arith)) (λ h. inr (omega arith))
          (was.disjoint j k (occupied_before j p e) (occupied_before k q f) d)

  normal_after : (k : ℕ) → Occupied after k → is_normal_form (text_of l after k) ≡ true
  normal_after k o =
      this_or (λ j. is_normal_form (text_of l after j) ≡ true) k (ap is_normal_form a.text_this ∙ normal)
      (λ d. ap is_normal_form (text_other k (occupied_before k o d) d) ∙ was.normal k (occupied_before k o d))

  different_after : (j k : ℕ) → Occupied after j → Occupied after k → (j ≡ k → ⊥) → text_of l after j ≡ text_of l after k → ⊥
  different_after j k p q d e =
      ⊎_elim
      (λ (f : j ≡ slot).
      let g : k ≡ slot → ⊥ = λ h. d (f ∙ sym h) in
      let o = occupied_before k q g in
      fresh k o (sym (text_other k o g) ∙ sym e ∙ ap (text_of l after) f ∙ a.text_this))
      (λ (f : j ≡ slot → ⊥).
      let o = occupied_before j p f in
      ⊎_elim
      (λ (g : k ≡ slot). fresh j o (sym (text_other j o f) ∙ e ∙ ap (text_of l after) g ∙ a.text_this))
      (λ (g : k ≡ slot → ⊥).
      let r = occupied_before k q g in
      was.different j k o r d (sym (text_other j o f) ∙ e ∙ text_other k r g))
      (decides (eqb k slot) (says_eq k slot)))
      (decides (eqb j slot) (says_eq j slot))

  blank_after : (k : ℕ) → Free after k → (start_of l after k ≡ 0) × (length_of l after k ≡ 0)
  blank_after k o =
      let d : k ≡ slot → ⊥ = λ e. true≢false (sym a.occupied_this ∙ ap (is_occupied after) (sym e) ∙ o.1) in
      let b = was.blank k (o.0, sym (a.occupied_other k o.0 d) ∙ o.1) in
      (a.start_other k o.0 d ∙ b.0, a.length_other k o.0 d ∙ b.1)

  zero_after : all (eqb 0) (drop (end_of l after) after) ≡ true
  zero_after =
      ap (λ (n : ℕ). all (eqb 0) (drop n after)) a.end
      ∙ ap (all (eqb 0)) (a.rest ∙ sym (drop-drop (length form) (end_of l s) s))
      ∙ all_drop (eqb 0) (length form) (drop (end_of l s) s) was.zero

  -- the text bytes held: the figure and the sum rise alike
  sums_after : 21 ≤ l.pairs → held_figure after ≡ held l after
  unfolding end_of
  sums_after sums =
      a.held sums
      ∙ mod-eq_of_lt (omega (arith, was.summed sums, was.most))
      ∙ omega (arith, was.summed sums, a.end)

  pub put_keeps : Sound l after
  put_keeps = record {
    least = omega (arith, a.long, was.least);
    most = omega (arith, a.long, was.most);
    headed =
        begins_front (heading l) after s
        (ap (λ (n : ℕ). take n after) (heading_length l) ∙ a.front ∙ ap (λ (n : ℕ). take n s) (sym (heading_length l)))
        ∙ was.headed;
    room = omega (arith, a.long, a.end);
    lie = lie_after;
    disjoint = disjoint_after;
    normal = normal_after;
    different = different_after;
    blank = blank_after;
    zero = zero_after;
    summed = sums_after;
  }
