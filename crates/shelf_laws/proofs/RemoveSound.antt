-- A sound shelf stays sound where a text is taken out and the later ones are moved down. Assumes nothing.
use Prim.Native.Nat.{ℕ, ◌+◌, ◌-◌, ◌≤◌}
use mathlib.Core.Path.{◌≡◌, sym, ap, ap₂, subst, ◌∙◌}
use mathlib.Core.Bool.{true≢false}
use mathlib.Core.List.{List}
use mathlib.Core.Logic.{◌⊎◌, inl, inr, ⊎_elim}
use native.Mathlib.Nat.{mod-eq_of_lt}
use native.Mathlib.Omega.{arith}
use lib.Dec.{eqb}
use lib.ListN.{length, take, drop, length-drop}
use lib.Seq.{length-take-le}
use Rattle.lists.proofs.Tests.{says_eq, decides}
use Rattle.shelves.specs.Layout.{Layout, held_figure, is_occupied, Occupied, Free, base, heading, start_of, length_of, text_of, held, end_of}
use Rattle.shelves.specs.Soundness.{is_normal_form}
use Rattle.shelves.proofs.Sound.{Apart, Sound}
use Rattle.own_form_laws.proofs.OwnForm.{normal_nine}
use Rattle.shelves.proofs.Stored.{begins_front, heading_length}
use Rattle.shelves.proofs.Removed.{Removed}

-- a kept text is as long as its pair says, and has nine bytes or more
pub text_length : (l : Layout) (s : List ℕ) → Sound l s → (k : ℕ) → Occupied s k → length (text_of l s k) ≡ length_of l s k
unfolding text_of
text_length l s was k o =
    length-take-le (length_of l s k) (drop (start_of l s k) s) (omega (arith, length-drop (start_of l s k) s, (was.lie k o).1, was.room))

pub text_nine : (l : Layout) (s : List ℕ) → Sound l s → (k : ℕ) → Occupied s k → 9 ≤ length_of l s k
text_nine l s was k o = omega (arith, text_length l s was k o, normal_nine (text_of l s k) (was.normal k o))

module _ (l : Layout) (s : List ℕ) (slot : ℕ) (after : List ℕ) (was : Sound l s) (o : Occupied s slot) (r : Removed l s slot after) where
  abbrev st : ℕ
  st = start_of l s slot

  abbrev ln : ℕ
  ln = length_of l s slot

  other : (k : ℕ) → Occupied after k → k ≡ slot → ⊥
  other k q e = true≢false (sym q.1 ∙ ap (is_occupied after) e ∙ r.free_this)

  -- what is occupied was so
  occupied_before : (k : ℕ) → Occupied after k → Occupied s k
  occupied_before k q = (q.0, sym (r.occupied_other k q.0 (other k q)) ∙ q.1)

  -- another text lies before the removed one and stays, or behind it and moves down by its length
  record Earlier (k : ℕ) : Type 0 where
    ends : start_of l s k + length_of l s k ≤ st
    stays : start_of l after k ≡ start_of l s k

  record Later (k : ℕ) : Type 0 where
    begins : st + ln ≤ start_of l s k
    moves : start_of l after k ≡ start_of l s k - ln

  side : (k : ℕ) → Occupied s k → (k ≡ slot → ⊥) → Earlier k ⊎ Later k
  side k q d =
      ⊎_elim
      (λ (h : start_of l s k + length_of l s k ≤ st). inl (record { ends = h; stays = r.start_earlier k q.0 d (omega arith) }))
      (λ (h : st + ln ≤ start_of l s k).
      inr (record { begins = h; moves = r.start_later k q.0 d (omega (arith, text_nine l s was slot o)) }))
      (was.disjoint k slot q o d)

  -- what is kept is as it was
  pub text_kept : (k : ℕ) → Occupied s k → (k ≡ slot → ⊥) → text_of l after k ≡ text_of l s k
  unfolding text_of
  text_kept k q d =
      let long = r.length_other k q.0 d in
      ⊎_elim
      (λ (e : Earlier k).
      ap₂ (λ (w n : ℕ). take w (drop n after)) long e.stays
      ∙ r.before (start_of l s k) (length_of l s k) (was.lie k q).0 e.ends)
      (λ (e : Later k).
      ap₂ (λ (w n : ℕ). take w (drop n after)) long e.moves
      ∙ r.moved (start_of l s k) (length_of l s k) e.begins (was.lie k q).1)
      (side k q d)

  lie_after : (k : ℕ) → Occupied after k → (base l ≤ start_of l after k) × (start_of l after k + length_of l after k ≤ end_of l after)
  lie_after k q =
      let p = occupied_before k q in
      let d = other k q in
      let here = was.lie slot o in
      let there = was.lie k p in
      let long = r.length_other k q.0 d in
      let end = r.end in
      ⊎_elim
      (λ (e : Earlier k). let a = e.ends in let b = e.stays in (omega arith, omega arith))
      (λ (e : Later k). let a = e.begins in let b = e.moves in (omega arith, omega arith))
      (side k p d)

  disjoint_after : (j k : ℕ) → Occupied after j → Occupied after k → (j ≡ k → ⊥) → Apart l after j k
  disjoint_after j k p q d =
      let lj = r.length_other j p.0 (other j p) in
      let lk = r.length_other k q.0 (other k q) in
      let a = was.disjoint j k (occupied_before j p) (occupied_before k q) d in
      ⊎_elim
      (λ (e : Earlier j).
      let ej = e.ends in
      let sj = e.stays in
      ⊎_elim
      (λ (f : Earlier k). let ek = f.ends in let sk = f.stays in ⊎_elim (λ h. inl (omega arith)) (λ h. inr (omega arith)) a)
      (λ (f : Later k). let ek = f.begins in let sk = f.moves in inl (omega arith))
      (side k (occupied_before k q) (other k q)))
      (λ (e : Later j).
      let ej = e.begins in
      let sj = e.moves in
      ⊎_elim
      (λ (f : Earlier k). let ek = f.ends in let sk = f.stays in inr (omega arith))
      (λ (f : Later k). let ek = f.begins in let sk = f.moves in ⊎_elim (λ h. inl (omega arith)) (λ h. inr (omega arith)) a)
      (side k (occupied_before k q) (other k q)))
      (side j (occupied_before j p) (other j p))

  blank_after : (k : ℕ) → Free after k → (start_of l after k ≡ 0) × (length_of l after k ≡ 0)
  blank_after k f =
      ⊎_elim
      (λ (e : k ≡ slot). subst (λ (n : ℕ). (start_of l after n ≡ 0) × (length_of l after n ≡ 0)) (sym e) r.blank_this)
      (λ (d : k ≡ slot → ⊥).
      let b = was.blank k (f.0, sym (r.occupied_other k f.0 d) ∙ f.1) in
      (r.start_earlier k f.0 d (omega (arith, b.0)) ∙ b.0, r.length_other k f.0 d ∙ b.1))
      (decides (eqb k slot) (says_eq k slot))

  -- the text bytes held: the figure and the sum fall alike
  sums_after : 21 ≤ l.pairs → held_figure after ≡ held l after
  unfolding end_of
  sums_after sums =
      r.held sums
      ∙ mod-eq_of_lt (omega (arith, was.summed sums, was.room, was.most))
      ∙ omega (arith, was.summed sums, r.end)

  pub remove_keeps : Sound l after
  remove_keeps = record {
    least = omega (arith, r.long, was.least);
    most = omega (arith, r.long, was.most);
    headed =
        begins_front (heading l) after s
        (ap (λ (n : ℕ). take n after) (heading_length l) ∙ r.front ∙ ap (λ (n : ℕ). take n s) (sym (heading_length l)))
        ∙ was.headed;
    room = omega (arith, r.long, r.end, was.room);
    lie = lie_after;
    disjoint = disjoint_after;
    normal = λ k q. ap is_normal_form (text_kept k (occupied_before k q) (other k q)) ∙ was.normal k (occupied_before k q);
    different =
        λ j k p q d e.
        was.different j k (occupied_before j p) (occupied_before k q) d
        (sym (text_kept j (occupied_before j p) (other j p)) ∙ e ∙ text_kept k (occupied_before k q) (other k q));
    blank = blank_after;
    zero = r.zero;
    summed = sums_after;
  }
