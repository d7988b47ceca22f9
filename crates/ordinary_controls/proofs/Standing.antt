-- An element of ordinary bytes, by the places between which it stands: its value, that it is alone, and where the next element begins.
-- Assumes nothing.
use Rattle.std.specs.Prelude.{Option, Some, None, if◌then◌else◌, Ok}
use Rattle.std.specs.Bool.{then_some}
use Prim.Native.Nat.{ℕ, zero, suc, ◌+◌, ◌-◌, ◌≤◌, ◌<◌}
use mathlib.Core.Path.{◌≡◌, refl, sym, ap, ap₂, subst, ◌∙◌}
use mathlib.Core.Bool.{Bool, true, false, not, ◌&&◌, ◌||◌, or-true, false≢true}
use mathlib.Core.List.{List, ◌∷◌, ◌++◌, append-nil}
use mathlib.Core.Logic.{◌⊎◌, inl, inr, ⊎_elim}
use native.Mathlib.Omega.{arith}
use lib.ListN.{length, get_or, take, drop}
use lib.Seq.{take_all}
use lib.Dec.{eqb, leb}
use borrow.Author.Tests.{le-leb, not-true, eq-eqb}
use Rattle.lists.specs.Lists.{same, all}
use Rattle.lists.proofs.Numbers.{drop_next}
use Rattle.lists.proofs.Texts.{and_left, and_right, and_both, same_refl, if_true}
use Rattle.characters.specs.declared.Characters.{Characters}
use Rattle.characters.specs.declared.Role.{Role}
use Rattle.characters.specs.declared.Role.TheVariants as role
use Rattle.characters.specs.Characters.{role as role_in, between, digit, after_breaks}
use Rattle.refusals.specs.declared.Fault.TheVariants.{BadControl}
use Rattle.refusals.specs.Refusals.{failed_at}
use Rattle.values.specs.Tokens.{Token, ends, tokens_at}
use Rattle.values.proofs.Steps.{at_plain, at_separator, ends_yes, ends_no}
use Rattle.control_elements.specs.declared.Positions.{Positions}
use Rattle.control_elements.specs.Control.{decimal}
use Rattle.scanner.specs.declared.Lexed.TheVariants.{Separator}
use Rattle.scanner.specs.Scanner.{lex_separator}
use Rattle.scanner.proofs.Lexing.{Lexes, lex_separator_lem, lexes_as}
use Rattle.elements.specs.Elements.{piece_from, element_from, holds_byte, ElementAt}
use Rattle.elements.specs.Values.{value_in, value_end}
use Rattle.elements.proofs.Elements.{from_plain, from_next, holds_over}
use Rattle.elements.proofs.Values.{next_byte, next_separator}
use Rattle.trimmed_values.specs.Trimmed.{is_alone}
use Rattle.control_fields.specs.Fields.{field_of, spells_reference, spells_count}
use Rattle.stage_control.specs.Controlling.{trailer_by, controlled_by}
use Rattle.ordinary_runs.specs.Runs.{is_ordinary, quiet, Run}
use Rattle.ordinary_runs.proofs.Runs.{role_plain, run_length}
use Rattle.ordinary_controls.specs.declared.Count.{Count}
use Rattle.ordinary_controls.specs.Standing.{part, SameRun, Counts, Tagged, Refers, Repeats, Heads, Trails, Controls}
use Rattle.ordinary_controls.proofs.Parts.{same_part, same_ordinary}

module _ (c : Characters) (s : List ℕ) where
  -- ---- what ends an element

  abbrev EndsAt : ℕ → Type 0
  EndsAt at = (eqb (get_or s at 0) c.terminator || eqb (get_or s at 0) c.element) ≡ true

  -- the terminator and the element separator do
  abbrev pub Ends : ℕ → Type 0
  Ends at = (rank : ℕ) × (next : ℕ) × (rank ≤ 1) × Lexes c s at (Separator rank next)

  pub ends_at : (at : ℕ) → at < length s → EndsAt at → Ends at
  unfolding role_in lex_separator
  ends_at at h e =
      ⊎_elim
      (λ r. (0, after_breaks s (at + 1), omega arith, lexes_as c s at (lex_separator_lem c s at 0 h r) refl))
      (λ r. (1, at + 1, omega arith, lexes_as c s at (lex_separator_lem c s at 1 h r) refl))
      (role_is (eqb (get_or s at 0) c.terminator) (eqb (get_or s at 0) c.element) _ e)
    where
      role_is : (t u : Bool) (o : Role) → (t || u) ≡ true
          → ((if t then role.Separator 0 else (if u then role.Separator 1 else o)) ≡ role.Separator 0)
          ⊎ ((if t then role.Separator 0 else (if u then role.Separator 1 else o)) ≡ role.Separator 1)
      role_is true u o k = inl refl
      role_is false true o k = inr refl
      role_is false false o k = absurd (false≢true k)

  -- ---- a run

  module _ (q : quiet c ≡ true) where
    -- what follows it goes on in the same element
    over : (n from : ℕ) → ((k : ℕ) → from ≤ k → k < from + n → (k < length s) × (is_ordinary (get_or s k 0) ≡ true))
        → (value_in (tokens_at c s from) ≡ take n (drop from s) ++ value_in (tokens_at c s (from + n)))
        × (value_end (tokens_at c s from) ≡ value_end (tokens_at c s (from + n)))
        × ((left : ℕ) → 0 < left → element_from left (tokens_at c s from) ≡ element_from left (tokens_at c s (from + n)))
    unfolding ends
    over zero from h =
        let here : from ≡ from + 0 = omega arith in (
          ap (λ (p : ℕ). value_in (tokens_at c s p)) here,
          ap (λ (p : ℕ). value_end (tokens_at c s p)) here,
          λ left l. ap (λ (p : ℕ). element_from left (tokens_at c s p)) here,
        )
    over (suc n) from h =
        let (inside, o) = h from (omega arith) (omega arith) in
        let b = get_or s from 0 in
        let t = at_plain c s from inside (role_plain c q b o) in
        let next = next_byte c s from from (refl, refl, omega arith, λ i. i) (t, omega arith, omega arith) in
        let rest = over n (from + 1) (λ k l m. h k (omega arith) (omega arith)) in
        let there : from + 1 + n ≡ from + suc n = omega arith in (
          next.0
              ∙ ap (λ (l : List ℕ). b ∷ l) rest.0
              ∙ ap₂ (λ (l : List ℕ) (p : ℕ). take (suc n) l ++ value_in (tokens_at c s p)) (sym (drop_next s from inside)) there,
          next.1 ∙ rest.1 ∙ ap (λ (p : ℕ). value_end (tokens_at c s p)) there,
          λ left l.
              from_plain 1 left l t (λ k. refl) ∙ rest.2 left l ∙ ap (λ (p : ℕ). element_from left (tokens_at c s p)) there,
        )

    module _ (from to : ℕ) (run : Run true s from to) where
      abbrev whole : List ℕ
      whole = value_in (tokens_at c s from)

      there : from + (to - from) ≡ to
      there = omega (arith, run.0)

      bytes : (k : ℕ) → from ≤ k → k < from + (to - from) → (k < length s) × (is_ordinary (get_or s k 0) ≡ true)
      bytes k l m = let (q, i, o) = run.1 k l (omega (arith, run.0)) in (i, o)

      -- after an element separator the next element begins
      pub next_element : to < length s → (eqb (get_or s to 0) c.element && not (eqb (get_or s to 0) c.terminator)) ≡ true
          → (left : ℕ) → 0 < left → element_from left (tokens_at c s from) ≡ element_from (left - 1) (tokens_at c s (to + 1))
      unfolding role_in
      next_element inside e left l =
          let E = eqb (get_or s to 0) c.element in
          let T = eqb (get_or s to 0) c.terminator in
          let is : E ≡ true = and_left E (not T) e in
          let other : T ≡ false = not-true T (and_right E (not T) e) in
          let r : role_in c (get_or s to 0) ≡ role.Separator 1 = simp (other, is) in
          (over (to - from) from bytes).2 left l
          ∙ ap (λ (p : ℕ). element_from left (tokens_at c s p)) there
          ∙ from_next (ends 0) (ends 1) left l (at_separator c s to 0 inside r) (ends_no 0 to {k = 1} (omega arith)) (ends_yes 1 to {k = 1} (omega arith))

      -- where the element ends, the bytes are its only value
      module _ (inside : to < length s) (e : EndsAt to) where
        value_is : whole ≡ part s from to
        value_is =
            let (rank, next, h, l) = ends_at to inside e in
            (over (to - from) from bytes).0
            ∙ ap (λ (p : ℕ). part s from to ++ value_in (tokens_at c s p)) there
            ∙ ap (λ (v : List ℕ). part s from to ++ v) (next_separator c s to to (refl, refl, omega arith, λ i. i) l).0
            ∙ append-nil (part s from to)

        alone_is : is_alone (tokens_at c s from) ≡ true
        unfolding is_alone
        alone_is =
            let (rank, next, h, l) = ends_at to inside e in
            ap (λ (ts : List Token). not (holds_byte 1 ts))
            ((over (to - from) from bytes).1
            ∙ ap (λ (p : ℕ). value_end (tokens_at c s p)) there
            ∙ sym (next_separator c s to to (refl, refl, omega arith, λ i. i) l).1.0)
            ∙ ap not (holds_over 1 l.0 (le-leb rank 1 h))

        size_is : length whole ≡ to - from
        size_is = ap length value_is ∙ run_length s run.0 (omega arith)

    -- ---- references and counts

    pub refers_is : (from to : ℕ) → Run true s from to → Refers c s from to → spells_reference (field_of (tokens_at c s from)) ≡ true
    unfolding spells_reference field_of between
    refers_is from to run r =
        let n = length (value_in (tokens_at c s from)) in
        let size = size_is from to run r.inside r.ended in
        and_both (is_alone (tokens_at c s from)) (between 1 14 n) (alone_is from to run r.inside r.ended)
        (and_both (leb 1 n) (leb n 14) (le-leb 1 n (omega (arith, size, r.some))) (le-leb n 14 (omega (arith, size, r.few))))

    pub repeats_is : (from header to : ℕ) → SameRun s from header to → Refers c s from to → header + (to - from) < length s
        → (eqb (get_or s (header + (to - from)) 0) c.terminator || eqb (get_or s (header + (to - from)) 0) c.element) ≡ true → Repeats c s from header
    repeats_is from header to same-run r inside e =
        let mine = value_is from to same-run.0 r.inside r.ended in
        let other = value_is header (header + (to - from)) (same_ordinary s from header to same-run) inside e in
        let equal = other ∙ same_part s from header to same-run ∙ sym mine in (
          refers_is from to same-run.0 r,
          subst (λ (v : List ℕ). same (value_in (tokens_at c s from)) v ≡ true) (sym equal) (same_refl (value_in (tokens_at c s from))),
        )

    pub count_is : (from : ℕ) (r : Count) → Counts s from r → r.end < length s → (r.end ≡ from → ⊥)
        → (eqb (get_or s r.end 0) c.terminator || eqb (get_or s r.end 0) c.element) ≡ true
        → (spells_count (field_of (tokens_at c s from)) ≡ true) × ((field_of (tokens_at c s from)).number ≡ r.number)
    unfolding spells_count field_of between
    count_is from r k inside several e =
        let value = value_in (tokens_at c s from) in
        let n = length value in
        let size = size_is from r.end k.run inside e in
        let equal = value_is from r.end k.run inside e in
        let first = k.run.0 in (
          and_both (is_alone (tokens_at c s from) && all digit value) (between 1 6 n)
              (and_both (is_alone (tokens_at c s from)) (all digit value) (alone_is from r.end k.run inside e) (ap (all digit) equal ∙ k.digits))
              (and_both (leb 1 n) (leb n 6) (le-leb 1 n (omega (arith, size, first, several))) (le-leb n 6 (omega (arith, size, k.few)))),
          ap decimal (take_all 6 value (omega (arith, size, k.few)) ∙ equal) ∙ sym k.number_is,
        )

    -- ---- the segment

    module _ (at : ℕ) (tag : Tagged s at) where
      -- after the tag the first element begins
      pub first_element : (eqb (get_or s (at + 3) 0) c.element && not (eqb (get_or s (at + 3) 0) c.terminator)) ≡ true → ElementAt c s at 1 (at + 3 + 1)
      unfolding piece_from
      first_element e = (sym (next_element at (at + 3) tag.0 tag.1 e 1 (omega arith)), λ h. omega (arith, tag.1))

      -- a trailer that says what it has to
      pub trailer_is : (header count : ℕ) (r : Count) → Counts s (at + 3 + 1) r → r.end < length s → (r.end ≡ at + 3 + 1 → ⊥) → r.number ≡ count
          → (eqb (get_or s (at + 3) 0) c.element && not (eqb (get_or s (at + 3) 0) c.terminator)) ≡ true
          → (eqb (get_or s r.end 0) c.element && not (eqb (get_or s r.end 0) c.terminator)) ≡ true
          → Repeats c s (r.end + 1) header → Trails c s at header count (Some (r.end + 1))
      unfolding piece_from trailer_by
      trailer_is header count r k inside several number first second repeats =
          let counted = next_element at (at + 3) tag.0 tag.1 first in
          let referring = next_element (at + 3 + 1) r.end k.run inside second in
          let ended = separator_ends r.end second in
          let (spelled, is) = count_is (at + 3 + 1) r k inside several ended in (
            ((sym (counted 2 (omega arith) ∙ referring 1 (omega arith)), λ h. omega arith), repeats.0),
            ap (λ (ts : List Token). trailer_by at (tokens_at c s (r.end + 1)) ts (tokens_at c s header) count) (counted 1 (omega arith))
                ∙ if_true (spells_count (field_of (tokens_at c s (at + 3 + 1)))) _ _ spelled
                ∙ if_true (same (value_in (tokens_at c s (r.end + 1))) (value_in (tokens_at c s header))) _ _ repeats.1
                ∙ if_true (eqb (field_of (tokens_at c s (at + 3 + 1))).number count) _ _ (eq-eqb _ count (is ∙ number)),
          )
        where
          separator_ends : (p : ℕ) → (eqb (get_or s p 0) c.element && not (eqb (get_or s p 0) c.terminator)) ≡ true
              → (eqb (get_or s p 0) c.terminator || eqb (get_or s p 0) c.element) ≡ true
          separator_ends p e =
              let E = eqb (get_or s p 0) c.element in
              let T = eqb (get_or s p 0) c.terminator in
              ap (λ (b : Bool). T || b) (and_left E (not T) e) ∙ or-true T

  -- what is told of a header, and of a trailer, is told of the segment
  module _ (at : ℕ) (p : Positions) (header count : ℕ) where
    pub header_controls : (r : Option ℕ) → p.count ≡ 0 → Heads c s at p.reference r → Controls c s at p header count r
    unfolding controlled_by
    header_controls (Some r) e (there, is) = (there, by_test (eqb p.reference 0))
      where
        by_test : (t : Bool)
            → (if t then Ok tt
            else (if spells_reference (field_of (tokens_at c s r))
            then (if eqb p.count 0 then Ok tt
            else trailer_by at (tokens_at c s r) (element_from p.count (tokens_at c s at)) (tokens_at c s header) count)
            else failed_at BadControl at))
            ≡ Ok tt
        by_test true = refl
        by_test false = if_true (spells_reference (field_of (tokens_at c s r))) _ _ is ∙ if_true (eqb p.count 0) _ _ (eq-eqb p.count 0 e)
    header_controls None e h = tt

    pub trailer_controls : (r : Option ℕ) → p.count ≡ 1 → p.reference ≡ 2 → Trails c s at header count r → Controls c s at p header count r
    unfolding controlled_by
    trailer_controls (Some r) e d ((there, is), passed) = (
      subst (λ (k : ℕ). ElementAt c s at k r) (sym d) there,
      ap₂ (λ (k m : ℕ).
          if eqb m 0 then Ok tt
          else (if spells_reference (field_of (tokens_at c s r))
          then (if eqb k 0 then Ok tt
          else trailer_by at (tokens_at c s r) (element_from k (tokens_at c s at)) (tokens_at c s header) count)
          else failed_at BadControl at)) e d
          ∙ if_true (spells_reference (field_of (tokens_at c s r))) _ _ is
          ∙ passed,
    )
    trailer_controls None e d h = tt

-- ---- what is told where a test says yes, and else nothing

pub told_if : {A : Type 0} (told : Option A → Type 0) → told None → (test : Bool) (x : A) → (test ≡ true → told (Some x)) → {r : Option A}
    → r ≡ then_some test x → told r
told_if told nothing true x h e = subst told (sym e) (h refl)
told_if told nothing false x h e = subst told (sym e) nothing
