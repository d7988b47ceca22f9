-- What the rule of sections says in letters: the first element of a UNS is one component of one byte, 68 for `D` or 83 for `S`, and which of
-- them have stood since the nearest UNH. What passed is a list of segments, the nearest first. Assumes nothing.
use Rattle.std.specs.Prelude.{if◌then◌else◌}
use Prim.Native.Nat.{ℕ}
use mathlib.Core.Path.{◌≡◌, refl, sym, ap, ◌∙◌}
use mathlib.Core.Bool.{Bool, true, false, not, false≢true, true≢false}
use mathlib.Core.List.Memᴰ
use mathlib.Core.List.{List, [], ◌∷◌, ◌++◌, head-eq_of_cons-eq, Memᴰ}
use mathlib.Core.Option.{Option, none, some}
use mathlib.Core.Logic.{◌⊎◌, inl, inr, ⊎_elim, ◌↔◌}
use native.Mathlib.Omega.{arith}
use Rattle.lists.specs.Lists.{same, those, through, at, maybe}
use Rattle.lists.proofs.Texts.{and_left, and_right, and_both}
use Rattle.lists.proofs.Tests.{Says, says_not, says_same, says_as, says_any, says_maybe, fails, through_is}
use Rattle.values.specs.Tokens.{Segment}
use Rattle.values.specs.Trimming.{contents_of}
use Rattle.segments.specs.declared.Kind.TheVariants.{Unh, Uns}
use Rattle.segments.specs.declared.Section.{Section}
use Rattle.segments.specs.declared.Section.TheVariants.{None, Detail, Summary}
use Rattle.segments.specs.Kinds.{index, is}
use Rattle.segments.specs.Tags.{kind_of}
use Rattle.segments.proofs.Words.{is_says}
use Rattle.control_elements.specs.Control.{control_element}
use Rattle.control_elements.specs.Sections.{section_named, section_of, is_section, markers_in, has_section, may_begin, section_rule}
use Rattle.control_elements.proofs.Words.{element_is, Nearest}

-- "a single component" of this one byte in the first element, which has one repeat and is counted from 1 after the tag
abbrev pub Names : Segment → ℕ → Type 0
Names g letter = at (contents_of g) 1 ≡ some (((letter ∷ []) ∷ []) ∷ [])

-- an element that is one component with this text
text_says : (g : Segment) (name : List ℕ)
    → Says (maybe false (λ value. same value name) (control_element g 1)) (at (contents_of g) 1 ≡ some ((name ∷ []) ∷ []))
text_says g name =
    says_as (says_maybe (λ value. same value name) (λ value. says_same value name) (control_element g 1))
    (λ h. (element_is g 1 name).0 (h.1 ∙ ap some h.2))
    (λ h. (name, (element_is g 1 name).1 h, refl))

-- "D for detail"
pub detail_says : (g : Segment) → Says (is_section Detail (section_of g)) (Names g 68)
unfolding section_of section_named is_section maybe
detail_says g = rw (step (control_element g 1)) (text_says g (68 ∷ []))
  where
    named : (d s : Bool) → is_section Detail (if d then Detail else (if s then Summary else None)) ≡ d
    named true s = refl
    named false true = refl
    named false false = refl

    step : (o : Option (List ℕ)) → is_section Detail (maybe None section_named o) ≡ maybe false (λ value. same value (68 ∷ [])) o
    step none = refl
    step (some value) = named (same value (68 ∷ [])) (same value (83 ∷ []))

-- "S for summary"
pub summary_says : (g : Segment) → Says (is_section Summary (section_of g)) (Names g 83)
unfolding section_of section_named is_section maybe same
summary_says g = rw (step (control_element g 1)) (text_says g (83 ∷ []))
  where
    named : (d s : Bool) → (d ≡ true → s ≡ true → ⊥) → is_section Summary (if d then Detail else (if s then Summary else None)) ≡ s
    named true true h = absurd (h refl refl)
    named true false h = refl
    named false true h = refl
    named false false h = refl

    other : (value : List ℕ) → same value (68 ∷ []) ≡ true → same value (83 ∷ []) ≡ true → ⊥
    other value d s =
        let e : ◌≡◌ {A = List ℕ} (68 ∷ []) (83 ∷ []) = sym ((says_same value (68 ∷ [])).0 d) ∙ (says_same value (83 ∷ [])).0 s in
        let z : ◌≡◌ {A = ℕ} 68 83 = head-eq_of_cons-eq e in omega arith

    step : (o : Option (List ℕ)) → is_section Summary (maybe None section_named o) ≡ maybe false (λ value. same value (83 ∷ [])) o
    step none = refl
    step (some value) = named (same value (68 ∷ [])) (same value (83 ∷ [])) (other value)

-- ---- those that stood

-- what passes a test, of a list
says_those : {A : Type 0} (t : A → Bool) (xs : List A) (x : A) → Memᴰ x (those t xs) ↔ (Memᴰ x xs × (t x ≡ true))
unfolding those
says_those t [] x = (λ m. absurd (Memᴰ.not-nil m), λ h. absurd (Memᴰ.not-nil h.0))
says_those {A} t (y ∷ ys) x = step (t y) refl (says_those t ys x)
  where
    step : (b : Bool) → t y ≡ b → (Memᴰ x (those t ys) ↔ (Memᴰ x ys × (t x ≡ true)))
        → Memᴰ x (if b then y ∷ those t ys else those t ys) ↔ (Memᴰ x (y ∷ ys) × (t x ≡ true))
    step true e rest = (
      λ m. ⊎_elim (λ q. (Memᴰ.head q, ap t q ∙ e)) (λ n. (Memᴰ.tail (rest.0 n).0, (rest.0 n).1)) (Memᴰ.cases_cons m),
      λ h. ⊎_elim (λ q. Memᴰ.head q) (λ n. Memᴰ.tail (rest.1 (n, h.1))) (Memᴰ.cases_cons h.0),
    )
    step false e rest = (
      λ m. (Memᴰ.tail (rest.0 m).0, (rest.0 m).1),
      λ h.
          ⊎_elim (λ q. absurd (true≢false (sym h.1 ∙ ap t q ∙ e))) (λ n. rest.1 (n, h.1)) (Memᴰ.cases_cons h.0),
    )

module _ (past : List Segment) (n : Nearest Unh past) where
  -- "in a message": a UNS of this letter stands among what passed since UNH
  abbrev pub Stood : ℕ → Type 0
  Stood letter = (g : Segment) × Memᴰ g n.0 × (kind_of g ≡ Uns) × Names g letter

  markers_are : markers_in past ≡ those (λ g. is Uns (kind_of g)) (n.0 ++ n.1 ∷ [])
  unfolding markers_in
  markers_are =
      ap (λ (l : List Segment). those (λ g. is Uns (kind_of g)) (through (λ g. is Unh (kind_of g)) l)) n.3
      ∙ ap (those (λ g. is Uns (kind_of g)))
      (through_is (λ g. is Unh (kind_of g)) n.0 n.1 n.2
      (λ g m. (fails (is Unh (kind_of g)) (is_says Unh (kind_of g))).1 (n.5 g m))
      ((is_says Unh (kind_of n.1)).1 n.4))

  -- the header itself is no UNS
  header_other : kind_of n.1 ≡ Uns → ⊥
  header_other e = let z : ◌≡◌ {A = ℕ} 2 3 = ap index (sym n.4 ∙ e) in omega arith

  stood_says : (section : Section) (letter : ℕ) → ((g : Segment) → Says (is_section section (section_of g)) (Names g letter))
      → Says (has_section section past) (Stood letter)
  unfolding has_section
  stood_says section letter named =
      rw markers_are
      (says_as (says_any (λ g. is_section section (section_of g)) named (those (λ g. is Uns (kind_of g)) (n.0 ++ n.1 ∷ [])))
      (λ h.
      let m = (says_those (λ g. is Uns (kind_of g)) (n.0 ++ n.1 ∷ []) h.0).0 h.1 in
      let k : kind_of h.0 ≡ Uns = (is_says Uns (kind_of h.0)).0 m.1 in
      (h.0, ⊎_elim (λ q. q) (λ q. absurd (header_other (ap kind_of (sym (Memᴰ.eq_of_singleton q)) ∙ k))) (Memᴰ.append_cases n.0 m.0), k, h.2))
      (λ h. (
        h.0,
        (says_those (λ g. is Uns (kind_of g)) (n.0 ++ n.1 ∷ []) h.0).1
            (Memᴰ.append_left (n.1 ∷ []) h.1, (is_says Uns (kind_of h.0)).1 h.2),
        h.3,
      )))

  -- "UNS's first element is a single component `D` or `S`, each at most once in a message, D before S if both stand."
  pub section_says : (g : Segment) → kind_of g ≡ Uns
      → Says (section_rule past g) ((Names g 68 × (Stood 68 → ⊥) × (Stood 83 → ⊥)) ⊎ (Names g 83 × (Stood 83 → ⊥)))
  unfolding section_rule may_begin is_section
  section_says g k =
      rw ((is_says Uns (kind_of g)).1 k)
      (step (section_of g) (detail_says g) (summary_says g))
    where
      no_detail : Says (not (has_section Detail past)) (Stood 68 → ⊥)
      no_detail = says_not (has_section Detail past) (stood_says Detail 68 detail_says)

      no_summary : Says (not (has_section Summary past)) (Stood 83 → ⊥)
      no_summary = says_not (has_section Summary past) (stood_says Summary 83 summary_says)

      step : (section : Section) → Says (is_section Detail section) (Names g 68) → Says (is_section Summary section) (Names g 83)
          → Says (may_begin past section) ((Names g 68 × (Stood 68 → ⊥) × (Stood 83 → ⊥)) ⊎ (Names g 83 × (Stood 83 → ⊥)))
      step None d s = (
        λ h. absurd (false≢true h),
        ⊎_elim (λ h. absurd (false≢true (d.1 h.0))) (λ h. absurd (false≢true (s.1 h.0))),
      )
      step Detail d s = (
        λ h.
            inl (
              d.0 refl,
              no_detail.0 (and_left (not (has_section Detail past)) (not (has_section Summary past)) h),
              no_summary.0 (and_right (not (has_section Detail past)) (not (has_section Summary past)) h),
            ),
        ⊎_elim
            (λ h. and_both (not (has_section Detail past)) (not (has_section Summary past)) (no_detail.1 h.1) (no_summary.1 h.2))
            (λ h. absurd (false≢true (s.1 h.0))),
      )
      step Summary d s = (
        λ h. inr (s.0 refl, no_summary.0 h),
        ⊎_elim (λ h. absurd (false≢true (d.1 h.0))) (λ h. no_summary.1 h.1),
      )

-- no other segment is asked
pub section_other : (past : List Segment) (g : Segment) → (kind_of g ≡ Uns → ⊥) → section_rule past g ≡ true
unfolding section_rule
section_other past g n = rw ((fails (is Uns (kind_of g)) (is_says Uns (kind_of g))).1 n)
