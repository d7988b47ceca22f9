-- What the walk goes through, the language of the structure spells: no hypothesis on the tags. Assumes nothing.
use Rattle.std.specs.Prelude.{if◌then◌else◌}
use Prim.Native.Nat.{ℕ, zero, suc, ◌≤◌}
use mathlib.Core.Path.{◌≡◌, refl, sym, ap, subst, ◌∙◌}
use mathlib.Core.Bool.{Bool, true, false, not, ◌&&◌, false≢true}
use mathlib.Core.List.{List, [], ◌∷◌, ◌++◌, append_assoc, append-nil}
use mathlib.Core.Option.{none, some-ne-none}
use native.Mathlib.Omega.{arith}
use Rattle.lists.specs.Lists.{same}
use Rattle.lists.proofs.Texts.{same_eq}
use Rattle.message_tables.specs.Structure.{Structure, done, entry}
use Rattle.message_structures.specs.Walking.{Walked, stopped, through, onward, leads, repeated, walk, left_over, unmatched}
use Rattle.message_structures.specs.Language.{Tags, Repeats, Spells}
use Rattle.message_table_laws.specs.Nesting.{Able}
use Rattle.structure_laws.proofs.Mapped.{self}

-- ---- the two outcomes are told apart

abbrev went_through : Walked (List ℕ) → Type 0
went_through (stopped left) = ⊥
went_through (through left) = Unit {0}

abbrev left_in : Walked (List ℕ) → Tags
left_in (stopped left) = left
left_in (through left) = left

stopped≢through : {left rest : Tags} → ◌≡◌ {A = Walked (List ℕ)} (stopped left) (through rest) → ⊥
stopped≢through e = subst went_through (sym e) tt

-- ---- the repeats of an entry

module _
    (inside : Tags → Walked (List ℕ)) (Inside : Tags → Type 0) (tag : List ℕ)
    (spelled : (ts left : Tags) → inside ts ≡ through left → (own : Tags) × (ts ≡ own ++ left) × Inside own) where
  -- how many repeats were taken, and what they are; at least one, where it can be
  record Took (most : ℕ) (ts left : Tags) : Type 0 where
    n : ℕ
    own : Tags
    within : n ≤ most
    splits : ts ≡ own ++ left
    repeats : Repeats Inside tag n own
    one : leads self tag ts ≡ true → 1 ≤ most → 1 ≤ n

  -- none was taken
  none_taken : (most : ℕ) (ts left : Tags) → (leads self tag ts ≡ true → 1 ≤ most → 1 ≤ 0)
      → ◌≡◌ {A = Walked (List ℕ)} (through ts) (through left) → Took most ts left
  unfolding Repeats
  none_taken most ts left one e =
      record { n = 0; own = []; within = omega arith; splits = ap left_in e; repeats = refl; one = one }

  -- one was taken, and then those of the rest
  one_taken : (most : ℕ) (t : List ℕ) (ts mid left : Tags) → same t tag ≡ true → inside ts ≡ through mid → Took most mid left
      → Took (suc most) (t ∷ ts) left
  unfolding Repeats
  one_taken most t ts mid left s q r =
      let first : (own : Tags) × (ts ≡ own ++ mid) × Inside own = spelled ts mid q in
      let splits : ts ≡ (first.0 ++ r.own) ++ left =
      first.1 ∙ ap (λ (x : Tags). first.0 ++ x) r.splits ∙ sym (append_assoc first.0 r.own left) in
      record {
        n = suc r.n;
        own = tag ∷ (first.0 ++ r.own);
        within = omega (arith, r.within);
        splits = λ i. same_eq t tag s i ∷ splits i;
        repeats = (first.0, r.own, refl, first.2, r.repeats);
        one = λ l k. omega arith;
      }

  repeated_took : (most : ℕ) (ts left : Tags) → repeated self inside tag most ts ≡ through left → Took most ts left
  unfolding repeated leads onward
  repeated_took zero ts left e = none_taken zero ts left (λ l k. k) e
  repeated_took (suc most) [] left e = none_taken (suc most) [] left (λ l k. absurd (false≢true l)) e
  repeated_took (suc most) (t ∷ ts) left e = step (same t tag) refl e (λ mid. repeated_took most mid left)
    where
      go : (w : Walked (List ℕ)) → inside ts ≡ w → onward self w (repeated self inside tag most) ≡ through left
          → ((mid : Tags) → repeated self inside tag most mid ≡ through left → Took most mid left)
          → same t tag ≡ true → Took (suc most) (t ∷ ts) left
      go (stopped x) q e rest s = absurd (stopped≢through e)
      go (through mid) q e rest s = one_taken most t ts mid left s q (rest mid e)

      step : (b : Bool) → same t tag ≡ b
          → (if b then onward self (inside ts) (repeated self inside tag most) else through (t ∷ ts)) ≡ through left
          → ((mid : Tags) → repeated self inside tag most mid ≡ through left → Took most mid left) → Took (suc most) (t ∷ ts) left
      step true s e rest = go (inside ts) refl e rest s
      step false s e rest = none_taken (suc most) (t ∷ ts) left (λ l k. absurd (false≢true (sym s ∙ l))) e

-- ---- the walk

-- a mandatory entry that can be met was met
met_once : (mandatory leading : Bool) (n most : ℕ) → (mandatory && not leading) ≡ false → 1 ≤ most
    → (leading ≡ true → 1 ≤ most → 1 ≤ n) → (if mandatory then 1 else 0) ≤ n
met_once true true n most e k one = one refl k
met_once true false n most e k one = absurd (false≢true (sym e))
met_once false leading n most e k one = omega arith

-- what the walk goes through, the structure spells
abbrev Spelled : Structure → Type 0
Spelled t = (ts left : Tags) → walk self t ts ≡ through left → (own : Tags) × (ts ≡ own ++ left) × Spells t own

module _
    (mandatory : Bool) (most : ℕ) (tag : List ℕ) (inside following : Structure)
    (able : 1 ≤ most) (inner : Spelled inside) (next : Spelled following) where
  abbrev whole : Structure
  whole = entry mandatory most tag inside following

  -- the repeats, and what the entries that follow spell
  both : (ts mid left : Tags) → (mandatory && not (leads self tag ts)) ≡ false → Took (walk self inside) (Spells inside) tag inner most ts mid
      → ((own : Tags) × (mid ≡ own ++ left) × Spells following own) → (own : Tags) × (ts ≡ own ++ left) × Spells whole own
  unfolding Spells
  both ts mid left met r f =
      let splits : ts ≡ (r.own ++ f.0) ++ left =
      r.splits ∙ ap (λ (x : Tags). r.own ++ x) f.1 ∙ sym (append_assoc r.own f.0 left) in
      let one : (if mandatory then 1 else 0) ≤ r.n = met_once mandatory (leads self tag ts) r.n most met able r.one in
      (r.own ++ f.0, splits, (r.n, one, r.within, r.own, f.0, refl, r.repeats, f.2))

  entry_spelled : Spelled whole
  unfolding walk onward
  entry_spelled ts left e = step (mandatory && not (leads self tag ts)) refl e
    where
      go : (w : Walked (List ℕ)) → repeated self (walk self inside) tag most ts ≡ w → (mandatory && not (leads self tag ts)) ≡ false
          → onward self w (walk self following) ≡ through left → (own : Tags) × (ts ≡ own ++ left) × Spells whole own
      go (stopped x) q met e = absurd (stopped≢through e)
      go (through mid) q met e =
          both ts mid left met (repeated_took (walk self inside) (Spells inside) tag inner most ts mid q) (next mid left e)

      step : (b : Bool) → (mandatory && not (leads self tag ts)) ≡ b
          → (if b then stopped ts else onward self (repeated self (walk self inside) tag most ts) (walk self following)) ≡ through left
          → (own : Tags) × (ts ≡ own ++ left) × Spells whole own
      step true met e = absurd (stopped≢through e)
      step false met e = go (repeated self (walk self inside) tag most ts) refl met e

pub walk_spelled : (t : Structure) → Able t → Spelled t
unfolding walk Spells
walk_spelled done able = λ ts left e. ([], ap left_in e, refl)
walk_spelled (entry mandatory most tag inside following) able =
    entry_spelled mandatory most tag inside following able.0 (walk_spelled inside able.1) (walk_spelled following able.2)

-- a body that matches is spelled
pub matched_spelled : (t : Structure) → Able t → (ts : Tags) → unmatched self t ts ≡ none → Spells t ts
unfolding unmatched left_over
matched_spelled t able ts e = step (walk self t ts) refl e
  where
    step : (w : Walked (List ℕ)) → walk self t ts ≡ w → left_over self w ≡ none → Spells t ts
    step (stopped left) q e = absurd (some-ne-none left e)
    step (through (g ∷ gs)) q e = absurd (some-ne-none (g ∷ gs) e)
    step (through []) q e =
        let r : (own : Tags) × (ts ≡ own ++ []) × Spells t own = walk_spelled t able ts [] q in
        subst (Spells t) (sym (r.1 ∙ append-nil r.0)) r.2
