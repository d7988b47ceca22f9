-- Where no tag stands twice in a structure, the walk goes through whatever the structure spells, and leaves what follows it, if that begins with
-- no tag of the structure. The first tag of what is left over then tells which entry has its turn. Assumes nothing.
use Rattle.std.specs.Prelude.{if◌then◌else◌}
use Prim.Native.Nat.{ℕ, zero, suc, ◌≤◌}
use mathlib.Core.Path.{◌≡◌, refl, sym, ap, subst, ◌∙◌}
use mathlib.Core.Bool.{Bool, true, false, not, ◌&&◌}
use mathlib.Core.List.Memᴰ
use mathlib.Core.List.{List, [], ◌∷◌, ◌++◌, append_assoc, append-nil, Memᴰ}
use mathlib.Core.Option.{none}
use mathlib.Core.Logic.{◌⊎◌, inl, inr, ⊎_elim}
use native.Mathlib.Omega.{arith}
use Rattle.lists.specs.Lists.{same}
use Rattle.lists.proofs.Texts.{same_eq, same_refl}
use Rattle.message_tables.specs.Structure.{Structure, done, entry, tags_in}
use Rattle.message_structures.specs.Walking.{stopped, through, onward, leads, repeated, walk, left_over, unmatched}
use Rattle.message_structures.specs.Language.{Tags, Repeats, Spells}
use Rattle.structure_laws.specs.Notions.{Once}
use Rattle.structure_laws.proofs.Mapped.{self}

-- ---- tags that stand once

-- what follows begins with none of the tags, or is nothing
abbrev Outside : Tags → Tags → Type 0
Outside tags [] = Unit {0}
Outside tags (u ∷ us) = Memᴰ u tags → ⊥

-- the first of them does not stand again, nor does any other
abbrev Apart : Tags → Type 0
Apart [] = Unit {0}
Apart (tag ∷ tags) = (Memᴰ tag tags → ⊥) × Apart tags

-- where one of them stands
stands : (x : List ℕ) (xs : Tags) → Memᴰ x xs → (before : Tags) × (after : Tags) × (xs ≡ before ++ x ∷ after)
stands x [] m = absurd (Memᴰ.not-nil m)
stands x (y ∷ ys) m = step (Memᴰ.cases_cons m) (stands x ys)
  where
    step : (x ≡ y) ⊎ Memᴰ x ys → (Memᴰ x ys → (before : Tags) × (after : Tags) × (ys ≡ before ++ x ∷ after))
        → (before : Tags) × (after : Tags) × (y ∷ ys ≡ before ++ x ∷ after)
    step (inl e) rest = ([], ys, λ i. sym e i ∷ ys)
    step (inr m) rest =
        let (before, after, e) = rest m in
        (y ∷ before, after, ap (λ (zs : Tags). y ∷ zs) e)

apart : (tags : Tags) → Once tags → Apart tags
apart [] once = tt
apart (tag ∷ tags) once = (
  λ m.
      let (middle, after, e) = stands tag tags m in
      once [] middle after tag (ap (λ (zs : Tags). tag ∷ zs) e),
  apart tags (λ before middle after other e. once (tag ∷ before) middle after other (ap (λ (zs : Tags). tag ∷ zs) e)),
)

once_left : (xs ys : Tags) → Apart (xs ++ ys) → Apart xs
once_left [] ys o = tt
once_left (a ∷ xs) ys o = (λ m. o.0 (Memᴰ.append_left ys m), once_left xs ys o.1)

once_right : (xs ys : Tags) → Apart (xs ++ ys) → Apart ys
once_right [] ys o = o
once_right (a ∷ xs) ys o = once_right xs ys o.1

-- no tag stands in both
once_apart : (xs ys : Tags) → Apart (xs ++ ys) → (x : List ℕ) → Memᴰ x xs → Memᴰ x ys → ⊥
once_apart [] ys o x m k = Memᴰ.not-nil m
once_apart (a ∷ xs) ys o x m k = step (Memᴰ.cases_cons m) (once_apart xs ys o.1 x)
  where
    step : (x ≡ a) ⊎ Memᴰ x xs → (Memᴰ x xs → Memᴰ x ys → ⊥) → ⊥
    step (inl e) rest = o.0 (Memᴰ.append_right xs (subst (λ (y : List ℕ). Memᴰ y ys) e k))
    step (inr m) rest = rest m k

-- what begins outside some tags begins outside any of them
outside_less : (xs ys us : Tags) → ((x : List ℕ) → Memᴰ x xs → Memᴰ x ys) → Outside ys us → Outside xs us
outside_less xs ys [] h o = tt
outside_less xs ys (u ∷ us) h o = λ m. o (h u m)

-- what begins outside does so after something that is made of other tags
outside_after : (xs vs us : Tags) → ((x : List ℕ) → Memᴰ x vs → Memᴰ x xs → ⊥) → Outside xs us → Outside xs (vs ++ us)
outside_after xs [] us h o = o
outside_after xs (v ∷ vs) us h o = h v (Memᴰ.head refl)

-- ---- what a structure spells is made of its tags

repeats_in : (Inside : Tags → Type 0) (tag : List ℕ) (tags : Tags)
    → ((one : Tags) → Inside one → (x : List ℕ) → Memᴰ x one → Memᴰ x tags)
    → (n : ℕ) (own : Tags) → Repeats Inside tag n own → (x : List ℕ) → Memᴰ x own → Memᴰ x (tag ∷ tags)
unfolding Repeats
repeats_in Inside tag tags h zero own r x m = absurd (Memᴰ.not-nil (subst (Memᴰ x) r m))
repeats_in Inside tag tags h (suc n) own r x m =
    step (Memᴰ.cases_cons (subst (Memᴰ x) r.2 m)) (repeats_in Inside tag tags h n r.1 r.4 x)
  where
    step : (x ≡ tag) ⊎ Memᴰ x (r.0 ++ r.1) → (Memᴰ x r.1 → Memᴰ x (tag ∷ tags)) → Memᴰ x (tag ∷ tags)
    step (inl e) rest = Memᴰ.head e
    step (inr m) rest = ⊎_elim (λ k. Memᴰ.tail (h r.0 r.3 x k)) rest (Memᴰ.append_cases r.0 m)

spelled_in : (t : Structure) (ts : Tags) → Spells t ts → (x : List ℕ) → Memᴰ x ts → Memᴰ x (tags_in t)
unfolding Spells tags_in
spelled_in done ts s x m = absurd (Memᴰ.not-nil (subst (Memᴰ x) s m))
spelled_in (entry mandatory most tag inside following) ts s x m =
    ⊎_elim
    (λ k. front (repeats_in (Spells inside) tag (tags_in inside) (spelled_in inside) s.0 s.3 s.6 x k))
    (λ k. Memᴰ.tail (Memᴰ.append_right (tags_in inside) (spelled_in following s.4 s.7 x k)))
    (Memᴰ.append_cases s.3 (subst (Memᴰ x) s.5 m))
  where
    front : Memᴰ x (tag ∷ tags_in inside) → Memᴰ x (tag ∷ (tags_in inside ++ tags_in following))
    front m = Memᴰ.append_left (tags_in following) m

-- ---- the repeats of an entry

-- the walk goes through what the structure spells, and leaves what follows
abbrev Goes : Structure → Type 0
Goes t = (own us : Tags) → Spells t own → Outside (tags_in t) us → walk self t (own ++ us) ≡ through us

module _ (inside : Structure) (tag : List ℕ) (once : Apart (tag ∷ tags_in inside)) (inner : Goes inside) where
  -- none is taken of what begins with another tag
  none_taken : (most : ℕ) (vs : Tags) → Outside (tag ∷ tags_in inside) vs → repeated self (walk self inside) tag most vs ≡ through vs
  unfolding repeated leads
  none_taken zero vs o = refl
  none_taken (suc most) [] o = refl
  none_taken (suc most) (v ∷ vs) o = step (same v tag) refl
    where
      step : (b : Bool) → same v tag ≡ b
          → (if b then onward self (walk self inside vs) (repeated self (walk self inside) tag most) else through (v ∷ vs)) ≡ through (v ∷ vs)
      step true s = absurd (o (Memᴰ.head (same_eq v tag s)))
      step false s = refl

  -- a further repeat begins with the tag, which does not stand inside
  outside_repeats : (n : ℕ) (own vs : Tags) → Repeats (Spells inside) tag n own → Outside (tag ∷ tags_in inside) vs
      → Outside (tags_in inside) (own ++ vs)
  unfolding Repeats
  outside_repeats zero own vs r o =
      subst (λ (x : Tags). Outside (tags_in inside) (x ++ vs)) (sym r)
      (outside_less (tags_in inside) (tag ∷ tags_in inside) vs (λ x m. Memᴰ.tail m) o)
  outside_repeats (suc n) own vs r o = subst (λ (x : Tags). Outside (tags_in inside) (x ++ vs)) (sym r.2) once.0

  -- where a repeat stands, it is taken
  one_taken : (most : ℕ) (one rest vs : Tags) → Spells inside one → Outside (tags_in inside) (rest ++ vs)
      → repeated self (walk self inside) tag (suc most) (tag ∷ ((one ++ rest) ++ vs)) ≡ repeated self (walk self inside) tag most (rest ++ vs)
  unfolding repeated leads onward
  one_taken most one rest vs s o =
      let gone : walk self inside ((one ++ rest) ++ vs) ≡ through (rest ++ vs) =
      ap (walk self inside) (append_assoc one rest vs) ∙ inner one (rest ++ vs) s o in
      (λ i.
      if same_refl tag i then onward self (gone i) (repeated self (walk self inside) tag most)
      else through (tag ∷ ((one ++ rest) ++ vs)))

  repeats_taken : (n most : ℕ) (own vs : Tags) → n ≤ most → Repeats (Spells inside) tag n own → Outside (tag ∷ tags_in inside) vs
      → repeated self (walk self inside) tag most (own ++ vs) ≡ through vs
  unfolding Repeats
  repeats_taken zero most own vs k r o =
      ap (λ (x : Tags). repeated self (walk self inside) tag most (x ++ vs)) r ∙ none_taken most vs o
  repeats_taken (suc n) zero own vs k r o = absurd (omega arith)
  repeats_taken (suc n) (suc most) own vs k r o =
      ap (λ (x : Tags). repeated self (walk self inside) tag (suc most) (x ++ vs)) r.2
      ∙ one_taken most r.0 r.1 vs r.3 (outside_repeats n r.1 vs r.4 o)
      ∙ repeats_taken n most r.1 vs (omega arith) r.4 o

-- ---- the walk

-- at least one repeat begins with the tag
repeats_lead : (Inside : Tags → Type 0) (tag : List ℕ) (n : ℕ) (own vs : Tags) → 1 ≤ n → Repeats Inside tag n own
    → leads self tag (own ++ vs) ≡ true
unfolding Repeats leads
repeats_lead Inside tag zero own vs k r = absurd (omega arith)
repeats_lead Inside tag (suc n) own vs k r =
    ap (λ (x : Tags). leads self tag (x ++ vs)) r.2 ∙ same_refl tag

met_at_once : (mandatory leading : Bool) (n : ℕ) → (if mandatory then 1 else 0) ≤ n → (1 ≤ n → leading ≡ true)
    → (mandatory && not leading) ≡ false
met_at_once true leading n k h = ap not (h k)
met_at_once false leading n k h = refl

module _
    (mandatory : Bool) (most : ℕ) (tag : List ℕ) (inside following : Structure)
    (once : Apart (tag ∷ (tags_in inside ++ tags_in following))) (inner : Goes inside) (next : Goes following) where
  entry_taken : Goes (entry mandatory most tag inside following)
  unfolding walk onward Spells tags_in
  entry_taken ts us s o =
      let tags : Tags = tag ∷ tags_in inside in
      let n : ℕ = s.0 in
      let own : Tags = s.3 in
      let rest : Tags = s.4 in
      let apart : (x : List ℕ) → Memᴰ x rest → Memᴰ x tags → ⊥ =
      λ x m k. once_apart tags (tags_in following) once x k (spelled_in following rest s.7 x m) in
      let beyond : Outside tags us = outside_less tags (tags ++ tags_in following) us (λ x m. Memᴰ.append_left (tags_in following) m) o in
      let after : Outside (tags_in following) us =
      outside_less (tags_in following) (tags ++ tags_in following) us (λ x m. Memᴰ.append_right tags m) o in
      let met : (mandatory && not (leads self tag (own ++ (rest ++ us)))) ≡ false =
      met_at_once mandatory (leads self tag (own ++ (rest ++ us))) n s.1
      (λ k. repeats_lead (Spells inside) tag n own (rest ++ us) k s.6) in
      let gone : repeated self (walk self inside) tag most (own ++ (rest ++ us)) ≡ through (rest ++ us) =
      repeats_taken inside tag (once_left tags (tags_in following) once) inner n most own (rest ++ us) s.2 s.6
      (outside_after tags rest us apart beyond) in
      ap (λ (x : Tags). walk self (entry mandatory most tag inside following) (x ++ us)) s.5
      ∙ ap (walk self (entry mandatory most tag inside following)) (append_assoc own rest us)
      ∙ (λ i. if met i then stopped (own ++ (rest ++ us)) else onward self (gone i) (walk self following))
      ∙ next rest us s.7 after

pub walk_taken : (t : Structure) → Apart (tags_in t) → Goes t
unfolding walk Spells tags_in
walk_taken done once = λ ts us s o. ap (λ (x : Tags). through (x ++ us)) s
walk_taken (entry mandatory most tag inside following) once =
    entry_taken mandatory most tag inside following once
    (walk_taken inside (once_left (tags_in inside) (tags_in following) once.1))
    (walk_taken following (once_right (tags_in inside) (tags_in following) once.1))

-- a body that is spelled matches
pub spelled_matched : (t : Structure) → Once (tags_in t) → (ts : Tags) → Spells t ts → unmatched self t ts ≡ none
unfolding unmatched left_over
spelled_matched t once ts s =
    ap (λ (x : Tags). left_over self (walk self t x)) (sym (append-nil ts)) ∙ ap (left_over self) (walk_taken t (apart (tags_in t) once) ts [] s tt)
