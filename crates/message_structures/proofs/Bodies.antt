-- 22 is met exactly where the walk through a message stops; the body, and where its UNT begins. Assumes nothing.
use Rattle.std.specs.Prelude.{if◌then◌else◌}
use Prim.Native.Nat.{ℕ}
use mathlib.Core.Path.{◌≡◌, refl, sym, ap, subst, ◌∙◌}
use mathlib.Core.Bool.{Bool, true, false}
use mathlib.Core.Logic.{◌↔◌, ⊎_elim}
use mathlib.Core.List.{List, [], ◌∷◌, ◌++◌, head-eq_of_cons-eq, tail-eq_of_cons-eq, nil≢cons, Memᴰ}
use mathlib.Core.Option.{Option, none, some, none-ne-some, some-injective}
use Rattle.lists.specs.Lists.{at, maybe}
use Rattle.lists.proofs.Tests.{fails, first_is}
use Rattle.values.specs.Tokens.{Segment, start}
use Rattle.segments.specs.declared.Kind.TheVariants.{Unh, Unt}
use Rattle.segments.specs.Kinds.{is}
use Rattle.segments.specs.Tags.{tag_of, kind_of}
use Rattle.segments.proofs.Words.{is_says}
use Rattle.stages.specs.Contents.{segments_of}
use Rattle.message_tables.specs.Structure.{Structure, structure_of}
use Rattle.message_structures.specs.Walking.{unmatched}
use Rattle.message_structures.specs.Bodies.{before, is_trailer, body_in, trailer_start, mismatch, mismatches, unmatched_bodies}
use Rattle.message_structures.specs.Notions.{StopsAt}

-- ---- where 22 is met

module _ (t : Structure) where
  -- the walk stops here, of what follows a UNH
  abbrev Stops : List Segment → ℕ → Type 0
  Stops after p =
      (left : List Segment) × (unmatched tag_of t (body_in after) ≡ some left) × (p ≡ maybe (trailer_start after) start (at left 0))

  mismatch_at : (after : List Segment) (p : ℕ) → Memᴰ p (mismatch t after) ↔ Stops after p
  unfolding mismatch maybe
  mismatch_at after p = step (unmatched tag_of t (body_in after)) refl
    where
      place : List Segment → ℕ
      place left = maybe (trailer_start after) start (at left 0)

      step : (o : Option (List Segment)) → unmatched tag_of t (body_in after) ≡ o
          → Memᴰ p (maybe [] (λ left. place left ∷ []) o) ↔ Stops after p
      step none e = (λ m. absurd (mathlib.Core.List.Memᴰ.not-nil m), λ k. absurd (none-ne-some k.0 (sym e ∙ k.1)))
      step (some left) e = (
        λ m. (left, e, mathlib.Core.List.Memᴰ.eq_of_singleton m),
        λ k. mathlib.Core.List.Memᴰ.head (k.2 ∙ ap place (some-injective k.0 left (sym k.1 ∙ e))),
      )

  -- a message among segments
  abbrev Among : List Segment → ℕ → Type 0
  Among gs p =
      (past : List Segment) × (header : Segment) × (after : List Segment) × (gs ≡ past ++ header ∷ after) × (kind_of header ≡ Unh) × Stops after p

  -- of no segments there is none
  among_none : (p : ℕ) → Among [] p → ⊥
  among_none p k = step k.0 k.1 k.2 k.3
    where
      step : (past : List Segment) (header : Segment) (after : List Segment) → [] ≡ past ++ header ∷ after → ⊥
      step [] header after e = nil≢cons e
      step (g ∷ past) header after e = nil≢cons e

  module _ (g : Segment) (gs : List Segment) (p : ℕ) where
    -- the first of the segments is its UNH, or the message is among the others
    first_stop_lem : Memᴰ p (if is Unh (kind_of g) then mismatch t gs else []) → Among (g ∷ gs) p
    first_stop_lem m = step (is Unh (kind_of g)) refl m
      where
        step : (b : Bool) → is Unh (kind_of g) ≡ b → Memᴰ p (if b then mismatch t gs else []) → Among (g ∷ gs) p
        step true e m = ([], g, gs, refl, (is_says Unh (kind_of g)).0 e, (mismatch_at gs p).0 m)
        step false e m = absurd (mathlib.Core.List.Memᴰ.not-nil m)

    later_stop : Among gs p → Among (g ∷ gs) p
    later_stop (past, header, after, e, k, stops) = (g ∷ past, header, after, ap (λ (xs : List Segment). g ∷ xs) e, k, stops)

    stop_member : (Among gs p → Memᴰ p (mismatches t gs))
        → (past : List Segment) (header : Segment) (after : List Segment) → g ∷ gs ≡ past ++ header ∷ after → kind_of header ≡ Unh → Stops after p
        → Memᴰ p ((if is Unh (kind_of g) then mismatch t gs else []) ++ mismatches t gs)
    stop_member rest [] header after e k stops =
        let first : is Unh (kind_of g) ≡ true = (is_says Unh (kind_of g)).1 (ap kind_of (head-eq_of_cons-eq e) ∙ k) in
        rw first
        (mathlib.Core.List.Memᴰ.append_left (mismatches t gs)
        ((mismatch_at gs p).1 (subst (λ (x : List Segment). Stops x p) (sym (tail-eq_of_cons-eq e)) stops)))
    stop_member rest (x ∷ past) header after e k stops =
        mathlib.Core.List.Memᴰ.append_right (if is Unh (kind_of g) then mismatch t gs else []) (rest (past, header, after, tail-eq_of_cons-eq e, k, stops))

  pub mismatches_at : (gs : List Segment) (p : ℕ) → Memᴰ p (mismatches t gs) ↔ Among gs p
  unfolding mismatches
  mismatches_at [] p = (λ m. absurd (mathlib.Core.List.Memᴰ.not-nil m), λ k. absurd (among_none p k))
  mismatches_at (g ∷ gs) p = (
    λ m.
        ⊎_elim (first_stop_lem g gs p) (λ n. later_stop g gs p ((mismatches_at gs p).0 n))
        (mathlib.Core.List.Memᴰ.append_cases (if is Unh (kind_of g) then mismatch t gs else []) m),
    λ k. stop_member g gs p (mismatches_at gs p).1 k.0 k.1 k.2 k.3 k.4 k.5,
  )

-- 22 of an input
pub stops_exactly : (table s : List ℕ) (p : ℕ) → Memᴰ p (unmatched_bodies table s) ↔ StopsAt table s p
unfolding unmatched_bodies
stops_exactly table s p =
    let at : Memᴰ p (mismatches (structure_of table) (segments_of s)) ↔ Among (structure_of table) (segments_of s) p =
    mismatches_at (structure_of table) (segments_of s) p in
    (λ m. there (at.0 m), λ k. at.1 (back k))
  where
    there : Among (structure_of table) (segments_of s) p → StopsAt table s p
    there (past, header, after, e, k, stops) =
        (record { past = past; header = header; after = after; splits = e; opens = k }, stops.0, stops.1, stops.2)

    back : StopsAt table s p → Among (structure_of table) (segments_of s) p
    back (m, left, u, q) = (m.past, m.header, m.after, m.splits, m.opens, (left, u, q))

-- ---- the body, and where its UNT begins

module _ {A : Type 0} (t : A → Bool) where
  pub before_is : (xs : List A) (x : A) (ys : List A) → ((y : A) → Memᴰ y xs → t y ≡ false) → t x ≡ true → before t (xs ++ x ∷ ys) ≡ xs
  unfolding before
  before_is [] x ys others h = rw h
  before_is (y ∷ xs) x ys others h =
      rw (others y (mathlib.Core.List.Memᴰ.head refl))
      (ap (λ (zs : List A). y ∷ zs) (before_is xs x ys (λ z m. others z (mathlib.Core.List.Memᴰ.tail m)) h))

-- of a body without UNT, a UNT and the rest
pub body_is : (body : List Segment) (trailer : Segment) (rest : List Segment) → ((g : Segment) → Memᴰ g body → kind_of g ≡ Unt → ⊥)
    → kind_of trailer ≡ Unt → (body_in (body ++ trailer ∷ rest) ≡ body) × (trailer_start (body ++ trailer ∷ rest) ≡ start trailer)
unfolding body_in trailer_start maybe
body_is body trailer rest inner e =
    let others : (g : Segment) → Memᴰ g body → is_trailer g ≡ false = λ g m. (fails (is_trailer g) (is_says Unt (kind_of g))).1 (inner g m) in
    let this : is_trailer trailer ≡ true = (is_says Unt (kind_of trailer)).1 e in
    (before_is is_trailer body trailer rest others this, ap (maybe 0 start) (first_is is_trailer body trailer rest others this))
