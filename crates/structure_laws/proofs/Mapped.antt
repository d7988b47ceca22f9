-- The walk looks at nothing but tags: over anything that has tags it goes as over the tags themselves. Assumes nothing.
use Rattle.std.specs.Prelude.{if◌then◌else◌}
use Prim.Native.Nat.{ℕ, zero, suc}
use mathlib.Core.Path.{◌≡◌, refl, ap, ◌∙◌}
use mathlib.Core.Bool.{Bool, true, false, not, ◌&&◌}
use mathlib.Core.List.{List, [], ◌∷◌, map}
use mathlib.Core.Option
use lib.ListN.{drop}
use Rattle.message_tables.specs.Structure.{Structure, done, entry}
use Rattle.message_structures.specs.Walking.{Walked, stopped, through, onward, leads, repeated, walk, left_over, unmatched}

-- a tag is its own tag
abbrev pub self : List ℕ → List ℕ
self tag = tag

module _ {A : Type 0} (tag_of : A → List ℕ) where
  abbrev pub mapped : Walked A → Walked (List ℕ)
  mapped (stopped left) = stopped (map tag_of left)
  mapped (through left) = through (map tag_of left)

  leads_mapped : (tag : List ℕ) (gs : List A) → leads tag_of tag gs ≡ leads self tag (map tag_of gs)
  unfolding leads
  leads_mapped tag [] = refl
  leads_mapped tag (g ∷ gs) = refl

  drop_mapped : (gs : List A) → map tag_of (drop 1 gs) ≡ drop 1 (map tag_of gs)
  drop_mapped [] = refl
  drop_mapped (g ∷ gs) = refl

  onward_mapped : (w : Walked A) (next : List A → Walked A) (next' : List (List ℕ) → Walked (List ℕ))
      → ((gs : List A) → mapped (next gs) ≡ next' (map tag_of gs))
      → mapped (onward tag_of w next) ≡ onward self (mapped w) next'
  unfolding onward
  onward_mapped (stopped left) next next' h = refl
  onward_mapped (through left) next next' h = h left

  if_mapped : (t : Bool) (v w : Walked A) → mapped (if t then v else w) ≡ (if t then mapped v else mapped w)
  if_mapped true v w = refl
  if_mapped false v w = refl

  repeated_mapped : (inside : List A → Walked A) (inside' : List (List ℕ) → Walked (List ℕ)) (tag : List ℕ)
      → ((gs : List A) → mapped (inside gs) ≡ inside' (map tag_of gs))
      → (most : ℕ) (gs : List A) → mapped (repeated tag_of inside tag most gs) ≡ repeated self inside' tag most (map tag_of gs)
  unfolding repeated
  repeated_mapped inside inside' tag h zero gs = refl
  repeated_mapped inside inside' tag h (suc most) gs =
      if_mapped (leads tag_of tag gs) _ _
      ∙ (λ i.
      if leads_mapped tag gs i
      then (onward_mapped (inside (drop 1 gs)) (repeated tag_of inside tag most) (repeated self inside' tag most)
      (repeated_mapped inside inside' tag h most)
      ∙ ap (λ w. onward self w (repeated self inside' tag most)) (h (drop 1 gs) ∙ ap inside' (drop_mapped gs))) i
      else through (map tag_of gs))

  pub walk_mapped : (t : Structure) (gs : List A) → mapped (walk tag_of t gs) ≡ walk self t (map tag_of gs)
  unfolding walk
  walk_mapped done gs = refl
  walk_mapped (entry mandatory repeats tag inside following) gs =
      if_mapped (mandatory && not (leads tag_of tag gs)) _ _
      ∙ (λ i.
      if mandatory && not (leads_mapped tag gs i) then stopped (map tag_of gs)
      else (onward_mapped (repeated tag_of (walk tag_of inside) tag repeats gs) (walk tag_of following) (walk self following) (walk_mapped following)
      ∙ ap (λ w. onward self w (walk self following))
      (repeated_mapped (walk tag_of inside) (walk self inside) tag (walk_mapped inside) repeats gs)) i)

  left_mapped : (w : Walked A) → Option.map (map tag_of) (left_over tag_of w) ≡ left_over self (mapped w)
  unfolding left_over
  left_mapped (stopped left) = refl
  left_mapped (through []) = refl
  left_mapped (through (g ∷ gs)) = refl

  -- what is left of a body, as tags, is what is left of its tags
  pub unmatched_mapped : (t : Structure) (gs : List A) → Option.map (map tag_of) (unmatched tag_of t gs) ≡ unmatched self t (map tag_of gs)
  unfolding unmatched
  unmatched_mapped t gs = left_mapped (walk tag_of t gs) ∙ ap (left_over self) (walk_mapped t gs)
