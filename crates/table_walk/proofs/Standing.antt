-- Where the walk stands: the tag that it knows there, and one segment on. Assumes nothing.
use Rattle.std.specs.Prelude.{if◌then◌else◌}
use Prim.Native.Nat.{ℕ, ◌≤◌}
use mathlib.Core.Path.{◌≡◌, refl, sym, ap, ◌∙◌}
use mathlib.Core.Bool.{Bool, true, false, false≢true}
use mathlib.Core.List.{List, [], ◌∷◌}
use lib.ListN.{length, drop}
use lib.Dec.{eqb, ltb}
use borrow.Author.Tests.{ltb-true, ltb-false, eq-eqb, ne_eqb, eqb-false}
use Rattle.lists.specs.Lists.{same, through, beyond, cut, gather}
use Rattle.lists.proofs.Texts.{if_true, if_false, same_eq, same_length, same_refl}
use Rattle.characters.specs.declared.Characters.{Characters}
use Rattle.values.specs.Tokens.{Token, Segment, ends, segments}
use Rattle.values.specs.Values.{bytes_of}
use Rattle.values.proofs.Steps.{at_end}
use Rattle.segments.specs.Tags.{tag_of}
use Rattle.scanner.specs.Scan.{segment_at, Skips}
use Rattle.scanner.proofs.Segments.{segments_end, segments_first, segments_next}
use Rattle.tags.specs.declared.Word.{Word}
use Rattle.tags.specs.Words.{value_at, Words}
use Rattle.tags.proofs.Tagging.{tag_piece_lem, word_three}
use Rattle.message_structures.specs.Walking.{leads}
use Rattle.table_walk.specs.Walking.{zeros, tag_here, Tagged, segments_at}

-- ---- the tag

module _ (c : Characters) (s : List ℕ) (at : ℕ) where
  -- the tag of the segment that begins at a place is the value that begins there
  tag_is : tag_of (segment_at c s at) ≡ value_at c s at
  unfolding tag_of
  tag_is = ap bytes_of (tag_piece_lem c s at)

  -- it is known by its size; behind the input there is none
  here_is : tag_here (segments_at c s at) ≡ (if eqb (length (value_at c s at)) 3 then value_at c s at else zeros)
  unfolding tag_here through bytes_of gather
  here_is = step (ltb at (length s)) refl
    where
      step : (b : Bool) → ltb at (length s) ≡ b
          → tag_here (segments_at c s at) ≡ (if eqb (length (value_at c s at)) 3 then value_at c s at else zeros)
      step true e =
          ap tag_here (segments_first c s at (ltb-true at (length s) e)) ∙ ap (λ (v : List ℕ). if eqb (length v) 3 then v else zeros) tag_is
      step false e =
          let h : length s ≤ at = ltb-false at (length s) e in
          ap tag_here (segments_end c s at h)
          ∙ sym
          (ap (λ (ts : List Token). if eqb (length (bytes_of (through (ends 3) ts))) 3 then bytes_of (through (ends 3) ts) else zeros) (at_end c s at h))

  module _ (w : Word) (h : Words c s at w) where
    pub tag_three : w.size ≡ 3 → w.second ∷ w.third ∷ w.fourth ∷ [] ≡ tag_here (segments_at c s at)
    tag_three e =
        sym (here_is ∙ if_true (eqb (length (value_at c s at)) 3) (value_at c s at) zeros (eq-eqb (length (value_at c s at)) 3 (sym h.sized ∙ e))
        ∙ word_three c s at w h e)

    pub tag_other : (w.size ≡ 3 → ⊥) → zeros ≡ tag_here (segments_at c s at)
    tag_other n =
        sym (here_is ∙ if_false (eqb (length (value_at c s at)) 3) (value_at c s at) zeros (ne_eqb (length (value_at c s at)) 3 (λ e. n (h.sized ∙ e))))

  -- one segment on
  pub step_left : {next : ℕ} → Skips (ends 0) c s at next → segments_at c s next ≡ drop 1 (segments_at c s at)
  unfolding segments cut beyond
  step_left {next} k = step (ltb at (length s)) refl
    where
      step : (b : Bool) → ltb at (length s) ≡ b → segments_at c s next ≡ drop 1 (segments_at c s at)
      step true e = sym (ap (drop 1) (segments_next c s at next (ltb-true at (length s) e) k))
      step false e =
          let h : length s ≤ at = ltb-false at (length s) e in
          ap segments (k.0 ∙ ap (beyond (ends 0)) (at_end c s at h)) ∙ sym (ap (λ (ts : List Token). drop 1 (segments ts)) (at_end c s at h))

-- ---- whether it leads

not_zeros : (tag : List ℕ) → Tagged tag → same zeros tag ≡ false
not_zeros tag h = step (same zeros tag) refl
  where
    step : (b : Bool) → same zeros tag ≡ b → b ≡ false
    step true e = absurd (false≢true (sym h ∙ ap (λ (x : List ℕ). same x zeros) (sym (same_eq zeros tag e)) ∙ same_refl zeros))
    step false e = refl

-- the tag that is known is the one that the walk looks at
pub lead_known : (tag : List ℕ) → length tag ≡ 3 → Tagged tag → (gs : List Segment) → same (tag_here gs) tag ≡ leads tag_of tag gs
unfolding tag_here leads
lead_known tag size h [] = not_zeros tag h
lead_known tag size h (g ∷ gs) = step (eqb (length (tag_of g)) 3) refl
  where
    step : (b : Bool) → eqb (length (tag_of g)) 3 ≡ b → same (if b then tag_of g else zeros) tag ≡ same (tag_of g) tag
    step true e = refl
    step false e = not_zeros tag h ∙ sym (same_length (tag_of g) tag (λ k. eqb-false (length (tag_of g)) 3 e (k ∙ size)))
