-- A stretch over release characters, byte by byte: where it is known of each byte whether it is released, the stretch goes up to it, or up to the
-- release character before it. Assumes nothing.
use Prim.Native.Nat.{ℕ, ◌+◌, ◌<◌}
use mathlib.Core.Path.{◌≡◌, refl, sym, ap, ap₂, ◌∙◌}
use mathlib.Core.Bool.{Bool, true, false, not, ◌&&◌, ◌||◌, and-false}
use mathlib.Core.List.{List}
use native.Mathlib.Omega.{arith}
use lib.Dec.{eqb}
use borrow.Author.Tests.{eq-eqb}
use lib.ListN.{length, get_or}
use Rattle.lists.proofs.Texts.{or_none_left, or_none_right}
use Rattle.characters.specs.declared.Characters.{Characters}
use Rattle.characters.specs.Characters.{is_service, has_release, is_break}
use Rattle.release_marks.specs.Marks.{marked, marked_at, misread, Reached}
use Rattle.release_marks.proofs.Reaching.{reached_next, asked_there}
use Rattle.verbatim.specs.Verbatim.{idle}
use Rattle.stretches.specs.Stretches.{halts}
use Rattle.stretches.specs.Releases.{alike, Passes, alone, together, stops, stops_at}
use Rattle.stretches.proofs.Alike.{alike_role, alike_service}

module _ (c n : Characters) (v : alike c n ≡ true) where
  -- a byte at which a stretch stops neither at a release character nor for another reason is passed alone
  stops_none : (a b : ℕ) → eqb a c.release ≡ false → ((eqb a c.terminator && is_break b) || idle c a b) ≡ false → halts c n a b ≡ false
  unfolding halts
  stops_none a b r l =
      ap₂ (λ (t u : Bool). (has_release c && t) || u) r
      (ap₂ (λ (t u : Bool). (t && not (is_service c a)) || u) (alike_service c n v a) l ∙ never (is_service c a))
      ∙ ap (λ (t : Bool). t || false) (and-false (has_release c))
    where
      never : (t : Bool) → ((t && not t) || false) ≡ false
      never true = refl
      never false = refl

  -- one byte more, of which it is known whether it is released
  pub passes_next : (s : List ℕ) (from : ℕ) (now next : Bool) (p : ℕ) → p + 1 < length s → stops c now next (get_or s p 0) (get_or s (p + 1) 0) ≡ false
      → Reached (Passes c n s from) c s now p → Reached (Passes c n s from) c s next (p + 1)
  unfolding stops
  passes_next s from now next p i f =
      let b = get_or s p 0 in
      let line = (eqb b c.terminator && is_break (get_or s (p + 1) 0)) || idle c b (get_or s (p + 1) 0) in
      reached_next (Passes c n s from) c s now next p (or_none_left (misread c now next b) (not now && line) f) (alike_role c n v b)
      (λ t r g. alone g refl i (stops_none b (get_or s (p + 1) 0) r (sym (ap (λ (t : Bool). not t && line) t) ∙ or_none_right (misread c now next b) (not now && line) f)))
      (λ at e o q g. together {at = at} {to = p + 1} g (omega arith) (omega arith) v o (ap (λ (x : ℕ). is_service c (get_or s x 0)) (sym e) ∙ q))

  -- release characters with the bytes that they take
  pub taken_next : (s : List ℕ) {from at : ℕ} → Passes c n s from at → at + 1 < length s → get_or s at 0 ≡ c.release → is_service c (get_or s (at + 1) 0) ≡ true
      → Passes c n s from (at + 2)
  taken_next s {from} {at} g i e q = together g (omega arith) i v (alike_role c n v (get_or s at 0) (eq-eqb (get_or s at 0) c.release e)) q

-- each of six bytes at a place of its own
pub stops_there : (c : Characters) (s : List ℕ) (w : ℕ) {x y z a b : ℕ} {found this next : Bool} → x ≡ w + 1 → y ≡ w + 1 + 1 → z ≡ w + 1 + 1 + 1
    → a ≡ w + 1 + 1 + 1 + 1 → b ≡ w + 1 + 1 + 1 + 1 + 1 → found ≡ stops c this next (get_or s a 0) (get_or s b 0)
    → this ≡ marked c (get_or s z 0) (get_or s y 0) (get_or s x 0) (get_or s w 0) → next ≡ marked c (get_or s a 0) (get_or s z 0) (get_or s y 0) (get_or s x 0)
    → found ≡ stops_at c s w
stops_there c s w {b = b} ex ey ez ea eb f t u =
    asked_there c s (λ (this next : Bool) (a : ℕ). stops c this next a (get_or s b 0)) w ex ey ez ea f t u
    ∙ ap (λ (b : ℕ). stops c (marked_at c s w) (marked_at c s (w + 1)) (get_or s (w + 1 + 1 + 1 + 1) 0) (get_or s b 0)) eb
