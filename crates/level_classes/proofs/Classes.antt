-- The two masks and the ranges are the levels of the definition. Assumes nothing.
use Rattle.std.proofs.Common.{◌≡◌, ℕ, ◌+◌, ◌-◌, ◌%◌, ◌^◌, ◌<◌, ◌≤◌, Bool, true, false, ◌&&◌, ◌||◌, eqb, ltb, leb, List, [], ◌∷◌, sym, refl, ap, ◌∙◌, ap₂, inl, inr, ⊎_elim, lt_of_lt_of_le, mod-eq_of_lt, arith, pow_mono, le-ltb, lt-ltb, le-leb}
use mathlib.Core.Bool.{false≢true}
use native.Mathlib.Nat.{div-eq_of_lt}
use borrow.Author.Tests.{lt-leb}
use Rattle.lists.proofs.Tests.{Says, says_le, says_lt, says_either, says_as, decides}
use Rattle.characters.specs.Characters.{between, lower}
use Rattle.characters.proofs.Words.{between_says, lower_says}
use Rattle.levels.specs.Levels.{in_level_a, in_level_b, class_of, in_level}
use Rattle.levels.proofs.Words.{level_a_says}
use Rattle.level_classes.specs.Masks.{bit_set, is_set, in_class}
use Rattle.level_classes.proofs.Runs.{masked, InRuns, bits_say}

-- two tests that say the same are the same
same_said : {P : Type 0} (t u : Bool) → Says t P → Says u P → t ≡ u
same_said true u p q = sym (q.1 (p.0 refl))
same_said false true p q = p.1 (q.0 refl)
same_said false false p q = refl

-- ---- masks

set_says : (set : Bool) (first : ℕ) (ns : List ℕ) (b : ℕ) → Says (is_set (masked set ns) first b) ((first ≤ b) × InRuns set first ns b)
unfolding is_set
set_says set first ns b = step (leb first b) (says_le first b)
  where
    step : (t : Bool) → Says t (first ≤ b) → Says (t && bit_set (masked set ns) (b - first)) ((first ≤ b) × InRuns set first ns b)
    step true s = (λ e. (s.0 refl, (bits_say set first ns b (s.0 refl)).0 e), λ p. (bits_say set first ns b (s.0 refl)).1 p.1)
    step false s = (λ e. absurd (false≢true e), λ p. absurd (false≢true (s.1 p.0)))

-- A byte's number in a mask is counted round after 255: below 64 it is how far the byte lies above the first, and else no bit is set.
module _ (mask first b k : ℕ) (m : mask < 2 ^ 64) (f : first ≤ 192) (r : k < 256) (w : (k + first) % 256 ≡ b) where
  counted_near : k < 64 → (b ≡ k + first)
  counted_near h = sym w ∙ mod-eq_of_lt (omega arith)

  counted_far : 64 ≤ k → first ≤ b → bit_set mask (b - first) ≡ false
  unfolding bit_set
  counted_far h l = let far : 64 ≤ b - first = omega (arith, w) in ap (λ (x : ℕ). eqb (x % 2) 1) (div-eq_of_lt (lt_of_lt_of_le m (pow_mono far)))

  pub set_counted : (ltb k 64 && bit_set mask (k % 64)) ≡ is_set mask first b
  unfolding is_set
  set_counted = ⊎_elim near far (decides (ltb k 64) (says_lt k 64))
    where
      near : k < 64 → (ltb k 64 && bit_set mask (k % 64)) ≡ (leb first b && bit_set mask (b - first))
      near h =
          let e = counted_near h in
          let above : k ≡ b - first = omega arith in
          ap₂ ◌&&◌ (lt-ltb k 64 h ∙ sym (le-leb first b (omega arith))) (ap (bit_set mask) (mod-eq_of_lt h ∙ above))

      far : (k < 64 → ⊥) → (ltb k 64 && bit_set mask (k % 64)) ≡ (leb first b && bit_set mask (b - first))
      far h =
          let n : 64 ≤ k = omega arith in
          ap (λ (t : Bool). t && bit_set mask (k % 64)) (le-ltb k 64 n)
          ∙ sym (⊎_elim
          (λ (l : first ≤ b). ap₂ ◌&&◌ (le-leb first b l) (counted_far n l))
          (λ (l : first ≤ b → ⊥). ap (λ (t : Bool). t && bit_set mask (b - first)) (lt-leb first b (omega arith)))
          (decides (leb first b) (says_le first b)))

-- 32 to 34 are set, 35 and 36 clear, 37 to 63 set, 64 clear, 65 to 90 set
pub mask_a : (b : ℕ) → is_set 0x07fffffeffffffe7 32 b ≡ in_level_a b
mask_a b =
    same_said _ (in_level_a b)
    (says_as (set_says true 32 (3 ∷ 2 ∷ 27 ∷ 1 ∷ 26 ∷ []) b)
    (λ h. ⊎_elim (λ l. inl (h.0, omega arith)) (λ k. inr (⊎_elim (λ l. inl (k.0, omega arith)) (λ m. inr (m.0, ⊎_elim (λ l. omega arith) (λ e. absurd e) m.1)) k.1)) h.1)
    (⊎_elim (λ h. (h.0, inl (omega arith))) (⊎_elim (λ h. (omega arith, inr (h.0, inl (omega arith)))) (λ h. (omega arith, inr (omega arith, inr (h.0, inl (omega arith))))))))
    (level_a_says b)

-- 64 to 96 are clear, 97 to 122 set
pub mask_letters : (b : ℕ) → is_set 0x07fffffe00000000 64 b ≡ lower b
mask_letters b =
    same_said _ (lower b)
    (says_as (set_says false 64 (33 ∷ 26 ∷ []) b)
    (λ h. (h.1.0, ⊎_elim (λ l. omega arith) (λ e. absurd e) h.1.1))
    (λ h. (omega arith, (h.0, inl (omega arith)))))
    (lower_says b)

-- ---- ranges

pub ranges_a : (b : ℕ) → (between 32 34 b || (between 37 63 b || between 65 90 b)) ≡ in_level_a b
ranges_a b =
    same_said _ (in_level_a b)
    (says_either (between 32 34 b) (between 37 63 b || between 65 90 b) (between_says 32 34 b)
    (says_either (between 37 63 b) (between 65 90 b) (between_says 37 63 b) (between_says 65 90 b)))
    (level_a_says b)

pub ranges_letters : (b : ℕ) → between 97 122 b ≡ lower b
unfolding lower
ranges_letters b = refl

-- ---- the level

-- who knows both of a byte knows whether it is in the level
pub level_known : (level b : ℕ) {in_a letter : Bool} → in_a ≡ in_level_a b → letter ≡ lower b → in_class level in_a letter ≡ in_level level b
unfolding in_class in_level class_of in_level_b
level_known level b e f = ap₂ (in_class level) e f
