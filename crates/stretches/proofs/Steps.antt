-- A stretch byte by byte: how far it goes on, and how it is stored. Assumes nothing.
use Rattle.std.specs.Prelude.{if◌then◌else◌}
use Prim.Native.Nat.{ℕ, zero, suc, ◌+◌, ◌-◌, ◌≤◌, ◌<◌}
use mathlib.Core.Path.{◌≡◌, refl, sym, ap, ◌∙◌}
use mathlib.Core.Bool.{Bool, true, false, ◌&&◌}
use mathlib.Core.List.{List}
use native.Mathlib.Omega.{arith}
use native.Mathlib.Decide.{dec_le}
use native.Mathlib.Nat.{lt_of_not-le}
use lib.Dec.{eqb}
use lib.ListN.{length, get_or, set}
use lib.Seq.{sets}
use Rattle.characters.specs.declared.Characters.{Characters}
use Rattle.characters.specs.declared.Role.TheVariants.{Release, Plain}
use Rattle.characters.specs.Characters.{role, has_release, has_repetition}
use Rattle.storing.proofs.Stores.{sets_first}
use Rattle.stretches.specs.Stretches.{stand_in, respelled, halts, Goes, respelling}

-- a byte that is no separator stands for itself
pub respelled_other : (c n : Characters) (b : ℕ) → eqb b c.terminator ≡ false → eqb b c.element ≡ false
    → (has_repetition c && eqb b c.repetition) ≡ false → eqb b c.component ≡ false → b ≡ respelled c n b
unfolding respelled role
respelled_other c n b t e r k = simp (t, e, r, k) (either (has_release c && eqb b c.release))
  where
    either : (u : Bool) → b ≡ stand_in n (if u then Release else Plain) b
    either true = refl
    either false = refl

module _ (c n : Characters) (s : List ℕ) where
  -- ---- how far it goes on

  pub goes_none : (from : ℕ) → Goes c n s from from
  goes_none from k l m = absurd (omega arith)

  module _ {from at : ℕ} where
    -- one byte more
    pub goes_next : {now : Bool} → Goes c n s from at → at + 1 < length s → now ≡ halts c n (get_or s at 0) (get_or s (at + 1) 0) → now ≡ false
        → Goes c n s from (at + 1)
    goes_next g i e none k l m =
        elim (dec_le (k + 1) at) [
          | yes q ↦ g k l (omega arith)
          | no q ↦
              let w : k ≡ at = omega (arith, lt_of_not-le q) in
              (omega arith, ap (λ (p : ℕ). halts c n (get_or s p 0) (get_or s (p + 1) 0)) w ∙ sym e ∙ none)
        ]

    -- more of them
    pub goes_more : {to : ℕ} → Goes c n s from at → Goes c n s at to → Goes c n s from to
    goes_more g h k l m = elim (dec_le (k + 1) at) [ yes q ↦ g k l (omega arith) | no q ↦ h k (omega (arith, lt_of_not-le q)) m ]

    -- all of thirty-two
    pub goes_block : {count : ℕ} → Goes c n s from at → Goes c n s at (at + count) → 32 ≤ count → Goes c n s from (at + 32)
    goes_block g h l = goes_more g (λ k i j. h k i (omega arith))

  -- ---- how it is stored

  pub respelling_length : (at count : ℕ) → length (respelling c n s at count) ≡ count
  unfolding respelling
  respelling_length at zero = refl
  respelling_length at (suc count) = ap suc (respelling_length (at + 1) count)

  -- the first byte is stored, and the rest after it
  pub respelling_first : (buffer : List ℕ) (into at end : ℕ) → at < end
      → sets buffer into (respelling c n s at (end - at)) ≡ sets (set buffer into (respelled c n (get_or s at 0))) (into + 1) (respelling c n s (at + 1) (end - (at + 1)))
  unfolding respelling
  respelling_first buffer into at end h =
      let one_more : end - at ≡ suc (end - (at + 1)) = omega arith in
      ap (λ (k : ℕ). sets buffer into (respelling c n s at k)) one_more
      ∙ sets_first buffer into (respelled c n (get_or s at 0)) (respelling c n s (at + 1) (end - (at + 1)))

  pub respelling_none : (buffer : List ℕ) (into at end : ℕ) → end ≤ at → sets buffer into (respelling c n s at (end - at)) ≡ buffer
  unfolding respelling
  respelling_none buffer into at end h = let none : end - at ≡ 0 = omega arith in ap (λ (k : ℕ). sets buffer into (respelling c n s at k)) none

-- a place behind a stretch and the rest of its segment lies behind its start
pub later : {at to next size : ℕ} → at < size → at ≤ to → to ≤ next → (to < size → to < next) → at < next
later {at} {to} {next} {size} i l m h = elim (dec_le size to) [ yes k ↦ omega arith | no k ↦ omega (arith, h (lt_of_not-le k)) ]
