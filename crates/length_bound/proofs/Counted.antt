-- How many bytes pass a test, byte by byte; and the service characters of the normal form alone, asked for one by one. Assumes nothing.
use Rattle.std.specs.Prelude.{if◌then◌else◌}
use Prim.Native.Nat.{ℕ, ◌+◌, ◌≤◌, ◌<◌}
use mathlib.Core.Path.{◌≡◌, refl, sym, ap, ◌∙◌}
use mathlib.Core.Bool.{Bool, true, false, not, ◌&&◌, ◌||◌, and-true, and-false, and-or_distrib_right, or-false}
use mathlib.Core.List.{List, [], ◌∷◌, ◌++◌}
use native.Mathlib.Omega.{arith}
use lib.Dec.{eqb}
use lib.ListN.{length, get_or, drop, drop_of_length-le}
use borrow.Author.Tests.{eqb-true}
use mir.Val.{bool_byte}
use Rattle.lists.specs.Lists.{those, member}
use Rattle.lists.proofs.Numbers.{drop_next}
use Rattle.storing.proofs.Stores.{bit_most}
use Rattle.characters.specs.declared.Characters.{Characters}
use Rattle.characters.specs.Characters.{is_service, service_characters, has_repetition, has_release}
use Rattle.length_bound.specs.Bound.{counted, released_anew}
use Rattle.length_bound.specs.Unshared.{unshared, is_unshared}

-- ---- any test

module _ (t : ℕ → Bool) where
  pub counted_first : (b : ℕ) (bs : List ℕ) → counted t (b ∷ bs) ≡ bool_byte (t b) + counted t bs
  unfolding counted those
  counted_first b bs = step (t b)
    where
      step : (u : Bool) → length (if u then b ∷ those t bs else those t bs) ≡ bool_byte u + length (those t bs)
      step true = omega arith
      step false = omega arith

  -- what is left at a place, by the byte that stands there
  pub counted_next : (s : List ℕ) (at : ℕ) → at < length s → counted t (drop at s) ≡ bool_byte (t (get_or s at 0)) + counted t (drop (at + 1) s)
  counted_next s at h = ap (counted t) (drop_next s at h) ∙ counted_first (get_or s at 0) (drop (at + 1) s)

  -- after the last byte nothing is left
  pub counted_end : (s : List ℕ) (at : ℕ) → length s ≤ at → counted t (drop at s) ≡ 0
  unfolding counted those
  counted_end s at h = ap (counted t) (drop_of_length-le s h)

  -- one after another
  pub counted_append : (xs ys : List ℕ) → counted t (xs ++ ys) ≡ counted t xs + counted t ys
  unfolding counted those
  counted_append [] ys = omega arith
  counted_append (b ∷ bs) ys =
      omega (arith, counted_first b (bs ++ ys), counted_first b bs, counted_append bs ys)

  -- no more than there are
  pub counted_most : (bytes : List ℕ) → counted t bytes ≤ length bytes
  unfolding counted those
  counted_most [] = omega arith
  counted_most (b ∷ bs) = omega (arith, counted_first b bs, bit_most (t b), counted_most bs)

  -- none, where none passes
  pub counted_none : ((b : ℕ) → t b ≡ false) → (bytes : List ℕ) → counted t bytes ≡ 0
  unfolding counted those
  counted_none e [] = refl
  counted_none e (b ∷ bs) = omega (arith, counted_first b bs, ap bool_byte (e b), counted_none e bs)

-- as many as pass a test that answers alike
pub counted_alike : (t u : ℕ → Bool) → ((b : ℕ) → t b ≡ u b) → (bytes : List ℕ) → counted t bytes ≡ counted u bytes
unfolding counted those
counted_alike t u e [] = refl
counted_alike t u e (b ∷ bs) =
    omega (arith, counted_first t b bs, counted_first u b bs, ap bool_byte (e b), counted_alike t u e bs)

-- ---- the service characters of `n` that are none of `c`

module _ (c n : Characters) (b : ℕ) where
  -- whether a character that the byte equals is one of `c`, is whether the byte is
  asked : (t : Bool) (x : ℕ) → ((t && not (is_service c x)) && eqb b x) ≡ ((t && eqb b x) && not (is_service c b))
  asked t x = step t (eqb b x) refl
    where
      step : (t e : Bool) → eqb b x ≡ e → ((t && not (is_service c x)) && e) ≡ ((t && e) && not (is_service c b))
      step true true h = and-true (not (is_service c x)) ∙ ap (λ (a : ℕ). not (is_service c a)) (sym (eqb-true b x h))
      step true false h = and-false (not (is_service c x))
      step false e h = refl

  -- the five of `n`, of which two may be missing
  service : is_service n b
      ≡ (eqb b n.component
      || (eqb b n.element || (eqb b n.terminator || (has_repetition n && eqb b n.repetition || has_release n && eqb b n.release))))
  unfolding is_service service_characters member
  service =
      ap (λ (last : Bool). eqb b n.component || (eqb b n.element || (eqb b n.terminator || last))) (optional (has_repetition n) (has_release n))
    where
      optional : (p r : Bool)
          → member b ((if p then n.repetition ∷ [] else []) ++ (if r then n.release ∷ [] else []))
          ≡ (p && eqb b n.repetition || r && eqb b n.release)
      optional true true = ap (λ (last : Bool). eqb b n.repetition || last) (or-false (eqb b n.release))
      optional true false = refl
      optional false true = or-false (eqb b n.release)
      optional false false = refl

  pub unshared_anew : is_unshared n (unshared c n) b ≡ released_anew c n b
  unfolding is_unshared unshared released_anew
  unshared_anew =
      cc (
        asked true n.component,
        asked true n.element,
        asked true n.terminator,
        asked (has_repetition n) n.repetition,
        asked (has_release n) n.release,
      )
      ∙ spread (eqb b n.component) (eqb b n.element) (eqb b n.terminator) (has_repetition n && eqb b n.repetition)
      (has_release n && eqb b n.release) (not (is_service c b))
      ∙ ap (λ (t : Bool). t && not (is_service c b)) (sym service)
    where
      spread : (k e t y z u : Bool) → (k && u || (e && u || (t && u || (y && u || z && u)))) ≡ ((k || (e || (t || (y || z)))) && u)
      spread k e t y z u = rw (and-or_distrib_right, and-or_distrib_right, and-or_distrib_right, and-or_distrib_right)
