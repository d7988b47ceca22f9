-- Case by case: how a byte is spelled, the four ranks of separators, and the tokens that a body may bring. Assumes nothing.
use Rattle.std.specs.Prelude.{if◌then◌else◌}
use Prim.Native.Nat.{ℕ, suc, ◌+◌}
use mathlib.Core.Path.{◌≡◌, refl}
use mathlib.Core.Bool.{Bool, true, false, ◌&&◌}
use mathlib.Core.List.{List, [], ◌∷◌}
use lib.Dec.{leb, eqb}
use lib.ListN.{length}
use Rattle.lists.specs.Lists.{all}
use Rattle.lists.proofs.Texts.{and_both}
use Rattle.characters.specs.declared.Characters.{Characters}
use Rattle.characters.specs.declared.Role.{Role}
use Rattle.characters.specs.declared.Role.TheVariants.{Separator, Release, Plain}
use Rattle.characters.specs.Characters.{is_service, is_break, role, has_release, has_repetition}
use Rattle.values.specs.Tokens.{Token, byte, separator, fault, Reading, inside, released, passing, unreleased, reading, taken, tokens_from, tokens}
use Rattle.values.specs.Spelling.{spell_byte}

-- a byte of a value is spelled with its release character or alone
pub by_spelling : (P : List ℕ → Type 0) (c : Characters) (b : ℕ) → P (c.release ∷ b ∷ []) → P (b ∷ []) → P (spell_byte c b)
unfolding spell_byte
by_spelling P c b p q = step (is_service c b)
  where
    step : (t : Bool) → P (if t then c.release ∷ b ∷ [] else b ∷ [])
    step true = p
    step false = q

-- a separator has one of the four ranks
unfoldable pub known : Token → Bool
known (byte b from place) = true
known (separator rank place) = leb rank 3
known (fault place) = true

-- the same of a byte that plays this part
unfoldable known_role : Role → Bool
known_role (Separator rank) = leb rank 3
known_role Release = true
known_role Plain = true

role_known : (c : Characters) (b : ℕ) → known_role (role c b) ≡ true
unfolding known_role role
role_known c b =
    step (eqb b c.terminator) (eqb b c.element) (has_repetition c && eqb b c.repetition) (eqb b c.component) (has_release c && eqb b c.release)
  where
    step : (t u v w x : Bool)
        → known_role
        (if t then Separator 0 else (if u then Separator 1 else (if v then Separator 2 else (if w then Separator 3 else (if x then Release else Plain)))))
        ≡ true
    step true u v w x = refl
    step false true v w x = refl
    step false false true w x = refl
    step false false false true x = refl
    step false false false false true = refl
    step false false false false false = refl

-- What holds of no tokens, and goes on to hold with each token that a byte may bring and with a byte that brings none, holds of what is
-- read; the number is that of the bytes. At the end a release character may still be without its byte.
module _ (P : ℕ → List Token → Type 0) (end : P 0 []) (stray : (from : ℕ) → P 0 (fault from ∷ []))
    (token : (n : ℕ) (t : Token) (ts : List Token) → known t ≡ true → P n ts → P (suc n) (t ∷ ts))
    (silent : (n : ℕ) (ts : List Token) → P n ts → P (suc n) ts) (c : Characters) where
  -- an unreleased byte
  first : (place b : ℕ) (bs : List ℕ) → P (length bs) (tokens_from c (reading (role c b) place) (place + 1) bs)
      → P (suc (length bs)) (unreleased (role c b) b place (tokens_from c (reading (role c b) place) (place + 1) bs))
  unfolding unreleased reading known known_role
  first place b bs = step (role c b) (role_known c b)
    where
      step : (r : Role) → known_role r ≡ true → P (length bs) (tokens_from c (reading r place) (place + 1) bs)
          → P (suc (length bs)) (unreleased r b place (tokens_from c (reading r place) (place + 1) bs))
      step (Separator rank) h p = token _ (separator rank place) _ h p
      step Release h p = silent _ _ p
      step Plain h p = token _ (byte b place place) _ refl p

  -- a byte after a release character
  second : (from place b : ℕ) {n : ℕ} {ts : List Token} → P n ts → P (suc n) (taken (role c b) b from place ts)
  unfolding taken known
  second from place b = step (role c b)
    where
      step : (r : Role) {n : ℕ} {ts : List Token} → P n ts → P (suc n) (taken r b from place ts)
      step (Separator rank) p = token _ (byte b from place) _ refl p
      step Release p = token _ (byte b from place) _ refl p
      step Plain p = token _ (fault from) _ refl p

  pub of_reading : (r : Reading) (place : ℕ) (bs : List ℕ) → P (length bs) (tokens_from c r place bs)
  unfolding tokens_from
  of_reading inside place [] = end
  of_reading (released from) place [] = stray from
  of_reading passing place [] = end
  of_reading inside place (b ∷ bs) = first place b bs (of_reading (reading (role c b) place) (place + 1) bs)
  of_reading (released from) place (b ∷ bs) = second from place b (of_reading inside (place + 1) bs)
  of_reading passing place (b ∷ bs) =
      step (is_break b) (of_reading passing (place + 1) bs) (first place b bs (of_reading (reading (role c b) place) (place + 1) bs))
    where
      step : (t : Bool) {ts us : List Token} → P (length bs) ts → P (suc (length bs)) us → P (suc (length bs)) (if t then ts else us)
      step true p q = silent _ _ p
      step false p q = q

-- every token that is read is known
pub reading_known : (c : Characters) (place : ℕ) (bs : List ℕ) → all known (tokens c place bs) ≡ true
unfolding tokens all known
reading_known c place bs =
    of_reading
    (λ n ts. all known ts ≡ true)
    refl
    (λ from. refl)
    (λ n t ts h p. and_both (known t) (all known ts) h p)
    (λ n ts p. p)
    c
    inside
    place
    bs
