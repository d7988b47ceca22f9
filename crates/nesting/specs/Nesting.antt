-- Values nested to any depth. Nothing here knows of EDIFACT. Assumes nothing.
use Rattle.std.specs.Prelude.{ℕ, zero, suc, ◌-◌, Bool, true, false, not, ◌&&◌, ◌||◌, List, [], ◌∷◌, ◌++◌, map, eqb, leb}
use Rattle.lists.specs.Lists.{is_empty, is_single, all, cut, trim_end, joined, gather}

-- of depth 0 a value, of depth n + 1 a list of parts of depth n
abbrev pub Nest : Type 0 → ℕ → Type 0
Nest A zero = A
Nest A (suc n) = List (Nest A n)

-- each part has one or more parts, down to the values
abbrev pub shaped : (A : Type 0) (n : ℕ) → Nest A n → Bool
shaped A zero v = true
shaped A (suc zero) xs = not (is_empty xs)
shaped A (suc (suc n)) xs = not (is_empty xs) && all (shaped A (suc n)) xs

-- every value passes the test
abbrev pub every : {A : Type 0} → (A → Bool) → (n : ℕ) → Nest A n → Bool
every t zero v = t v
every t (suc n) xs = all (every t n) xs

-- f done to every value
abbrev pub mapped : {A B : Type 0} → (A → B) → (n : ℕ) → Nest A n → Nest B n
mapped f zero v = f v
mapped f (suc n) xs = map (mapped f n) xs

-- ---- read and written

-- Ranks count from the outside, depths from the inside: a token of rank 0 ends all that a part of the greatest depth holds, and one of
-- rank `top` only a value. What ends a part of a depth, by what ends what a token of a rank ends:
abbrev pub by_depth : {T : Type 0} → (top : ℕ) → (ℕ → T → Bool) → ℕ → T → Bool
by_depth top ends n t = leb n top && ends (top - n) t

-- Where it is known which token ends a part of which depth, a part is cut after each token that ends a part in it.
module _ {T A : Type 0} (ends : ℕ → T → Bool) (read : List T → A) where
  abbrev pub nested : (n : ℕ) → List T → Nest A n
  nested zero ts = read ts
  nested (suc n) ts = map (nested n) (cut (ends n) ts)

-- the parts one after the other, `between` being asked of each but the last, and `end` of the last
abbrev pub in_turn : {B T : Type 0} → (B → List T) → (B → List T) → List B → List T
in_turn between end [] = []
in_turn between end (x ∷ []) = end x
in_turn between end (x ∷ y ∷ ys) = between x ++ in_turn between end (y ∷ ys)

-- The values as they are written with what ends them: the last one ends a part of the depth given, and every other one ends
-- the part that it is the last of.
module _ {T A : Type 0} (write : ℕ → A → List T) where
  abbrev pub written : (n end : ℕ) → Nest A n → List T
  written zero end v = write end v
  written (suc n) end xs = in_turn (written n n) (written n end) xs

-- the values as they are spelled, with the mark of their depth between parts
module _ {T A : Type 0} (mark : ℕ → T) (spell : A → List T) where
  abbrev pub spelled : (n : ℕ) → Nest A n → List T
  spelled zero v = spell v
  spelled (suc n) xs = joined (mark n) (map (spelled n) xs)

-- The values one after the other, each with the kind of what it begins: the first one what is said, any other one the next of the
-- parts of a depth, which has its kind.
module _ {A B : Type 0} (kinds : ℕ → ℕ) (item : ℕ → A → B) where
  abbrev pub flat : (n first : ℕ) → Nest A n → List B
  flat zero first v = item first v ∷ []
  flat (suc zero) first [] = []
  flat (suc zero) first (v ∷ vs) = item first v ∷ map (item (kinds 0)) vs
  flat (suc (suc n)) first [] = []
  flat (suc (suc n)) first (x ∷ xs) = flat (suc n) first x ++ gather (flat (suc n) (kinds (suc n))) xs

-- ---- one alone

-- no two parts of depth d stand side by side: each part of depth d + 1 has one part
abbrev pub lone : (A : Type 0) (d n : ℕ) → Nest A n → Bool
lone A d zero v = true
lone A d (suc n) xs = (not (eqb d n) || is_single xs) && all (lone A d n) xs

-- ---- trimmed

-- one alone, which passes the test
unfoldable pub is_idle : {A : Type 0} → (A → Bool) → List A → Bool
is_idle t [] = false
is_idle t (x ∷ []) = t x
is_idle t (x ∷ y ∷ ys) = false

-- Over any values of which it is known which are empty: parts at the end that are a single empty value go, down to one, the inner
-- ones before the outer ones. Values stay as they are.
module _ (A : Type 0) (is_blank : A → Bool) where
  abbrev pub idle : (n : ℕ) → Nest A n → Bool
  idle zero v = is_blank v
  idle (suc n) xs = is_idle (idle n) xs

  abbrev pub trim : (n : ℕ) → Nest A n → Nest A n
  trim zero v = v
  trim (suc zero) xs = trim_end is_blank xs
  trim (suc (suc n)) xs = trim_end (idle (suc n)) (map (trim (suc n)) xs)
