-- The rooms of the groups that hold an entry, from those that hold the one before it. Assumes nothing.
use Rattle.std.specs.Prelude.{if◌then◌else◌}
use Prim.Native.Nat.{ℕ, suc, ◌-◌, ◌≤◌}
use mathlib.Core.Path.{◌≡◌, refl, sym, ap, ap₂, ◌∙◌}
use mathlib.Core.Bool.{Bool, true, false, ◌&&◌}
use mathlib.Core.Logic.{◌⊎◌, inl, inr, ⊎_elim}
use mathlib.Core.List.Memᴰ
use mathlib.Core.List.{List, [], ◌∷◌, ◌++◌, append_assoc, append-nil, Memᴰ}
use native.Mathlib.Omega.{arith}
use lib.ListN.{length}
use lib.Dec.{leb}
use borrow.Author.Tests.{leb-true, leb-false, le-leb, lt-leb}
use Rattle.refusals.specs.Refusals.{place_if}
use Rattle.message_tables.specs.Entries.{Entry, is_group}
use Rattle.message_tables.specs.Soundness.{rooms_from, rooms}
use Rattle.message_table_laws.specs.Scanning.{lower, own_room}

pub lower_append : (xs ys : List ℕ) → lower (xs ++ ys) ≡ lower xs ++ lower ys
lower_append [] ys = refl
lower_append (x ∷ xs) ys =
    ap (λ (zs : List ℕ). place_if (leb 1 x) (x - 1) ++ zs) (lower_append xs ys)
    ∙ sym (append_assoc (place_if (leb 1 x) (x - 1)) (lower xs) (lower ys))

-- one group, at a distance and one entry on
step_on : (g : Bool) (distance under : ℕ)
    → place_if (g && leb (suc distance) under) (under - suc distance) ≡ lower (place_if (g && leb distance under) (under - distance))
unfolding place_if
step_on false distance under = refl
step_on true distance under = step (leb distance under) refl (leb (suc distance) under) refl
  where
    step : (a : Bool) → leb distance under ≡ a → (b : Bool) → leb (suc distance) under ≡ b
        → (if b then (under - suc distance) ∷ [] else []) ≡ lower (if a then (under - distance) ∷ [] else [])
    step false x false y = refl
    step false x true y = absurd (omega (arith, leb-false distance under x, leb-true (suc distance) under y))
    step true x false y =
        rw (lt-leb 1 (under - distance) (omega (arith, leb-true distance under x, leb-false (suc distance) under y)))
    step true x true y = rw (le-leb 1 (under - distance) (omega (arith, leb-true (suc distance) under y))) (ap (λ (n : ℕ). n ∷ []) (omega arith))

rooms_on : (distance : ℕ) (past : List Entry) → rooms_from (suc distance) past ≡ lower (rooms_from distance past)
unfolding rooms_from
rooms_on distance [] = refl
rooms_on distance (e ∷ past) =
    ap₂ (λ (xs ys : List ℕ). xs ++ ys) (step_on (is_group e) distance e.under) (rooms_on (suc distance) past)
    ∙ sym (lower_append (place_if (is_group e && leb distance e.under) (e.under - distance)) (rooms_from (suc distance) past))

own_on : (g : Bool) (under : ℕ) → place_if (g && leb 1 under) (under - 1) ≡ lower (place_if g under)
unfolding place_if
own_on false under = refl
own_on true under = sym (append-nil (place_if (leb 1 under) (under - 1)))

-- one entry on: its own group, if it is one's, and those that held it, unless they end with it
pub rooms_next : (e : Entry) (past : List Entry) → rooms (e ∷ past) ≡ lower (own_room e ++ rooms past)
unfolding rooms rooms_from
rooms_next e past =
    ap₂ (λ (xs ys : List ℕ). xs ++ ys) (own_on (is_group e) e.under) (rooms_on 1 past)
    ∙ sym (lower_append (own_room e) (rooms_from 1 past))

-- ---- which rooms are left

pub lower_of : (x : ℕ) (xs : List ℕ) → Memᴰ x (lower xs) → Memᴰ (suc x) xs
unfolding place_if
lower_of x [] m = absurd (Memᴰ.not-nil m)
lower_of x (y ∷ ys) m = step (leb 1 y) refl m (lower_of x ys)
  where
    step : (b : Bool) → leb 1 y ≡ b → Memᴰ x ((if b then (y - 1) ∷ [] else []) ++ lower ys)
        → (Memᴰ x (lower ys) → Memᴰ (suc x) ys) → Memᴰ (suc x) (y ∷ ys)
    step false e m rest = Memᴰ.tail (rest m)
    step true e m rest =
        ⊎_elim (λ (q : x ≡ y - 1). Memᴰ.head (omega (arith, leb-true 1 y e, q))) (λ k. Memᴰ.tail (rest k)) (Memᴰ.cases_cons m)

pub of_lower : (x : ℕ) (xs : List ℕ) → Memᴰ (suc x) xs → Memᴰ x (lower xs)
unfolding place_if
of_lower x [] m = absurd (Memᴰ.not-nil m)
of_lower x (y ∷ ys) m = step (Memᴰ.cases_cons m) (of_lower x ys)
  where
    step : (suc x ≡ y) ⊎ Memᴰ (suc x) ys → (Memᴰ (suc x) ys → Memᴰ x (lower ys))
        → Memᴰ x (place_if (leb 1 y) (y - 1) ++ lower ys)
    step (inl e) rest = rw (le-leb 1 y (omega arith)) (Memᴰ.head {x = y - 1} (omega arith))
    step (inr k) rest = Memᴰ.append_right (place_if (leb 1 y) (y - 1)) (rest k)

pub lower_length : (xs : List ℕ) → ((x : ℕ) → Memᴰ x xs → 1 ≤ x) → length (lower xs) ≡ length xs
unfolding place_if
lower_length [] h = refl
lower_length (x ∷ xs) h =
    rw (le-leb 1 x (h x (Memᴰ.head refl))) (ap suc (lower_length xs (λ y m. h y (Memᴰ.tail m))))
