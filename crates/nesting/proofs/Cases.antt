-- What the definitions give for small nests of numbers, of which 0 is the empty one. Assumes nothing.
use Prim.Native.Nat.{ℕ, ◌+◌}
use mathlib.Core.Path.{◌≡◌, refl}
use mathlib.Core.Bool.{Bool, true, false, ◌&&◌}
use mathlib.Core.List.{List, [], ◌∷◌}
use lib.Dec.{eqb, leb, ltb}
use Rattle.lists.specs.Lists.{is_empty, is_single, all, those, onto, cut, unless_idle, drop_end, trim_end, each_led_by, joined, gather}
use Rattle.nesting.specs.Nesting.{shaped, every, mapped, by_depth, nested, written, spelled, flat, lone, is_idle, idle, trim}

abbrev is_zero : ℕ → Bool
is_zero n = eqb n 0

-- two parts of depth 1: 11 and 12, and 13
abbrev two : List (List ℕ)
two = (11 ∷ 12 ∷ []) ∷ (13 ∷ []) ∷ []

-- "one or more": at every depth
pub shaped_are : (shaped ℕ 2 two ≡ true) × (shaped ℕ 2 [] ≡ false) × (shaped ℕ 2 ((1 ∷ []) ∷ [] ∷ []) ≡ false)
unfolding is_empty all
shaped_are = (refl, refl, refl)

pub every_are : (every is_zero 2 ((0 ∷ 0 ∷ []) ∷ (0 ∷ []) ∷ []) ≡ true) × (every is_zero 2 ((0 ∷ 0 ∷ []) ∷ (0 ∷ 1 ∷ []) ∷ []) ≡ false)
unfolding all
every_are = (refl, refl)

pub mapped_are : mapped (λ n. n + 1) 2 two ≡ (12 ∷ 13 ∷ []) ∷ (14 ∷ []) ∷ []
mapped_are = refl

-- of three ranks, 0 is that of depth 2, and 2 that of depth 0; there is no depth beyond
pub depths_are : (by_depth 2 eqb 0 2 ≡ true) × (by_depth 2 eqb 1 1 ≡ true) × (by_depth 2 eqb 2 0 ≡ true) × (by_depth 2 eqb 3 0 ≡ false)
depths_are = (refl, refl, refl, refl)

-- read: 0 ends a value, 1 also the part that it is the last of
pub nested-are :
    nested (λ depth n. ltb n 10 && leb depth n) (those (leb 10)) 2 (11 ∷ 0 ∷ 12 ∷ 1 ∷ 13 ∷ 1 ∷ [])
    ≡ ((11 ∷ []) ∷ (12 ∷ []) ∷ []) ∷ ((13 ∷ []) ∷ []) ∷ []
unfolding cut onto those
nested-are = refl

-- written: after each value the depth of what it ends, after the last one what is said
pub written_are : written (λ end n. n ∷ end ∷ []) 2 9 two ≡ 11 ∷ 0 ∷ 12 ∷ 1 ∷ 13 ∷ 9 ∷ []
written_are = refl

-- spelled: between two parts the mark of their depth
pub spelled_are : spelled (λ depth. depth) (λ n. n ∷ []) 2 two ≡ 11 ∷ 0 ∷ 12 ∷ 1 ∷ 13 ∷ []
unfolding joined each_led_by
spelled_are = refl

-- listed: before each value the kind of what it begins, before the first one what is said
pub flat_are : flat (λ depth. depth) (λ kind n. kind ∷ n ∷ []) 2 9 two ≡ (9 ∷ 11 ∷ []) ∷ (0 ∷ 12 ∷ []) ∷ (1 ∷ 13 ∷ []) ∷ []
unfolding gather
flat_are = refl

-- no two values side by side, or no two parts of depth 1
pub lone_are : (lone ℕ 0 2 two ≡ false) × (lone ℕ 1 2 two ≡ false) × (lone ℕ 0 2 ((1 ∷ []) ∷ (2 ∷ []) ∷ []) ≡ true) × (lone ℕ 1 2 ((1 ∷ 2 ∷ []) ∷ []) ≡ true)
unfolding is_empty is_single all
lone_are = (refl, refl, refl, refl)

-- a single empty value, at any depth
pub idle_are : (idle ℕ is_zero 2 ((0 ∷ []) ∷ []) ≡ true)
    × (idle ℕ is_zero 2 ((0 ∷ 0 ∷ []) ∷ []) ≡ false)
    × (idle ℕ is_zero 2 ((0 ∷ []) ∷ (0 ∷ []) ∷ []) ≡ false)
    × (idle ℕ is_zero 2 ((1 ∷ []) ∷ []) ≡ false)
unfolding is_idle
idle_are = (refl, refl, refl, refl)

-- trimmed: down to one; empty parts inside stay; the inner ends go before the outer ones
pub trimmed_are : (trim ℕ is_zero 1 (0 ∷ 0 ∷ []) ≡ 0 ∷ [])
    × (trim ℕ is_zero 2 ((1 ∷ []) ∷ (0 ∷ 2 ∷ 0 ∷ []) ∷ (0 ∷ 0 ∷ []) ∷ []) ≡ (1 ∷ []) ∷ (0 ∷ 2 ∷ []) ∷ [])
    × (trim ℕ is_zero 3 (((1 ∷ []) ∷ []) ∷ ((0 ∷ 0 ∷ []) ∷ (0 ∷ []) ∷ []) ∷ []) ≡ ((1 ∷ []) ∷ []) ∷ [])
unfolding trim_end drop_end unless_idle is_idle
trimmed_are = (refl, refl, refl)
