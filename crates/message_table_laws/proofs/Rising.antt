-- The rooms rise from the nearest group to the farthest, so that only the nearest has to be asked. Assumes nothing.
use Rattle.std.specs.Prelude.{if◌then◌else◌}
use Prim.Native.Nat.{ℕ, suc, ◌-◌, ◌≤◌}
use mathlib.Core.Path.{◌≡◌, refl, ap, ◌∙◌}
use mathlib.Core.Bool.{Bool, true, false, ◌&&◌}
use mathlib.Core.List.{List, [], ◌∷◌, ◌++◌}
use native.Mathlib.Omega.{arith}
use lib.Dec.{leb, ltb}
use lib.ListN.{length}
use borrow.Author.Tests.{leb-true, le-leb}
use Rattle.lists.specs.Lists.{all}
use Rattle.refusals.specs.Refusals.{place_if}
use Rattle.message_tables.specs.Entries.{Entry, is_group}
use Rattle.message_tables.specs.Soundness.{most_depth}
use Rattle.message_table_laws.specs.Scanning.{lower, own_room, nearest, Rises, group_fits_in}

-- where the nearest has room, all have
pub rises_all : (left : ℕ) (held : List ℕ) → Rises left held → (n : ℕ) → all (leb n) (left ∷ held) ≡ leb n (nearest left held)
unfolding all
rises_all left [] h n = step (leb n left)
  where
    step : (b : Bool) → (b && true) ≡ b
    step true = refl
    step false = refl
rises_all left (room ∷ rest) h n = step (leb n left) (leb n room) refl (all (leb n) rest) (rises_all left rest h.1 n)
  where
    step : (a b : Bool) → leb n room ≡ b → (c : Bool) → (a && c) ≡ leb n (nearest left rest) → (a && (b && c)) ≡ b
    step true true e c k = k ∙ le-leb n (nearest left rest) (omega (arith, leb-true n room e, h.0))
    step true false e c k = refl
    step false true e c k = k ∙ le-leb n (nearest left rest) (omega (arith, leb-true n room e, h.0))
    step false false e c k = refl

-- one entry on they rise again
nearest_lower : (left : ℕ) (held : List ℕ) → 1 ≤ nearest (suc left) held → nearest left (lower held) ≡ nearest (suc left) held - 1
unfolding place_if
nearest_lower left [] h = omega arith
nearest_lower left (room ∷ rest) h = rw (le-leb 1 room h)

pub rises_lower : (left : ℕ) (held : List ℕ) → Rises (suc left) held → Rises left (lower held)
unfolding place_if
rises_lower left [] h = tt
rises_lower left (room ∷ rest) h = step (leb 1 room) refl (rises_lower left rest h.1)
  where
    step : (b : Bool) → leb 1 room ≡ b → Rises left (lower rest) → Rises left ((if b then (room - 1) ∷ [] else []) ++ lower rest)
    step true e k = (omega (arith, leb-true 1 room e, h.0, nearest_lower left rest (omega (arith, leb-true 1 room e, h.0))), k)
    step false e k = k

pub rises_next : (left : ℕ) (e : Entry) (held : List ℕ) → (is_group e ≡ true → e.under ≤ nearest (suc left) held) → Rises (suc left) held
    → Rises left (lower (own_room e ++ held))
unfolding place_if
rises_next left e held ends h = rises_lower left (own_room e ++ held) (step (is_group e) refl)
  where
    step : (g : Bool) → is_group e ≡ g → Rises (suc left) ((if g then e.under ∷ [] else []) ++ held)
    step true g = (ends g, h)
    step false g = h

-- what a group is asked, of the nearest alone
pub group_nearest : (held : List ℕ) (left : ℕ) (e : Entry) → Rises left held
    → group_fits_in held left e ≡ (leb 1 e.under && ltb (length held) most_depth && leb e.under (nearest left held))
unfolding group_fits_in
group_nearest held left e h = ap (λ (b : Bool). leb 1 e.under && ltb (length held) most_depth && b) (rises_all left held h e.under)
