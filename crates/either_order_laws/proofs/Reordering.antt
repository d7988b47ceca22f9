-- Two lists in which everything stands as often are each other's rearrangement by swaps of neighbours; and what such swaps leave as it is.
-- Nothing here knows of shelves. Assumes nothing.
use Rattle.std.specs.Prelude.{if◌then◌else◌}
use Prim.Native.Nat.{ℕ, ◌+◌, ◌≤◌}
use mathlib.Core.Path.{◌≡◌, refl, ap, subst, ◌∙◌}
use mathlib.Core.Bool.{Bool, true, false}
use mathlib.Core.List.Permᴰ
use mathlib.Core.List.{List, [], ◌∷◌, map, Permᴰ}
use mathlib.Core.Logic.{⊎_elim}
use native.Mathlib.Omega.{arith}
use lib.ListN.{length}
use Rattle.lists.specs.Lists.{same, those}
use Rattle.lists.proofs.Texts.{decided, same_eq, same_refl}
use Rattle.shelves.specs.Layout.{total}
use Rattle.either_order_laws.specs.EitherOrder.{times_in, Reordered}

abbrev pub Texts : Type 0
Texts = List (List ℕ)

-- ---- what swaps of neighbours leave as it is

-- what is added up over all of them
pub weigh_alike : (w : List ℕ → ℕ) {xs ys : Texts} → Permᴰ xs ys → total (map w xs) ≡ total (map w ys)
unfolding total
weigh_alike w Permᴰ.nil = refl
weigh_alike w (Permᴰ.cons e d) = let same = ap w e in let ih = weigh_alike w d in omega arith
weigh_alike w (Permᴰ.swap e f) = let one = ap w e in let other = ap w f in omega arith
weigh_alike w (Permᴰ.trans c d) = weigh_alike w c ∙ weigh_alike w d

-- how many they are
pub as_many : {xs ys : Texts} → Permᴰ xs ys → length xs ≡ length ys
as_many Permᴰ.nil = refl
as_many (Permᴰ.cons e d) = let ih = as_many d in omega arith
as_many (Permᴰ.swap e f) = refl
as_many (Permᴰ.trans c d) = as_many c ∙ as_many d

-- what holds of each of them
unfoldable pub Each : (P : List ℕ → Type 0) → Texts → Type 0
Each P [] = Unit
Each P (x ∷ xs) = P x × Each P xs

pub each_alike : (P : List ℕ → Type 0) {xs ys : Texts} → Permᴰ xs ys → Each P xs → Each P ys
unfolding Each
each_alike P Permᴰ.nil p = p
each_alike P (Permᴰ.cons e d) p = (subst P e p.0, each_alike P d p.1)
each_alike P (Permᴰ.swap e f) p = (subst P f p.1.0, (subst P e p.0, p.1.1))
each_alike P (Permᴰ.trans c d) p = each_alike P d (each_alike P c p)

-- and what is made of each of them is swapped in the same way
pub map_alike : (f : List ℕ → List ℕ) {xs ys : Texts} → Permᴰ xs ys → Permᴰ (map f xs) (map f ys)
map_alike f Permᴰ.nil = Permᴰ.nil
map_alike f (Permᴰ.cons e d) = Permᴰ.cons (ap f e) (map_alike f d)
map_alike f (Permᴰ.swap e d) = Permᴰ.swap (ap f e) (ap f d)
map_alike f (Permᴰ.trans c d) = Permᴰ.trans (map_alike f c) (map_alike f d)

-- ---- how often a text stands in a list

abbrev is_it : List ℕ → List ℕ → ℕ
is_it x y = if same x y then 1 else 0

times_sum : (x : List ℕ) (ys : Texts) → times_in ys x ≡ total (map (is_it x) ys)
unfolding times_in total those
times_sum x [] = refl
times_sum x (y ∷ ys) = step (same x y) (times_sum x ys)
  where
    step : (b : Bool) → length (those (same x) ys) ≡ total (map (is_it x) ys)
        → length (if b then y ∷ those (same x) ys else those (same x) ys) ≡ (if b then 1 else 0) + total (map (is_it x) ys)
    step true ih = omega arith
    step false ih = omega arith

times_none : (x : List ℕ) → times_in [] x ≡ 0
unfolding times_in those
times_none x = refl

times_next : (x y : List ℕ) (ys : Texts) → times_in (y ∷ ys) x ≡ is_it x y + times_in ys x
unfolding total
times_next x y ys = omega (arith, times_sum x (y ∷ ys), times_sum x ys)

times_self : (x : List ℕ) → is_it x x ≡ 1
times_self x = rw (same_refl x)

-- one that stands in it comes to the front by swaps
to_front : (x : List ℕ) (ys : Texts) → 1 ≤ times_in ys x → (rest : Texts) × Permᴰ (x ∷ rest) ys
to_front x [] h = absurd (omega (arith, times_none x))
to_front x (y ∷ ys) h =
    ⊎_elim
    (λ (e : same x y ≡ true). (ys, Permᴰ.cons (same_eq x y e) (Permᴰ.refl ys)))
    (λ (e : same x y ≡ false).
    let none : is_it x y ≡ 0 = rw e in
    let (rest, p) = to_front x ys (omega (arith, times_next x y ys)) in
    (y ∷ rest, Permᴰ.trans (Permᴰ.swap refl refl) (Permᴰ.cons refl p)))
    (decided (same x y))

-- so where everything stands as often in both, swaps of neighbours make the one from the other
pub by_swaps : (xs ys : Texts) → Reordered xs ys → Permᴰ xs ys
by_swaps [] [] h = Permᴰ.nil
by_swaps [] (y ∷ ys) h = absurd (omega (arith, h y, times_none y, times_next y y ys, times_self y))
by_swaps (x ∷ xs) ys h =
    let (rest, p) = to_front x ys (omega (arith, h x, times_next x x xs, times_self x)) in
    Permᴰ.trans (Permᴰ.cons refl (by_swaps xs rest (less rest p))) p
  where
    less : (rest : Texts) → Permᴰ (x ∷ rest) ys → Reordered xs rest
    less rest p z =
        let all = weigh_alike (is_it z) p in
        omega (arith, h z, times_next z x xs, times_next z x rest, times_sum z (x ∷ rest), times_sum z ys)
