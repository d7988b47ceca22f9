-- The texts of a list that are not known, each once: what is known matters only as a test, and the order of the list does not change which they
-- are. Nothing here knows of shelves. Assumes nothing.
use Prim.Native.Nat.{ℕ, ◌≤◌}
use mathlib.Core.Path.{◌≡◌, refl, sym, ap, subst, ◌∙◌}
use mathlib.Core.Bool.{Bool, true, false, ◌||◌, or-true}
use mathlib.Core.List.Permᴰ
use mathlib.Core.List.{List, [], ◌∷◌, map, Permᴰ}
use mathlib.Core.Logic.{⊎_elim}
use native.Mathlib.Omega.{arith}
use lib.ListN.{length}
use Rattle.lists.specs.Lists.{same, any}
use Rattle.lists.proofs.Texts.{decided, if_true, if_false, same_eq}
use Rattle.lists.proofs.Tests.{Says, says_same, fails}
use Rattle.shelves.specs.Layout.{total}
use Rattle.either_order_laws.specs.EitherOrder.{new_of}
use Rattle.either_order_laws.proofs.Reordering.{Texts}

-- it is one of them
abbrev pub among : Texts → List ℕ → Bool
among known form = any (same form) known

-- two tests that say the same are the same
pub says_alike : {P : Type 0} (t u : Bool) → Says t P → Says u P → t ≡ u
says_alike t true p q = p.1 (q.0 refl)
says_alike t false p q = (fails t p).1 ((fails false q).0 refl)

pub among_more : (known : Texts) (form text : List ℕ) → among (form ∷ known) text ≡ (same text form || among known text)
unfolding any
among_more known form text = refl

-- ---- the first of the list

pub new_none : (known : Texts) → new_of known [] ≡ []
unfolding new_of
new_none known = refl

pub new_known : (known : Texts) (form : List ℕ) (forms : Texts) → among known form ≡ true → new_of known (form ∷ forms) ≡ new_of known forms
unfolding new_of
new_known known form forms e = if_true (among known form) (new_of known forms) (form ∷ new_of (form ∷ known) forms) e

pub new_fresh : (known : Texts) (form : List ℕ) (forms : Texts) → among known form ≡ false
    → new_of known (form ∷ forms) ≡ form ∷ new_of (form ∷ known) forms
unfolding new_of
new_fresh known form forms e = if_false (among known form) (new_of known forms) (form ∷ new_of (form ∷ known) forms) e

-- ---- what is known matters only as a test

pub known_alike : (forms known knows : Texts) → ((text : List ℕ) → among known text ≡ among knows text) → new_of known forms ≡ new_of knows forms
known_alike [] known knows h = new_none known ∙ sym (new_none knows)
known_alike (form ∷ forms) known knows h =
    ⊎_elim
    (λ (e : among known form ≡ true).
    new_known known form forms e ∙ known_alike forms known knows h ∙ sym (new_known knows form forms (sym (h form) ∙ e)))
    (λ (e : among known form ≡ false).
    new_fresh known form forms e
    ∙ ap (λ (rest : Texts). form ∷ rest) (known_alike forms (form ∷ known) (form ∷ knows) (λ text.
    among_more known form text ∙ ap (λ (b : Bool). same text form || b) (h text) ∙ sym (among_more knows form text)))
    ∙ sym (new_fresh knows form forms (sym (h form) ∙ e)))
    (decided (among known form))

-- ---- they are no more than all of them

pub new_fewer : (forms known : Texts) → length (new_of known forms) ≤ length forms
new_fewer [] known = omega (arith, ap length (new_none known))
new_fewer (form ∷ forms) known =
    ⊎_elim
    (λ (e : among known form ≡ true). omega (arith, ap length (new_known known form forms e), new_fewer forms known))
    (λ (e : among known form ≡ false). omega (arith, ap length (new_fresh known form forms e), new_fewer forms (form ∷ known)))
    (decided (among known form))

abbrev pub all_bytes : Texts → ℕ
all_bytes forms = total (map length forms)

pub new_shorter : (forms known : Texts) → all_bytes (new_of known forms) ≤ all_bytes forms
unfolding total
new_shorter [] known = omega (arith, ap all_bytes (new_none known))
new_shorter (form ∷ forms) known =
    ⊎_elim
    (λ (e : among known form ≡ true). omega (arith, ap all_bytes (new_known known form forms e), new_shorter forms known))
    (λ (e : among known form ≡ false). omega (arith, ap all_bytes (new_fresh known form forms e), new_shorter forms (form ∷ known)))
    (decided (among known form))

-- ---- in another order

as_swaps : {xs ys : Texts} → xs ≡ ys → Permᴰ xs ys
as_swaps {xs} e = subst (Permᴰ xs) e (Permᴰ.refl xs)

-- the same first text, before lists of which it is known
first_alike : (form : List ℕ) (xs ys known : Texts) → Permᴰ (new_of known xs) (new_of known ys)
    → Permᴰ (new_of (form ∷ known) xs) (new_of (form ∷ known) ys) → Permᴰ (new_of known (form ∷ xs)) (new_of known (form ∷ ys))
first_alike form xs ys known p q =
    ⊎_elim
    (λ (e : among known form ≡ true).
    Permᴰ.trans (as_swaps (new_known known form xs e)) (Permᴰ.trans p (as_swaps (sym (new_known known form ys e)))))
    (λ (e : among known form ≡ false).
    Permᴰ.trans (as_swaps (new_fresh known form xs e))
    (Permᴰ.trans (Permᴰ.cons refl q) (as_swaps (sym (new_fresh known form ys e)))))
    (decided (among known form))

-- two neighbours
module _ (f g : List ℕ) (rest known : Texts) where
  -- one of them is known, also where the other is
  f_known : among known f ≡ true → new_of known (f ∷ g ∷ rest) ≡ new_of known (g ∷ f ∷ rest)
  f_known e =
      new_known known f (g ∷ rest) e
      ∙ ⊎_elim
      (λ (d : among known g ≡ true).
      new_known known g rest d ∙ sym (new_known known g (f ∷ rest) d ∙ new_known known f rest e))
      (λ (d : among known g ≡ false).
      new_fresh known g rest d
      ∙ sym (new_fresh known g (f ∷ rest) d
      ∙ ap (λ (more : Texts). g ∷ more) (new_known (g ∷ known) f rest
      (among_more known g f ∙ ap (λ (b : Bool). same f g || b) e ∙ or-true (same f g)))))
      (decided (among known g))

  -- neither is, and they differ
  both_fresh : among known f ≡ false → among known g ≡ false → same g f ≡ false → new_of known (f ∷ g ∷ rest) ≡ f ∷ g ∷ new_of (g ∷ f ∷ known) rest
  both_fresh e d u =
      new_fresh known f (g ∷ rest) e
      ∙ ap (λ (more : Texts). f ∷ more) (new_fresh (f ∷ known) g rest
      (among_more known f g ∙ ap (λ (b : Bool). b || among known g) u ∙ d))

-- which of them was known first does not matter
either_known : (f g : List ℕ) (known : Texts) (text : List ℕ) → among (g ∷ f ∷ known) text ≡ among (f ∷ g ∷ known) text
unfolding any
either_known f g known text = step (same text g) (same text f)
  where
    step : (a b : Bool) → (a || (b || any (same text) known)) ≡ (b || (a || any (same text) known))
    step true true = refl
    step true false = refl
    step false true = refl
    step false false = refl

differ : (f g : List ℕ) → (f ≡ g → ⊥) → same f g ≡ false
differ f g u = (fails (same f g) (says_same f g)).1 u

swapped : (f g : List ℕ) (rest known : Texts) → Permᴰ (new_of known (f ∷ g ∷ rest)) (new_of known (g ∷ f ∷ rest))
swapped f g rest known =
    ⊎_elim
    (λ (e : among known f ≡ true). as_swaps (f_known f g rest known e))
    (λ (e : among known f ≡ false).
    ⊎_elim
    (λ (d : among known g ≡ true). as_swaps (sym (f_known g f rest known d)))
    (λ (d : among known g ≡ false).
    ⊎_elim
    (λ (i : same f g ≡ true).
    subst (λ (h : List ℕ). Permᴰ (new_of known (f ∷ h ∷ rest)) (new_of known (h ∷ f ∷ rest))) (same_eq f g i)
    (Permᴰ.refl (new_of known (f ∷ f ∷ rest))))
    (λ (u : same f g ≡ false).
    let apart : f ≡ g → ⊥ = (fails (same f g) (says_same f g)).0 u in
    Permᴰ.trans (as_swaps (both_fresh f g rest known e d (differ g f (λ i. apart (sym i)))))
    (Permᴰ.trans (Permᴰ.swap refl refl)
    (as_swaps (ap (λ (more : Texts). g ∷ f ∷ more) (known_alike rest (g ∷ f ∷ known) (f ∷ g ∷ known) (either_known f g known))
    ∙ sym (both_fresh g f rest known d e u)))))
    (decided (same f g)))
    (decided (among known g)))
    (decided (among known f))

-- so swaps of neighbours in the list are swaps among the new ones
pub new_alike : {xs ys : Texts} → Permᴰ xs ys → (known : Texts) → Permᴰ (new_of known xs) (new_of known ys)
new_alike Permᴰ.nil known = Permᴰ.refl (new_of known [])
new_alike (Permᴰ.cons {a = f} {b = g} {l₁ = xs} {l₂ = ys} e d) known =
    subst (λ (h : List ℕ). Permᴰ (new_of known (f ∷ xs)) (new_of known (h ∷ ys))) e
    (first_alike f xs ys known (new_alike d known) (new_alike d (f ∷ known)))
new_alike (Permᴰ.swap {a = f} {b = g} {a' = g'} {b' = f'} {l = rest} e d) known =
    subst (λ (h : List ℕ). Permᴰ (new_of known (f ∷ g ∷ rest)) (new_of known (h ∷ f' ∷ rest))) d
    (subst (λ (h : List ℕ). Permᴰ (new_of known (f ∷ g ∷ rest)) (new_of known (g ∷ h ∷ rest))) e (swapped f g rest known))
new_alike (Permᴰ.trans c d) known = Permᴰ.trans (new_alike c known) (new_alike d known)
