-- What the definitions give: small lists with what comes of them, and what is left of any list without its idle end. Assumes nothing.
use Prim.Native.Nat.{ℕ}
use mathlib.Core.Path.{◌≡◌, refl, ap, ap₂, ◌∙◌}
use mathlib.Core.Bool.{Bool, true, false}
use mathlib.Core.List.{List, [], ◌∷◌, ◌++◌}
use mathlib.Core.Option.{none, some}
use lib.Dec.{leb}
use Rattle.lists.specs.Lists.{text, member, all_differ, is_empty, all, those, unless_idle, drop_end, trim_end, each_led_by, joined, gather, is_single, single}
use Rattle.lists.proofs.Texts.{and_left, and_right}

-- a text's bytes are its letters' numbers in ASCII, in their order
pub text_is : text "AZaz09 '" ≡ 65 ∷ 90 ∷ 97 ∷ 122 ∷ 48 ∷ 57 ∷ 32 ∷ 39 ∷ []
text_is = refl

-- any two are asked, neighbours or not
pub differ_are : (all_differ [] ≡ true)
    × (all_differ (1 ∷ 2 ∷ 3 ∷ []) ≡ true)
    × (all_differ (1 ∷ 2 ∷ 1 ∷ []) ≡ false)
    × (all_differ (1 ∷ 2 ∷ 2 ∷ []) ≡ false)
unfolding all_differ member
differ_are = (refl, refl, refl, refl)

pub empty_is : (is_empty {A = ℕ} [] ≡ true) × (is_empty {A = ℕ} (0 ∷ []) ≡ false)
unfolding is_empty
empty_is = (refl, refl)

-- those that pass, in their order
pub those_are : those (λ n. leb n 2) (3 ∷ 2 ∷ 4 ∷ 1 ∷ []) ≡ 2 ∷ 1 ∷ []
unfolding those
those_are = refl

-- ---- a list without its idle end

module _ {A : Type 0} (t : A → Bool) where
  -- where all are idle, nothing is left
  pub dropped_all : (ys : List A) → all t ys ≡ true → drop_end t ys ≡ []
  unfolding all drop_end unless_idle
  dropped_all [] h = refl
  dropped_all (y ∷ ys) h =
      ap₂ (λ (b : Bool) (left : List A). unless_idle b y left) (and_left (t y) (all t ys) h)
      (dropped_all ys (and_right (t y) (all t ys) h))

  -- what stands in front of one that is not idle stays, idle or not
  pub dropped_end : (xs : List A) (x : A) (ys : List A) → t x ≡ false → all t ys ≡ true → drop_end t (xs ++ x ∷ ys) ≡ xs ++ x ∷ []
  unfolding drop_end unless_idle
  dropped_end [] x ys n h = ap₂ (λ (b : Bool) (left : List A). unless_idle b x left) n (dropped_all ys h)
  dropped_end (w ∷ xs) x ys n h = ap (unless_idle (t w) w) (dropped_end xs x ys n h) ∙ kept (t w) xs
    where
      kept : (b : Bool) (xs : List A) → unless_idle b w (xs ++ x ∷ []) ≡ w ∷ (xs ++ x ∷ [])
      kept true [] = refl
      kept true (z ∷ zs) = refl
      kept false zs = refl

  -- and of the same "down to one", whatever the first is
  pub trimmed_all : (x : A) (ys : List A) → all t ys ≡ true → trim_end t (x ∷ ys) ≡ x ∷ []
  unfolding trim_end
  trimmed_all x ys h = ap (λ (left : List A). x ∷ left) (dropped_all ys h)

  pub trimmed_end : (w : A) (xs : List A) (x : A) (ys : List A) → t x ≡ false → all t ys ≡ true
      → trim_end t (w ∷ (xs ++ x ∷ ys)) ≡ w ∷ (xs ++ x ∷ [])
  unfolding trim_end
  trimmed_end w xs x ys n h = ap (λ (left : List A). w ∷ left) (dropped_end xs x ys n h)

-- ---- pieces joined

-- in front of each, an empty one too
pub led_are : each_led_by {A = ℕ} 0 ((1 ∷ 2 ∷ []) ∷ [] ∷ (3 ∷ []) ∷ []) ≡ 0 ∷ 1 ∷ 2 ∷ 0 ∷ 0 ∷ 3 ∷ []
unfolding each_led_by
led_are = refl

-- between any two, and neither before the first nor after the last
pub joined_are : (joined {A = ℕ} 0 [] ≡ [])
    × (joined {A = ℕ} 0 ((1 ∷ 2 ∷ []) ∷ []) ≡ 1 ∷ 2 ∷ [])
    × (joined {A = ℕ} 0 ((1 ∷ 2 ∷ []) ∷ [] ∷ (3 ∷ []) ∷ []) ≡ 1 ∷ 2 ∷ 0 ∷ 0 ∷ 3 ∷ [])
unfolding joined each_led_by
joined_are = (refl, refl, refl)

-- one after another
pub gathered_are : gather (λ (n : ℕ). n ∷ 0 ∷ []) (1 ∷ 2 ∷ []) ≡ 1 ∷ 0 ∷ 2 ∷ 0 ∷ []
unfolding gather
gathered_are = refl

-- one alone
pub single_is : {A : Type 0} (x y : A) (ys : List A)
    → (single {A = A} [] ≡ none) × (single (x ∷ []) ≡ some x) × (single (x ∷ y ∷ ys) ≡ none)
unfolding single
single_is x y ys = (refl, refl, refl)

pub is_single_is : {A : Type 0} (x y : A) (ys : List A)
    → (is_single {A = A} [] ≡ false) × (is_single (x ∷ []) ≡ true) × (is_single (x ∷ y ∷ ys) ≡ false)
unfolding is_single is_empty
is_single_is x y ys = (refl, refl, refl)
