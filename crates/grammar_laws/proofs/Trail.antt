-- Lists of what passed, the nearest first: how they grow, and tests that each one on them passed. Assumes nothing.
use mathlib.Core.Path.{◌≡◌, refl}
use mathlib.Core.List.{List, [], ◌∷◌, ◌++◌, map, reverse_aux, reverse_aux-append}

infixl 60 ◌▸◌
-- what has passed when `gs` went by after `past`
abbrev pub ◌▸◌ : {A : Type 0} → List A → List A → List A
past ▸ gs = reverse_aux gs past

module _ {A : Type 0} where
  pub ▸-append : (past xs ys : List A) → past ▸ (xs ++ ys) ≡ past ▸ xs ▸ ys
  ▸-append past xs ys = reverse_aux-append xs ys past

  pub ▸-map : {B : Type 0} (f : A → B) (past xs : List A) → map f (past ▸ xs) ≡ map f past ▸ map f xs
  ▸-map f past [] = refl
  ▸-map f past (x ∷ xs) = ▸-map f (x ∷ past) xs

  -- gone through backwards, it is in its order again
  pub ▸-back : (xs past rest : List A) → rest ▸ (past ▸ xs) ≡ (xs ++ rest) ▸ past
  ▸-back [] past rest = refl
  ▸-back (x ∷ xs) past rest = ▸-back xs (x ∷ past) rest

-- each one passed its test, given what passed before it
pub data Each {A : Type 0} (Test : List A → A → Type 0) : List A → Type 0 where
  none_yet : Each Test []
  passed : {past : List A} {x : A} → Test past x → Each Test past → Each Test (x ∷ past)

module _ {A : Type 0} {Test : List A → A → Type 0} where
  pub each_last : {past : List A} {x : A} → Each Test (x ∷ past) → Test past x
  each_last (passed h hs) = h

  pub each_rest : {past : List A} {x : A} → Each Test (x ∷ past) → Each Test past
  each_rest (passed h hs) = hs

  -- it was so before the last of them went by
  pub each_before : (past xs : List A) → Each Test (past ▸ xs) → Each Test past
  each_before past [] h = h
  each_before past (x ∷ xs) h = each_rest (each_before (x ∷ past) xs h)

module _ {A : Type 0} {Test Other : List A → A → Type 0} where
  pub each_map : ((past : List A) (x : A) → Test past x → Other past x)
      → {past : List A} → Each Test past → Each Other past
  each_map f none_yet = none_yet
  each_map f (passed {past} {x} h hs) = passed (f past x h) (each_map f hs)

  pub each_both : {past : List A} → Each Test past → Each Other past
      → Each (λ before x. Test before x × Other before x) past
  each_both none_yet k = none_yet
  each_both (passed h hs) k = passed (h, each_last k) (each_both hs (each_rest k))
