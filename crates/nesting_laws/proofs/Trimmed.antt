-- Trimming says what its words say: what is trimmed by those words is what `trim_end` and `trim` give, and nothing else.
-- Assumes nothing.
use Prim.Native.Nat.{ℕ, zero, suc}
use mathlib.Core.Path.{◌≡◌, refl, sym, ap, ap₂, subst, ◌∙◌}
use mathlib.Core.Bool.{Bool, true, false, not}
use mathlib.Core.List.{List, [], ◌∷◌, ◌++◌, map}
use borrow.Author.Tests.{not-true}
use Rattle.lists.specs.Lists.{all, last_or, unless_idle, drop_end, trim_end}
use Rattle.lists.proofs.Texts.{and_left, and_right}
use Rattle.nesting.specs.Nesting.{Nest, idle, trim}
use Rattle.nesting_laws.specs.Trimmed.{ends_firmly, Shortened, Trimmed, nothing, past_first, Each, TrimmedNest}
use Rattle.nesting_laws.proofs.Shape.{trim_step}

module _ {A : Type 0} (t : A → Bool) where
  -- ---- what is left of a list without its idle end

  -- one more in front of what is left of the rest
  shortened_next : (x : A) (b : Bool) → t x ≡ b → {whole left : List A} → Shortened t whole left
      → Shortened t (x ∷ whole) (unless_idle b x left)
  unfolding unless_idle ends_firmly all last_or
  shortened_next x true e {whole} {left = []} s =
      record { gone = x ∷ whole; parts = refl; idle = rw (e, s.parts) s.idle; firm = refl }
  shortened_next x true e {left = y ∷ ys} s =
      record { gone = s.gone; parts = ap (λ (l : List A). x ∷ l) s.parts; idle = s.idle; firm = s.firm }
  shortened_next x false e {left = []} s =
      record { gone = s.gone; parts = ap (λ (l : List A). x ∷ l) s.parts; idle = s.idle; firm = ap not e }
  shortened_next x false e {left = y ∷ ys} s =
      record { gone = s.gone; parts = ap (λ (l : List A). x ∷ l) s.parts; idle = s.idle; firm = s.firm }

  pub drop_end_shortened : (xs : List A) → Shortened t xs (drop_end t xs)
  unfolding drop_end all ends_firmly
  drop_end_shortened [] = record { gone = []; parts = refl; idle = refl; firm = refl }
  drop_end_shortened (x ∷ xs) = shortened_next x (t x) refl (drop_end_shortened xs)

  -- of an idle end nothing is left
  pub drop_end_more : (xs gone : List A) → all t gone ≡ true → drop_end t (xs ++ gone) ≡ drop_end t xs
  unfolding drop_end unless_idle all
  drop_end_more [] [] h = refl
  drop_end_more [] (y ∷ gone) h =
      ap₂ (λ (b : Bool) (l : List A). unless_idle b y l)
      (and_left (t y) (all t gone) h)
      (drop_end_more [] gone (and_right (t y) (all t gone) h))
  drop_end_more (x ∷ xs) gone h = ap (unless_idle (t x) x) (drop_end_more xs gone h)

  -- nothing goes of a list that has no idle end
  drop_end_firm : (xs : List A) → ends_firmly t xs ≡ true → drop_end t xs ≡ xs
  unfolding drop_end unless_idle ends_firmly last_or
  drop_end_firm [] h = refl
  drop_end_firm (x ∷ []) h = ap (λ (b : Bool). unless_idle b x []) (not-true (t x) h)
  drop_end_firm (x ∷ y ∷ ys) h = ap (unless_idle (t x) x) (drop_end_firm (y ∷ ys) h) ∙ step (t x)
    where
      step : (b : Bool) → unless_idle b x (y ∷ ys) ≡ x ∷ y ∷ ys
      step true = refl
      step false = refl

  pub shortened_only : {xs ys : List A} → Shortened t xs ys → drop_end t xs ≡ ys
  shortened_only {xs} {ys} s = ap (drop_end t) s.parts ∙ drop_end_more ys s.gone s.idle ∙ drop_end_firm ys s.firm

  -- ---- the same where the first always stays

  pub trim_end_trimmed : (xs : List A) → Trimmed t xs (trim_end t xs)
  unfolding trim_end
  trim_end_trimmed [] = nothing
  trim_end_trimmed (x ∷ xs) = past_first x (drop_end_shortened xs)

  pub trimmed_only : {xs ys : List A} → Trimmed t xs ys → trim_end t xs ≡ ys
  unfolding trim_end
  trimmed_only nothing = refl
  trimmed_only (past_first x s) = ap (λ (l : List A). x ∷ l) (shortened_only s)

-- ---- the same of each

module _ {A B : Type 0} {R : A → B → Type 0} (f : A → B) where
  pub each_map : ((x : A) → R x (f x)) → (xs : List A) → Each R xs (map f xs)
  each_map h [] = Each.nothing
  each_map h (x ∷ xs) = Each.next (h x) (each_map h xs)

  pub each_only : ((x : A) (y : B) → R x y → f x ≡ y) → {xs : List A} {ys : List B} → Each R xs ys → map f xs ≡ ys
  each_only h Each.nothing = refl
  each_only h (Each.next {x} {y} r rs) = ap₂ ◌∷◌ (h x y r) (each_only h rs)

-- ---- at every depth

module _ (A : Type 0) (is_blank : A → Bool) where
  pub trim_trimmed : (n : ℕ) (x : Nest A n) → TrimmedNest A is_blank n x (trim A is_blank n x)
  trim_trimmed zero v = refl
  trim_trimmed (suc n) xs =
      let parts : List (Nest A n) = map (trim A is_blank n) xs in (
        parts,
        each_map (trim A is_blank n) (trim_trimmed n) xs,
        subst (Trimmed (idle A is_blank n) parts) (sym (trim_step A is_blank n xs)) (trim_end_trimmed (idle A is_blank n) parts),
      )

  pub trim_only : (n : ℕ) (x y : Nest A n) → TrimmedNest A is_blank n x y → trim A is_blank n x ≡ y
  trim_only zero v w h = h
  trim_only (suc n) xs ys h =
      trim_step A is_blank n xs
      ∙ ap (trim_end (idle A is_blank n)) (each_only (trim A is_blank n) (trim_only n) h.1)
      ∙ trimmed_only (idle A is_blank n) h.2
