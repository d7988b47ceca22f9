-- Nested lists that differ by empty ends alone. Assumes nothing.
use Rattle.std.specs.Prelude.{ℕ, zero, suc, List, [], ◌∷◌, ◌++◌, ◌⊎◌}
use Rattle.nesting.specs.Nesting.{Nest}

module _ {A : Type 0} where
  -- one `idle` more at the end of a list in which something stands
  pub data OneMore (idle : A) : List A → List A → Type 0 where
    one_more : (x : A) (xs : List A) → OneMore idle (x ∷ xs) (x ∷ (xs ++ idle ∷ []))

  module _ (R : A → A → Type 0) where
    -- one of them is changed as R allows, and nothing else
    pub data OneChanged : List A → List A → Type 0 where
      here : {x y : A} {xs : List A} → R x y → OneChanged (x ∷ xs) (y ∷ xs)
      there : {x : A} {xs ys : List A} → OneChanged xs ys → OneChanged (x ∷ xs) (x ∷ ys)

    -- the one comes from the other by steps of R, made or taken back
    pub data Linked : A → A → Type 0 where
      step : {x y : A} → R x y → Linked x y
      same : {x : A} → Linked x x
      back : {x y : A} → Linked x y → Linked y x
      onward : {x y z : A} → Linked x y → Linked y z → Linked x z

module _ {A : Type 0} (empty : A) where
  -- the part in which nothing but an empty value stands
  abbrev pub hollow : (n : ℕ) → Nest A n
  hollow zero = empty
  hollow (suc n) = hollow n ∷ []

  -- one empty end more: at its own end, or at that of a part in it
  abbrev pub MoreEnd : (n : ℕ) → Nest A n → Nest A n → Type 0
  MoreEnd zero part more = ⊥
  MoreEnd (suc n) part more = OneMore (hollow n) part more ⊎ OneChanged (MoreEnd n) part more
