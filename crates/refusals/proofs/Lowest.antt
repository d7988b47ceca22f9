-- What `lowest` answers: a refusal of the stage such that none is lower, whatever the order in which the stage lists them.
-- So a stage may be taken in parts, regrouped, and left at the first refusal where the places rise. Assumes nothing.
use Rattle.std.specs.Prelude.{if◌then◌else◌}
use Prim.Native.Nat.{◌≤◌, ◌<◌}
use mathlib.Core.Path.{◌≡◌, refl, sym, ap, subst, ◌∙◌}
use mathlib.Core.Bool.{Bool, true, false}
use mathlib.Core.List.Memᴰ
use mathlib.Core.List.{List, [], ◌∷◌, ◌++◌, Memᴰ}
use mathlib.Core.Option.{Option, none, some, none-ne-some, some-ne-none, some-injective}
use mathlib.Core.Logic.{◌⊎◌, inl, inr, ⊎_elim, ◌↔◌}
use native.Mathlib.Omega.{arith}
use Rattle.lists.specs.Lists.{gather}
use Rattle.refusals.specs.declared.Refusal.{Refusal}
use Rattle.refusals.specs.Refusals.{Stage, is_lower, lower_of, lowest, or_else}
use Rattle.refusals.proofs.Order.{key, key_tells, not_lower, key_least, farther, lower, key_lower}

-- r is met in the stage, and nothing lower is
pub record LowestOf (rs : Stage) (r : Refusal) : Type 0 where
  pub met : Memᴰ r rs
  pub least : (q : Refusal) → Memᴰ q rs → is_lower q r ≡ false

-- a refusal in front of others is the lowest of all, where none of them is lower
front_lowest : (r : Refusal) (rs : Stage) → ((q : Refusal) → Memᴰ q rs → is_lower q r ≡ false) → LowestOf (r ∷ rs) r
front_lowest r rs h =
    record { met = Memᴰ.head refl; least = λ q m. ⊎_elim (λ e. not_lower q r (omega (arith, ap key e))) (h q) (Memᴰ.cases_cons m) }

-- with a refusal in front, the lowest is the lower of it and the lowest of the rest
lowest_more : (r q : Refusal) (rs : Stage) → LowestOf rs q → LowestOf (r ∷ rs) (lower r q)
unfolding lower
lowest_more r q rs l = record { met = here (is_lower q r); least = λ p m. not_lower p (lower r q) (below p (Memᴰ.cases_cons m)) }
  where
    here : (b : Bool) → Memᴰ (if b then q else r) (r ∷ rs)
    here true = Memᴰ.tail l.met
    here false = Memᴰ.head refl

    below : (p : Refusal) → (p ≡ r) ⊎ Memᴰ p rs → key (lower r q) ≤ key p
    below p (inl e) = omega (arith, key_lower r q, ap key e)
    below p (inr m) = omega (arith, key_lower r q, key_least p q (l.least p m))

-- where anything is met, `lowest` answers the lowest
some_lowest : (r : Refusal) (rs : Stage) → (q : Refusal) × (lowest (r ∷ rs) ≡ some q) × LowestOf (r ∷ rs) q
unfolding lowest lower_of lower
some_lowest r [] = (r, refl, front_lowest r [] (λ q m. absurd (Memᴰ.not-nil m)))
some_lowest r (s ∷ rs) =
    let rest = some_lowest s rs in
    (lower r rest.0, ap (lower_of r) rest.1, lowest_more r rest.0 (s ∷ rs) rest.2)

-- it answers nothing exactly where nothing is met
pub lowest_none : (rs : Stage) → (lowest rs ≡ none) ↔ (rs ≡ [])
unfolding lowest
lowest_none [] = (λ e. refl, λ e. refl)
lowest_none (r ∷ rs) = (λ e. absurd (some-ne-none (some_lowest r rs).0 (sym (some_lowest r rs).1 ∙ e)), ap lowest)

-- what it answers is met in the stage, and nothing lower is
pub lowest_is : (rs : Stage) (r : Refusal) → lowest rs ≡ some r → LowestOf rs r
unfolding lowest
lowest_is [] r e = absurd (none-ne-some r e)
lowest_is (s ∷ rs) r e =
    let l = some_lowest s rs in
    subst (LowestOf (s ∷ rs)) (some-injective l.0 r (sym l.1 ∙ e)) l.2

-- and a refusal that is met, where nothing lower is, is what it answers
pub lowest_answers : (rs : Stage) (r : Refusal) → LowestOf rs r → lowest rs ≡ some r
lowest_answers [] r l = absurd (Memᴰ.not-nil l.met)
lowest_answers (s ∷ rs) r l =
    let (q, e, k) = some_lowest s rs in
    e ∙ ap some (key_tells q r (omega (arith, key_least q r (l.least q k.met), key_least r q (k.least r l.met))))

-- the lower of two answers
unfoldable pub merge : Option Refusal → Option Refusal → Option Refusal
merge none o = o
merge (some r) o = lower_of r o

pub merge_none : (o : Option Refusal) → merge o none ≡ o
unfolding merge lower_of
merge_none none = refl
merge_none (some r) = refl

pub merge_comm : (o p : Option Refusal) → merge o p ≡ merge p o
unfolding merge lower_of lower
merge_comm none p = sym (merge_none p)
merge_comm (some r) none = refl
merge_comm (some r) (some q) = ap some (key_tells (lower r q) (lower q r) (omega (arith, key_lower r q, key_lower q r)))

pub merge_assoc : (o p q : Option Refusal) → merge (merge o p) q ≡ merge o (merge p q)
unfolding merge lower_of lower
merge_assoc none p q = refl
merge_assoc (some r) none q = refl
merge_assoc (some r) (some s) none = refl
merge_assoc (some r) (some s) (some t) =
    ap some (key_tells (lower (lower r s) t) (lower r (lower s t))
    (omega (arith, key_lower (lower r s) t, key_lower r s, key_lower r (lower s t), key_lower s t)))

-- the lowest of two parts is the lower of their answers
pub lowest_append : (xs ys : Stage) → lowest (xs ++ ys) ≡ merge (lowest xs) (lowest ys)
unfolding lowest merge
lowest_append [] ys = refl
lowest_append (x ∷ xs) ys = ap (lower_of x) (lowest_append xs ys) ∙ sym (merge_assoc (some x) (lowest xs) (lowest ys))

-- two parts of each of two, regrouped
merge_regroup : (a b c d : Option Refusal) → merge (merge a b) (merge c d) ≡ merge (merge a c) (merge b d)
merge_regroup a b c d =
    cc (merge_assoc a b (merge c d), merge_assoc b c d, merge_comm b c, merge_assoc c b d, merge_assoc a c (merge b d))

module _ {A : Type 0} where
  -- what is gathered by two functions, one after the other, may be gathered together
  pub lowest_gather : (f g : A → Stage) (xs : List A) → lowest (gather f xs ++ gather g xs) ≡ lowest (gather (λ x. f x ++ g x) xs)
  unfolding gather
  lowest_gather f g [] = refl
  lowest_gather f g (x ∷ xs) =
      simp lowest_append (merge_regroup (lowest (f x)) (lowest (gather f xs)) (lowest (g x)) (lowest (gather g xs))
      ∙ ap (merge (merge (lowest (f x)) (lowest (g x)))) (sym (lowest_append (gather f xs) (gather g xs)) ∙ lowest_gather f g xs))

  -- and so of three
  pub lowest_gather_three : (f g h : A → Stage) (xs : List A)
      → lowest (gather f xs ++ gather g xs ++ gather h xs) ≡ lowest (gather (λ x. f x ++ g x ++ h x) xs)
  lowest_gather_three f g h xs =
      rw (lowest_append (gather f xs ++ gather g xs), lowest_gather f g xs, ← lowest_append, lowest_gather (λ x. f x ++ g x) h xs)

-- where nothing after it is lower, the first answers
pub lowest_first : (r : Refusal) (rs : Stage) → ((q : Refusal) → Memᴰ q rs → is_lower q r ≡ false) → lowest (r ∷ rs) ≡ some r
lowest_first r rs h = lowest_answers (r ∷ rs) r (front_lowest r rs h)

-- where all that follows is farther on, the first part answers
pub lowest_beyond : (xs ys : Stage) (r : Refusal) → lowest xs ≡ some r → ((q : Refusal) → Memᴰ q ys → r.place < q.place)
    → lowest (xs ++ ys) ≡ some r
unfolding lowest merge
lowest_beyond xs ys r e h =
    lowest_append xs ys ∙ ap (λ (o : Option Refusal). merge o (lowest ys)) e ∙ lowest_first r ys (λ q m. farther q r (h q m))

-- a stage whose second part lies beyond its first is left at the first part that refuses
pub lowest_rising : (xs ys : Stage) → ((r q : Refusal) → Memᴰ r xs → Memᴰ q ys → r.place < q.place)
    → lowest (xs ++ ys) ≡ or_else (lowest xs) (lowest ys)
unfolding or_else
lowest_rising xs ys h = step (lowest xs) refl
  where
    step : (o : Option Refusal) → lowest xs ≡ o → lowest (xs ++ ys) ≡ or_else o (lowest ys)
    step none e = ap (λ (l : Stage). lowest (l ++ ys)) ((lowest_none xs).0 e)
    step (some r) e = lowest_beyond xs ys r e (λ q m. h r q (lowest_is xs r e).met m)
