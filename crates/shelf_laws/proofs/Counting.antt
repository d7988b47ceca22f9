-- Sums of sums, and sums of ones and zeros. Assumes nothing.
use Rattle.std.specs.Prelude.{if◌then◌else◌}
use Prim.Native.Nat.{ℕ, zero, suc, ◌+◌, ◌-◌, ◌≤◌, ◌<◌, min}
use mathlib.Core.Path.{◌≡◌, refl, sym, ap, ◌∙◌}
use mathlib.Core.Bool.{Bool, true, false, ◌&&◌}
use mathlib.Core.Logic.{⊎_elim}
use native.Mathlib.Omega.{arith}
use lib.Dec.{eqb, leb, ltb}
use borrow.Author.Tests.{leb-true, leb-false, ltb-true, ltb-false, le-leb, lt-leb, lt-ltb, le-ltb}
use Rattle.lists.proofs.Texts.{decided}
use Rattle.lists.proofs.Tests.{says_eq, decides}
use Rattle.shelves.specs.Layout.{below, total}
use Rattle.shelves.proofs.Sums.{sum_below, sum_next, sum_same}

pub sum_nothing : (v : ℕ → ℕ) → sum_below 0 v ≡ 0
unfolding below total
sum_nothing v = refl

pub sum_zero : (v : ℕ → ℕ) (n : ℕ) → ((k : ℕ) → k < n → v k ≡ 0) → sum_below n v ≡ 0
sum_zero v zero h = sum_nothing v
sum_zero v (suc n) h = let ih = sum_zero v n (λ k i. h k (omega arith)) in omega (arith, sum_next n v, h n (omega arith))

pub sum_ones : (v : ℕ → ℕ) (n : ℕ) → ((k : ℕ) → k < n → v k ≡ 1) → sum_below n v ≡ n
sum_ones v zero h = sum_nothing v
sum_ones v (suc n) h = let ih = sum_ones v n (λ k i. h k (omega arith)) in omega (arith, sum_next n v, h n (omega arith))

sum_plus : (v w : ℕ → ℕ) (n : ℕ) → sum_below n (λ k. v k + w k) ≡ sum_below n v + sum_below n w
sum_plus v w zero = omega (arith, sum_nothing v, sum_nothing w, sum_nothing (λ k. v k + w k))
sum_plus v w (suc n) =
    let ih = sum_plus v w n in omega (arith, sum_next n v, sum_next n w, sum_next n (λ k. v k + w k))

-- it does not matter which of two is counted first
pub exchange : (f : ℕ → ℕ → ℕ) (n m : ℕ) → sum_below n (λ i. sum_below m (f i)) ≡ sum_below m (λ k. sum_below n (λ i. f i k))
exchange f zero m =
    sum_nothing (λ i. sum_below m (f i)) ∙ sym (sum_zero (λ k. sum_below 0 (λ i. f i k)) m (λ k h. sum_nothing (λ i. f i k)))
exchange f (suc n) m =
    let ih = exchange f n m in
    let last = sum_next n (λ i. sum_below m (f i)) in
    let each : sum_below m (λ k. sum_below (suc n) (λ i. f i k)) ≡ sum_below m (λ k. sum_below n (λ i. f i k) + f n k) =
    sum_same (λ k. sum_below (suc n) (λ i. f i k)) (λ k. sum_below n (λ i. f i k) + f n k) m (λ k h. sum_next n (λ i. f i k)) in
    last ∙ ap (λ (x : ℕ). x + sum_below m (f n)) ih ∙ sym (each ∙ sum_plus (λ k. sum_below n (λ i. f i k)) (f n) m)

-- ---- ones and zeros

module _ (v : ℕ → ℕ) where
  -- each of those below n is 1 or 0
  abbrev pub Flags : ℕ → Type 0
  Flags n = (k : ℕ) → k < n → v k ≤ 1

  -- where at most one is 1, they add up to at most 1
  pub at_most_one : (n : ℕ) → Flags n → ((j k : ℕ) → j < n → k < n → v j ≡ 1 → v k ≡ 1 → j ≡ k) → sum_below n v ≤ 1
  at_most_one zero f h = omega (arith, sum_nothing v)
  at_most_one (suc n) f h =
      ⊎_elim
      (λ (e : v n ≡ 1).
      let none : sum_below n v ≡ 0 =
      sum_zero v n (λ k i.
      ⊎_elim
      (λ (q : v k ≡ 1). absurd (let same : k ≡ n = h k n (omega arith) (omega arith) q e in omega arith))
      (λ (q : v k ≡ 1 → ⊥). let b = f k (omega arith) in omega arith)
      (decides (eqb (v k) 1) (says_eq (v k) 1))) in
      omega (arith, sum_next n v))
      (λ (e : v n ≡ 1 → ⊥).
      let ih = at_most_one n (λ k i. f k (omega arith)) (λ j k a b. h j k (omega arith) (omega arith)) in
      omega (arith, sum_next n v, f n (omega arith)))
      (decides (eqb (v n) 1) (says_eq (v n) 1))

  sum_most : (n : ℕ) → Flags n → sum_below n v ≤ n
  sum_most zero f = omega (arith, sum_nothing v)
  sum_most (suc n) f = let ih = sum_most n (λ k i. f k (omega arith)) in omega (arith, sum_next n v, f n (omega arith))

  -- where one is 0, they do not add up to as many as they are
  pub one_missing : (n i : ℕ) → Flags n → i < n → v i ≡ 0 → sum_below n v < n
  one_missing zero i f h e = absurd (omega arith)
  one_missing (suc n) i f h e =
      ⊎_elim
      (λ (q : i ≡ n). omega (arith, sum_next n v, ap v q, sum_most n (λ k j. f k (omega arith))))
      (λ (q : i ≡ n → ⊥).
      let ih = one_missing n i (λ k j. f k (omega arith)) (omega arith) e in
      omega (arith, sum_next n v, f n (omega arith)))
      (decides (eqb i n) (says_eq i n))

-- ---- how many numbers below n lie in a run

-- 1 for a number in the run of w numbers from a on
abbrev pub in_run : ℕ → ℕ → ℕ → ℕ
in_run a w i = if leb a i && ltb i (a + w) then 1 else 0

pub in_run_lem : (a w i : ℕ) → a ≤ i → i < a + w → in_run a w i ≡ 1
in_run_lem a w i h k = rw (le-leb a i h, lt-ltb i (a + w) k)

before_run : (a w i : ℕ) → i < a → in_run a w i ≡ 0
before_run a w i h = rw (lt-leb a i h)

behind_run : (a w i : ℕ) → a + w ≤ i → in_run a w i ≡ 0
behind_run a w i h = rw (le-ltb i (a + w) h) (nothing (leb a i))
  where
    nothing : (b : Bool) → ◌≡◌ {A = ℕ} (if b && false then 1 else 0) 0
    nothing true = refl
    nothing false = refl

run_count : (a w n : ℕ) → sum_below n (in_run a w) ≡ min n (a + w) - min n a
run_count a w zero = sum_nothing (in_run a w) ∙ omega arith
run_count a w (suc n) =
    let ih = run_count a w n in
    let next = sum_next n (in_run a w) in
    ⊎_elim
    (λ (p : leb a n ≡ true).
    let low = leb-true a n p in
    ⊎_elim
    (λ (q : ltb n (a + w) ≡ true). let high = ltb-true n (a + w) q in let one = in_run_lem a w n low high in omega arith)
    (λ (q : ltb n (a + w) ≡ false). let high = ltb-false n (a + w) q in let none = behind_run a w n high in omega arith)
    (decided (ltb n (a + w))))
    (λ (p : leb a n ≡ false). let low = leb-false a n p in let none = before_run a w n low in omega arith)
    (decided (leb a n))

-- all of a run that ends in time
pub run_whole : (a w n : ℕ) → a + w ≤ n → sum_below n (in_run a w) ≡ w
run_whole a w n h = omega (arith, run_count a w n)

-- what a 1 says
pub run_says : (a w i : ℕ) → in_run a w i ≡ 1 → (a ≤ i) × (i < a + w)
run_says a w i e =
    ⊎_elim
    (λ (p : leb a i ≡ true).
    ⊎_elim
    (λ (q : ltb i (a + w) ≡ true). (leb-true a i p, ltb-true i (a + w) q))
    (λ (q : ltb i (a + w) ≡ false). let none = behind_run a w i (ltb-false i (a + w) q) in absurd (omega arith))
    (decided (ltb i (a + w))))
    (λ (p : leb a i ≡ false). let none = before_run a w i (leb-false a i p) in absurd (omega arith))
    (decided (leb a i))

pub run_flag : (a w i : ℕ) → in_run a w i ≤ 1
run_flag a w i = step (leb a i && ltb i (a + w))
  where
    step : (b : Bool) → (if b then 1 else 0) ≤ 1
    step true = omega arith
    step false = omega arith
