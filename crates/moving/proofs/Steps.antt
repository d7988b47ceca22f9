-- One byte more that is copied, behind those that are or in front of them. Assumes nothing.
use Prim.Native.Nat.{ℕ, suc, ◌+◌, ◌≤◌, ◌<◌}
use mathlib.Core.Path.{◌≡◌, refl, sym, ap, ap₂, ◌∙◌}
use mathlib.Core.List.{List, [], ◌∷◌, ◌++◌}
use mathlib.Core.Logic.{◌⊎◌, inl, inr, ⊎_elim}
use native.Mathlib.Numerals.{add-one}
use native.Mathlib.Nat.{add-zero}
use native.Mathlib.Omega.{arith}
use lib.ListN.{length, take, drop, set, get_or, length-drop}
use lib.Seq.{sets, take-suc, drop-cons, get_or-take, get_or-drop, length-take-le, set_comm, sets-eq, paste}
use Rattle.numbers.proofs.Stores.{front_stays, rest_stays}
use Rattle.storing.proofs.Stores.{sets_append}

-- what stands beside a run of stores stays
beside_stays : (vs l : List ℕ) (i n : ℕ) → (n < i) ⊎ (i + length vs ≤ n) → get_or (sets l i vs) n 0 ≡ get_or l n 0
beside_stays vs l i n =
    ⊎_elim
    (λ (h : n < i).
    sym (get_or-take i (sets l i vs) n 0 h) ∙ ap (λ (r : List ℕ). get_or r n 0) (front_stays vs l i i (omega arith)) ∙ get_or-take i l n 0 h)
    (λ (h : i + length vs ≤ n).
    ap (λ (k : ℕ). get_or (sets l i vs) k 0) (sym (add-zero n))
    ∙ sym (get_or-drop n (sets l i vs) 0 0)
    ∙ ap (λ (r : List ℕ). get_or r 0 0) (rest_stays vs l i n h)
    ∙ get_or-drop n l 0 0
    ∙ ap (λ (k : ℕ). get_or l k 0) (add-zero n))

-- a byte stored in front of a run of stores may be stored first
set_before : (vs l : List ℕ) (i j b : ℕ) → j < i → set (sets l i vs) j b ≡ sets (set l j b) i vs
set_before [] l i j b h = refl
set_before (v ∷ vs) l i j b h =
    set_before vs (set l i v) (suc i) j b (omega arith)
    ∙ ap (λ (r : List ℕ). sets r (suc i) vs) (set_comm l i j v b (λ e. omega arith))

-- how many of the bytes are copied
pub part_length : (s : List ℕ) (from n : ℕ) → from + n ≤ length s → length (take n (drop from s)) ≡ n
part_length s from n h = length-take-le n (drop from s) (omega (arith, length-drop from s))

-- n bytes that stood from `from` on are copied to `to`: the law of both moves
module _ (s₀ s : List ℕ) (to from n : ℕ) (within : from + n ≤ length s₀) (e : s ≡ sets s₀ to (take n (drop from s₀))) where
  -- a byte beside their place was not stored over
  untouched : (j : ℕ) → (j < to) ⊎ (to + n ≤ j) → get_or s j 0 ≡ get_or s₀ j 0
  untouched j h =
      let size = part_length s₀ from n within in
      ap (λ (l : List ℕ). get_or l j 0) e
      ∙ beside_stays (take n (drop from s₀)) s₀ to j (⊎_elim (λ (i : j < to). inl i) (λ (i : to + n ≤ j). inr (omega arith)) h)

  -- one more behind them, on the way down
  pub one_behind : to ≤ from → from + n < length s₀ → set s (to + n) (get_or s (from + n) 0) ≡ sets s₀ to (take (n + 1) (drop from s₀))
  one_behind h k =
      let done = take n (drop from s₀) in
      let here : get_or s (from + n) 0 ≡ get_or (drop from s₀) n 0 = untouched (from + n) (inr (omega arith)) ∙ sym (get_or-drop from s₀ n 0) in
      ap₂ (λ (l : List ℕ) (b : ℕ). set l (to + n) b) e here
      ∙ ap (λ (m : ℕ). set (sets s₀ to done) (to + m) (get_or (drop from s₀) n 0)) (sym (part_length s₀ from n within))
      ∙ sym (sets_append s₀ to done (get_or (drop from s₀) n 0 ∷ []))
      ∙ ap (sets s₀ to) (sym (ap (λ (m : ℕ). take m (drop from s₀)) (add-one n) ∙ take-suc (drop from s₀) n 0 (omega (arith, length-drop from s₀))))

  -- one more in front of them, on the way up
  pub one_before : (lower first : ℕ) → lower + 1 ≡ to → first + 1 ≡ from → first ≤ lower → first < length s₀
      → set s lower (get_or s first 0) ≡ sets s₀ lower (take (n + 1) (drop first s₀))
  one_before lower first p q h k =
      let part = take n (drop from s₀) in
      let b = get_or s₀ first 0 in
      let next : to ≡ suc lower = omega arith in
      let rest : suc first ≡ from = omega arith in
      ap₂ (λ (l : List ℕ) (x : ℕ). set l lower x) e (untouched first (inl (omega arith)))
      ∙ set_before part s₀ to lower b (omega arith)
      ∙ ap (λ (i : ℕ). sets (set s₀ lower b) i part) next
      ∙ ap (λ (i : ℕ). sets s₀ lower (b ∷ take n (drop i s₀))) (sym rest)
      ∙ ap (λ (l : List ℕ). sets s₀ lower l) (sym (ap (λ (m : ℕ). take m (drop first s₀)) (add-one n) ∙ ap (take (suc n)) (drop-cons s₀ first 0 k)))

-- so many bytes pasted over others, as the library says of `copy_within`
pub copied : (s : List ℕ) (to from n : ℕ) → from + n ≤ length s → to + n ≤ length s → paste s to (drop from s) n ≡ sets s to (take n (drop from s))
copied s to from n h k =
    let size = part_length s from n h in
    sym (sets-eq (take n (drop from s)) s to (omega (arith, size))
    ∙ ap (λ (m : ℕ). take to s ++ take n (drop from s) ++ drop (to + m) s) size)

pub moved_then_zeroed : (s₀ s₁ s₂ : List ℕ) (to from n : ℕ) (zeros : List ℕ) → from + n ≤ length s₀ → s₁ ≡ sets s₀ to (take n (drop from s₀))
    → s₂ ≡ sets s₁ (to + n) zeros → s₂ ≡ sets s₀ to (take n (drop from s₀) ++ zeros)
moved_then_zeroed s₀ s₁ s₂ to from n zeros h e f =
    f
    ∙ ap₂ (λ (l : List ℕ) (k : ℕ). sets l (to + k) zeros) e (sym (part_length s₀ from n h))
    ∙ sym (sets_append s₀ to (take n (drop from s₀)) zeros)
