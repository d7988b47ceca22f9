-- A mask's bits by its runs of equal ones: one law for every mask. Assumes nothing.
use Rattle.std.specs.Prelude.{if◌then◌else◌}
use Rattle.std.proofs.Common.{◌≡◌, ℕ, ◌+◌, ◌-◌, ◌*◌, ◌/◌, ◌%◌, ◌^◌, ◌<◌, ◌≤◌, Bool, true, false, not, eqb, ltb, ◌⊎◌, List, [], ◌∷◌, sym, refl, ap, ◌∙◌, subst, inl, inr, ⊎_elim, add_assoc, not-le_of_lt, arith, pow_pos, shr-shr}
use mathlib.Core.Bool.{false≢true}
use native.Mathlib.Nat.{div-eq_of_lt}
use lib.Pow.{high, low, field, mod-mod-pow, ones_lt, ones_split}
use Rattle.lists.proofs.Tests.{Says, says_lt, decides}
use Rattle.level_classes.specs.Masks.{bit_set}

-- n bits, all set or all clear
abbrev run : Bool → ℕ → ℕ
run set n = if set then 2 ^ n - 1 else 0

-- a mask by the lengths of its runs from the lowest bit on, which are set and clear by turns
abbrev pub masked : Bool → List ℕ → ℕ
masked set [] = 0
masked set (n ∷ ns) = masked (not set) ns * 2 ^ n + run set n

-- the bit at b is in one of the runs that are set, where the first run begins at `from`
abbrev pub InRuns : Bool → ℕ → List ℕ → ℕ → Type 0
InRuns set from [] b = ⊥
InRuns true from (n ∷ ns) b = (b < from + n) ⊎ InRuns false (from + n) ns b
InRuns false from (n ∷ ns) b = (from + n ≤ b) × InRuns true (from + n) ns b

run_lt : (set : Bool) (n : ℕ) → run set n < 2 ^ n
run_lt true n = ones_lt n
run_lt false n = pow_pos n

-- a bit above the lowest n is one of the rest,
bit_above : (rest n lo j : ℕ) → lo < 2 ^ n → bit_set (rest * 2 ^ n + lo) (n + j) ≡ bit_set rest j
unfolding bit_set
bit_above rest n lo j h =
    ap (λ (x : ℕ). eqb (x % 2) 1) (sym (shr-shr (rest * 2 ^ n + lo) n j) ∙ ap (λ (x : ℕ). x / 2 ^ j) (high rest n h))

-- and one of the lowest n is theirs
bit_below : (rest k j lo : ℕ) → lo < 2 ^ (j + (1 + k)) → bit_set (rest * 2 ^ (j + (1 + k)) + lo) k ≡ bit_set lo k
unfolding bit_set
bit_below rest k j lo h =
    ap (λ (x : ℕ). eqb x 1)
    (sym (field (rest * 2 ^ (j + (1 + k)) + lo) 1 k)
    ∙ ap (λ (x : ℕ). x / 2 ^ k) (sym (mod-mod-pow (rest * 2 ^ (j + (1 + k)) + lo) j (1 + k)) ∙ ap (λ (x : ℕ). x % 2 ^ (1 + k)) (low rest (j + (1 + k)) h))
    ∙ field lo 1 k)

-- each bit of a run is what the run is
bit_of_run : (set : Bool) (j k : ℕ) → bit_set (run set (j + (1 + k))) k ≡ set
unfolding bit_set
bit_of_run true j k =
    ap (λ (m : ℕ). eqb ((2 ^ m - 1) / 2 ^ k % 2) 1) (sym (add_assoc j 1 k))
    ∙ ap (λ (x : ℕ). eqb (x / 2 ^ k % 2) 1) (ones_split (j + 1) k)
    ∙ ap (λ (x : ℕ). eqb (x % 2) 1) (high (2 ^ (j + 1) - 1) k (ones_lt k) ∙ ones_split j 1)
    ∙ ap (λ (x : ℕ). eqb x 1) (low (2 ^ j - 1) 1 (ones_lt 1))
bit_of_run false j k = ap (λ (x : ℕ). eqb (x % 2) 1) (div-eq_of_lt (pow_pos k))

module _ (set : Bool) (from n : ℕ) (ns : List ℕ) (b : ℕ) (h : from ≤ b) where
  -- a bit of the first run
  in_first : b < from + n → bit_set (masked set (n ∷ ns)) (b - from) ≡ set
  in_first l =
      let k = b - from in
      let j = n - (1 + k) in
      subst (λ (m : ℕ). bit_set (masked (not set) ns * 2 ^ m + run set m) k ≡ set) (omega arith)
      (bit_below (masked (not set) ns) k j (run set (j + (1 + k))) (run_lt set (j + (1 + k))) ∙ bit_of_run set j k)

  -- a bit behind it
  behind_first : from + n ≤ b → bit_set (masked set (n ∷ ns)) (b - from) ≡ bit_set (masked (not set) ns) (b - (from + n))
  behind_first l =
      ap (bit_set (masked set (n ∷ ns))) (omega arith) ∙ bit_above (masked (not set) ns) n (run set n) (b - (from + n)) (run_lt set n)

-- what a bit says, told by one that is equal to it
told_by : {P : Type 0} (t u : Bool) → t ≡ u → Says u P → Says t P
told_by t u e s = (λ h. s.0 (sym e ∙ h), λ p. e ∙ s.1 p)

in_run_lem : (set : Bool) (from n : ℕ) (ns : List ℕ) (b : ℕ) → b < from + n → Says set (InRuns set from (n ∷ ns) b)
in_run_lem true from n ns b l = (λ e. inl l, λ p. refl)
in_run_lem false from n ns b l = (λ e. absurd (false≢true e), λ p. absurd (not-le_of_lt l p.0))

behind_run : (set : Bool) (from n : ℕ) (ns : List ℕ) (b : ℕ) → from + n ≤ b → {t : Bool} → Says t (InRuns (not set) (from + n) ns b)
    → Says t (InRuns set from (n ∷ ns) b)
behind_run true from n ns b l s = (λ e. inr (s.0 e), ⊎_elim (λ p. absurd (not-le_of_lt p l)) s.1)
behind_run false from n ns b l s = (λ e. (l, s.0 e), λ p. s.1 p.1)

-- a mask's bit is set exactly where it stands in one of the runs that are set
pub bits_say : (set : Bool) (from : ℕ) (ns : List ℕ) (b : ℕ) → from ≤ b → Says (bit_set (masked set ns) (b - from)) (InRuns set from ns b)
bits_say set from [] b h = (λ e. absurd (false≢true (sym (bit_of_run false 0 (b - from)) ∙ e)), λ e. absurd e)
bits_say set from (n ∷ ns) b h =
    ⊎_elim
    (λ (l : b < from + n). told_by _ set (in_first set from n ns b h l) (in_run_lem set from n ns b l))
    (λ (l : b < from + n → ⊥). let k : from + n ≤ b = omega arith in told_by _ _ (behind_first set from n ns b h k) (behind_run set from n ns b k (bits_say (not set) (from + n) ns b k)))
    (decides (ltb b (from + n)) (says_lt b (from + n)))
