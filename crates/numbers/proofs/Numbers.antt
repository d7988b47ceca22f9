-- Big-endian numbers of any width: what bytes spell and what a number's bytes are, each from the other; how large a number is; what a run
-- of stores changes. Assumes nothing.
use Prim.Native.Nat.{ℕ, zero, suc, ◌+◌, ◌*◌, ◌/◌, ◌%◌, ◌^◌, ◌≤◌, ◌<◌}
use mathlib.Core.Path.{◌≡◌, refl, sym, ap, subst, ◌∙◌}
use mathlib.Core.List.{List, [], ◌∷◌, ◌++◌}
use native.Mathlib.Nat.{pow-suc, pow-zero, one-le-pow, div-add-mod', mod-lt, mod-eq_of_lt, mul-add-mod_self_right, div-eq_of_lt-le, div-div-eq-div-mul, mul-le-mul_right, mod-one}
use native.Mathlib.Omega.{arith}
use lib.ListN.{length, take, drop, get_or, length-append, length-take, length-drop, replicate}
use lib.Seq.{sets, length-take-le, get_or-take, get_or-drop}
use Rattle.numbers.specs.Numbers.{read_on, number_at, in_bytes}
use Rattle.numbers.proofs.Stores.{part_before, part_behind, part_within, part_stored}

-- ---- powers and remainders

pub power_positive : (w : ℕ) → 0 < 256 ^ w
power_positive w = one-le-pow w 256 (omega arith)

-- a number is known by how often a divisor goes into it and what is left
pub remainder_is : (q m r : ℕ) → r < m → (q * m + r) % m ≡ r
remainder_is q m r h = mul-add-mod_self_right q m r ∙ mod-eq_of_lt h

pub quotient_is : (q m r : ℕ) → r < m → (q * m + r) / m ≡ q
quotient_is q m r h = div-eq_of_lt-le m (omega arith) (omega arith)

-- the last digit in front of a remainder
remainder_step : (n m : ℕ) → 0 < m → n % (m * 256) ≡ n / 256 % m * 256 + n % 256
remainder_step n m h =
    let q = n / 256 in
    let e : n ≡ q / m * (m * 256) + (q % m * 256 + n % 256) = omega (arith, div-add-mod' n 256, ap (λ (k : ℕ). k * 256) (div-add-mod' q m)) in
    let below : q % m * 256 + n % 256 < m * 256 = omega (arith, mod-lt q h, mod-lt n {m = 256} (omega arith)) in
    ap (λ (k : ℕ). k % (m * 256)) e ∙ remainder_is (q / m) (m * 256) (q % m * 256 + n % 256) below

-- ---- what bytes spell

pub read_append : (n : ℕ) (xs ys : List ℕ) → read_on n (xs ++ ys) ≡ read_on (read_on n xs) ys
unfolding read_on
read_append n [] ys = refl
read_append n (x ∷ xs) ys = read_append (n * 256 + x) xs ys

-- what went before is worth a power of 256 for each byte that follows
pub read_after : (n : ℕ) (bs : List ℕ) → read_on n bs ≡ n * 256 ^ length bs + read_on 0 bs
unfolding read_on
read_after n [] = omega (arith, ap (λ (k : ℕ). n * k) (pow-zero 256))
read_after n (b ∷ bs) =
    let p = 256 ^ length bs in
    read_after (n * 256 + b) bs
    ∙ (let before : read_on (0 * 256 + b) bs ≡ (0 * 256 + b) * p + read_on 0 bs = read_after (0 * 256 + b) bs in
    omega (arith, before, ap (λ (k : ℕ). n * k) (pow-suc 256 (length bs))))

-- they are bytes
abbrev pub Bytes : List ℕ → Type 0
Bytes s = (j : ℕ) → j < length s → get_or s j 0 < 256

-- a part of bytes is bytes
pub part_bytes : (s : List ℕ) (at width : ℕ) → Bytes s → Bytes (take width (drop at s))
part_bytes s at width h j k =
    let within : j < width = omega (arith, length-take width (drop at s)) in
    subst (λ (b : ℕ). b < 256) (sym (get_or-take width (drop at s) j 0 within ∙ get_or-drop at s j 0))
    (h (at + j) (omega (arith, length-take width (drop at s), length-drop at s)))

-- a number of so many bytes is below that power of 256
pub read_below : (bs : List ℕ) → Bytes bs → read_on 0 bs < 256 ^ length bs
unfolding read_on
read_below [] h = omega (arith, pow-zero 256)
read_below (b ∷ bs) h =
    let p = 256 ^ length bs in
    let rest : read_on 0 bs < p = read_below bs (λ j k. h (suc j) (omega arith)) in
    let first : suc b * p ≤ 256 * p = mul-le-mul_right p (h 0 (omega arith)) in
    let e : read_on (0 * 256 + b) bs ≡ (0 * 256 + b) * p + read_on 0 bs = read_after (0 * 256 + b) bs in
    omega (arith, rest, first, e, pow-suc 256 (length bs))

pub number_below : (s : List ℕ) (at width : ℕ) → Bytes s → at + width ≤ length s → number_at s at width < 256 ^ width
unfolding number_at
number_below s at width h k =
    let e : length (take width (drop at s)) ≡ width = length-take-le width (drop at s) (omega (arith, length-drop at s)) in
    subst (λ (w : ℕ). read_on 0 (take width (drop at s)) < 256 ^ w) e (read_below (take width (drop at s)) (part_bytes s at width h))

-- ---- the bytes of a number

pub in_bytes_length : (width n : ℕ) → length (in_bytes width n) ≡ width
unfolding in_bytes
in_bytes_length zero n = refl
in_bytes_length (suc width) n =
    omega (arith, length-append (in_bytes width (n / 256)) (n % 256 ∷ []), in_bytes_length width (n / 256))

-- what the bytes of a number spell: the number, as far as so many bytes hold it
pub read_in_bytes : (m width n : ℕ) → read_on m (in_bytes width n) ≡ m * 256 ^ width + n % 256 ^ width
unfolding in_bytes read_on
read_in_bytes m zero n = omega (arith, ap (λ (k : ℕ). m * k) (pow-zero 256), ap (λ (k : ℕ). n % k) (pow-zero 256), mod-one n)
read_in_bytes m (suc width) n =
    let p = 256 ^ width in
    let e = pow-suc 256 width in
    read_append m (in_bytes width (n / 256)) (n % 256 ∷ [])
    ∙ omega (arith, read_in_bytes m width (n / 256), ap (λ (k : ℕ). m * k) e, ap (λ (k : ℕ). n % k) e, remainder_step n p (power_positive width))

pub read_back : (width n : ℕ) → n < 256 ^ width → read_on 0 (in_bytes width n) ≡ n
read_back width n h = read_in_bytes 0 width n ∙ omega (arith, mod-eq_of_lt h)

-- the first byte, and the others
in_bytes_front : (width n : ℕ) → in_bytes (suc width) n ≡ n / 256 ^ width % 256 ∷ in_bytes width n
unfolding in_bytes
in_bytes_front zero n = ap (λ (k : ℕ). k % 256 ∷ []) (omega (arith, ap (λ (k : ℕ). n / k) (pow-zero 256)))
in_bytes_front (suc width) n =
    ap (λ (l : List ℕ). l ++ n % 256 ∷ []) (in_bytes_front width (n / 256))
    ∙ ap (λ (k : ℕ). k % 256 ∷ (in_bytes width (n / 256) ++ n % 256 ∷ []))
    (div-div-eq-div-mul n 256 (256 ^ width) ∙ ap (λ (k : ℕ). n / k) (omega (arith, pow-suc 256 width)))

-- the bytes that spelled a number are the bytes of that number, whatever went before them
pub in_bytes_read : (n : ℕ) (bs : List ℕ) → Bytes bs → in_bytes (length bs) (read_on n bs) ≡ bs
unfolding in_bytes read_on
in_bytes_read n [] h = refl
in_bytes_read n (b ∷ bs) h =
    let p = 256 ^ length bs in
    let tail : Bytes bs = λ j k. h (suc j) (omega arith) in
    let high : read_on (n * 256 + b) bs / p ≡ n * 256 + b =
    ap (λ (k : ℕ). k / p) (read_after (n * 256 + b) bs) ∙ quotient_is (n * 256 + b) p (read_on 0 bs) (read_below bs tail) in
    let digit : read_on (n * 256 + b) bs / p % 256 ≡ b =
    ap (λ (k : ℕ). k % 256) high ∙ remainder_is n 256 b (h 0 (omega arith)) in
    in_bytes_front (length bs) (read_on (n * 256 + b) bs)
    ∙ ap (λ (k : ℕ). k ∷ in_bytes (length bs) (read_on (n * 256 + b) bs)) digit
    ∙ ap (λ (l : List ℕ). b ∷ l) (in_bytes_read (n * 256 + b) bs tail)

-- ---- numbers after a run of stores

module _ (s : List ℕ) (i : ℕ) (vs : List ℕ) where
  -- in front of it and behind it a number is what it was
  pub number_before : (at width : ℕ) → at + width ≤ i → number_at (sets s i vs) at width ≡ number_at s at width
  unfolding number_at
  number_before at width h = ap (read_on 0) (part_before vs s i at width h)

  pub number_behind : (at width : ℕ) → i + length vs ≤ at → number_at (sets s i vs) at width ≡ number_at s at width
  unfolding number_at
  number_behind at width h = ap (read_on 0) (part_behind vs s i at width h)

  -- in it, what was stored there spells it
  pub number_within : (n width : ℕ) → i + length vs ≤ length s → n + width ≤ length vs → number_at (sets s i vs) (i + n) width ≡ number_at vs n width
  unfolding number_at
  number_within n width h k = ap (read_on 0) (part_within vs s i n width h k)

-- a number that was stored is there, as far as so many bytes hold it
pub number_stored : (s : List ℕ) (i width n : ℕ) → i + width ≤ length s → number_at (sets s i (in_bytes width n)) i width ≡ n % 256 ^ width
unfolding number_at
number_stored s i width n h =
    let e = in_bytes_length width n in
    ap (read_on 0) (part_stored (in_bytes width n) s i width (omega arith) (sym e)) ∙ read_in_bytes 0 width n ∙ omega arith

-- ---- zeros

pub read_zeros : (n : ℕ) → read_on 0 (replicate n 0) ≡ 0
unfolding read_on
read_zeros zero = refl
read_zeros (suc n) = read_zeros n
