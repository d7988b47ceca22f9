-- One byte more of a number that is read, and one of a number that is stored. Assumes nothing.
use Prim.Native.Nat.{ℕ, zero, suc, ◌+◌, ◌-◌, ◌*◌, ◌/◌, ◌%◌, ◌^◌, ◌≤◌, ◌<◌}
use mathlib.Core.Path.{◌≡◌, refl, sym, ap, ◌∙◌}
use mathlib.Core.List.{List, [], ◌∷◌, ◌++◌}
use native.Mathlib.Numerals.{add-one}
use native.Mathlib.Nat.{pow-suc, pow-le-pow_right}
use native.Mathlib.Omega.{arith}
use lib.ListN.{length, take, drop, set, get_or, length-drop, drop_of_length-le}
use lib.Seq.{sets, drop-cons, set_comm, get_or-take, get_or-drop, length-take-le}
use Rattle.numbers.specs.Numbers.{read_on, number_at, in_bytes}
use Rattle.numbers.proofs.Numbers.{in_bytes_length}

-- ---- read

-- nothing is read yet
pub none_read : (s : List ℕ) (at width part : ℕ) → part ≡ width → number_at s at width ≡ read_on 0 (take part (drop at s))
unfolding number_at
none_read s at width part e = ap (λ (n : ℕ). read_on 0 (take n (drop at s))) (sym e)

-- the bytes that are read: how many there are, and one of them
pub part_length : (s : List ℕ) (at width part : ℕ) → part ≡ width → at + width ≤ length s → length (take part (drop at s)) ≡ width
part_length s at width part e h = length-take-le part (drop at s) (omega (arith, length-drop at s)) ∙ e

pub part_byte : (s : List ℕ) (at part i : ℕ) → i < part → get_or (take part (drop at s)) i 0 ≡ get_or s (at + i) 0
part_byte s at part i h = get_or-take part (drop at s) i 0 h ∙ get_or-drop at s i 0

-- one byte is read, and the others are left
pub one_read : (bytes : List ℕ) (i n : ℕ) → i < length bytes → read_on n (drop i bytes) ≡ read_on (n * 256 + get_or bytes i 0) (drop (i + 1) bytes)
unfolding read_on
one_read bytes i n h =
    ap (read_on n) (drop-cons bytes i 0 h)
    ∙ ap (λ (m : ℕ). read_on (n * 256 + get_or bytes i 0) (drop m bytes)) (sym (add-one i))

pub all_read : (bytes : List ℕ) (i n : ℕ) → length bytes ≤ i → read_on n (drop i bytes) ≡ n
unfolding read_on
all_read bytes i n h = ap (read_on n) (drop_of_length-le bytes h)

-- one byte more, and how large a number can be then
pub digit_more : (n b i : ℕ) → n < 256 ^ i → b < 256 → n * 256 + b < 256 ^ (i + 1)
digit_more n b i h k = omega (arith, pow-suc 256 i, ap (λ (k : ℕ). 256 ^ k) (add-one i))

pub digit_room : (n i : ℕ) → n < 256 ^ i → i < 8 → n < 72057594037927936
digit_room n i h k = let e : 256 ^ i ≤ 256 ^ 7 = pow-le-pow_right (omega arith) {i = i} {j = 7} (omega arith) in omega arith

-- ---- stored

-- a store beyond a run of stores comes before it as well
pub set_sets : (vs s : List ℕ) (i j x : ℕ) → i + length vs ≤ j → set (sets s i vs) j x ≡ sets (set s j x) i vs
set_sets [] s i j x h = refl
set_sets (v ∷ vs) s i j x h =
    set_sets vs (set s i v) (suc i) j x (omega arith) ∙ ap (λ (l : List ℕ). sets l (suc i) vs) (set_comm s i j v x (λ e. omega arith))

sets_last : (vs s : List ℕ) (i x : ℕ) → sets s i (vs ++ x ∷ []) ≡ set (sets s i vs) (i + length vs) x
sets_last [] s i x = ap (λ (k : ℕ). set s k x) (omega arith)
sets_last (v ∷ vs) s i x = sets_last vs (set s i v) (suc i) x ∙ ap (λ (k : ℕ). set (sets (set s i v) (suc i) vs) k x) (omega arith)

pub one_stored : (s : List ℕ) (at left n : ℕ) → 0 < left
    → sets s at (in_bytes left n) ≡ sets (set s (at + (left - 1)) (n % 256)) at (in_bytes (left - 1) (n / 256))
unfolding in_bytes
one_stored s at zero n h = absurd (omega arith)
one_stored s at (suc left) n h =
    let bytes = in_bytes left (n / 256) in
    let size = in_bytes_length left (n / 256) in
    sets_last bytes s at (n % 256)
    ∙ ap (λ (k : ℕ). set (sets s at bytes) (at + k) (n % 256)) size
    ∙ set_sets bytes s at (at + left) (n % 256) (omega arith)
    ∙ ap (λ (k : ℕ). sets (set s (at + k) (n % 256)) at (in_bytes k (n / 256))) back
  where
    back : left ≡ suc left - 1
    back = omega arith
