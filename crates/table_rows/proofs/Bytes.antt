-- The bytes of an entry, each where it stands. Assumes nothing.
use Prim.Native.Nat.{ℕ, suc, ◌+◌, ◌*◌, ◌≤◌, ◌<◌}
use mathlib.Core.Path.{◌≡◌, sym, ap, ◌∙◌}
use mathlib.Core.List.{List, [], ◌∷◌}
use native.Mathlib.Omega.{arith}
use lib.ListN.{length, take, drop, get_or}
use lib.Seq.{drop-cons}
use Rattle.message_tables.specs.Entries.{whole_entries}
use Rattle.numbers.specs.Numbers.{read_on, number_at}

-- the bytes of an entry stand in the table
pub whole_bytes : (table : List ℕ) (n : ℕ) → n < whole_entries table → n * 8 + 8 ≤ length table
unfolding whole_entries
whole_bytes table n h = omega arith

-- three bytes of a list
pub three_at : (s : List ℕ) (at : ℕ) → at + 3 ≤ length s
    → take 3 (drop at s) ≡ get_or s at 0 ∷ get_or s (at + 1) 0 ∷ get_or s (at + 2) 0 ∷ []
three_at s at h =
    let one : suc at ≡ at + 1 = omega arith in
    let two : suc (at + 1) ≡ at + 2 = omega arith in
    ap (take 3) (drop-cons s at 0 (omega arith))
    ∙ ap (λ (k : ℕ). get_or s at 0 ∷ take 2 (drop k s)) one
    ∙ ap (λ (l : List ℕ). get_or s at 0 ∷ take 2 l) (drop-cons s (at + 1) 0 (omega arith))
    ∙ ap (λ (k : ℕ). get_or s at 0 ∷ get_or s (at + 1) 0 ∷ take 1 (drop k s)) two
    ∙ ap (λ (l : List ℕ). get_or s at 0 ∷ get_or s (at + 1) 0 ∷ take 1 l) (drop-cons s (at + 2) 0 (omega arith))

-- a number of one byte
pub one_at : (s : List ℕ) (at : ℕ) → at < length s → get_or s at 0 ≡ number_at s at 1
unfolding number_at read_on
one_at s at h = omega arith ∙ sym (ap (λ (l : List ℕ). read_on 0 (take 1 l)) (drop-cons s at 0 h))
