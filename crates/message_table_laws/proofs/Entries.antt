-- The entry of a number, where its bytes stand in the table. Assumes nothing.
use Prim.Native.Nat.{ℕ, zero, suc, ◌+◌, ◌*◌, ◌-◌, ◌≤◌, ◌<◌}
use mathlib.Core.Path.{◌≡◌, refl, sym, ap, ◌∙◌}
use mathlib.Core.List.{List, ◌∷◌}
use native.Mathlib.Omega.{arith}
use lib.ListN.{take, drop}
use lib.Seq.{drop-drop}
use Rattle.numbers.specs.Numbers.{read_on, number_at}
use Rattle.message_tables.specs.Entries.{Entry, entry_of, entries_in, whole_entries, entries_of}

-- a number of a part of the bytes, in the whole
pub number_in : (table : List ℕ) (from at width : ℕ) → number_at (drop from table) at width ≡ number_at table (from + at) width
unfolding number_at
number_in table from at width = ap (λ (s : List ℕ). read_on 0 (take width s)) (drop-drop at from table)

-- the entries from a number on
entries_drop : (n m : ℕ) (table : List ℕ) → drop n (entries_in (n + m) table) ≡ entries_in m (drop (n * 8) table)
unfolding entries_in
entries_drop zero m table =
    let count : 0 + m ≡ m = omega arith in
    ap (λ (k : ℕ). entries_in k table) count
entries_drop (suc n) m table =
    let count : suc n + m ≡ suc (n + m) = omega arith in
    let place : 8 + n * 8 ≡ suc n * 8 = omega arith in
    ap (λ (k : ℕ). drop (suc n) (entries_in k table)) count
    ∙ entries_drop n m (drop 8 table)
    ∙ ap (entries_in m) (drop-drop (n * 8) 8 table ∙ ap (λ (k : ℕ). drop k table) place)

pub entries_from : (table : List ℕ) (n : ℕ) → n ≤ whole_entries table
    → drop n (entries_of table) ≡ entries_in (whole_entries table - n) (drop (n * 8) table)
unfolding entries_of
entries_from table n h =
    let parts : whole_entries table ≡ n + (whole_entries table - n) = omega arith in
    ap (λ (k : ℕ). drop n (entries_in k table)) parts ∙ entries_drop n (whole_entries table - n) table

-- the entry of a number, and those behind it
pub entry_at_lem : (table : List ℕ) (n : ℕ) → n < whole_entries table
    → drop n (entries_of table) ≡ entry_of (drop (n * 8) table) ∷ drop (suc n) (entries_of table)
unfolding entries_in
entry_at_lem table n h =
    let more : whole_entries table - n ≡ suc (whole_entries table - suc n) = omega arith in
    let place : n * 8 + 8 ≡ suc n * 8 = omega arith in
    let rest : entries_in (whole_entries table - suc n) (drop 8 (drop (n * 8) table)) ≡ drop (suc n) (entries_of table) =
    ap (entries_in (whole_entries table - suc n)) (drop-drop 8 (n * 8) table ∙ ap (λ (k : ℕ). drop k table) place)
    ∙ sym (entries_from table (suc n) h) in
    entries_from table n (omega arith)
    ∙ ap (λ (k : ℕ). entries_in k (drop (n * 8) table)) more
    ∙ ap (λ (es : List Entry). entry_of (drop (n * 8) table) ∷ es) rest

-- its parts, each where it stands
pub entry_parts : (table : List ℕ) (n : ℕ)
    → ((entry_of (drop (n * 8) table)).tag ≡ take 3 (drop (n * 8) table))
    × ((entry_of (drop (n * 8) table)).status ≡ number_at table (n * 8 + 3) 1)
    × ((entry_of (drop (n * 8) table)).repeats ≡ number_at table (n * 8 + 4) 2)
    × ((entry_of (drop (n * 8) table)).under ≡ number_at table (n * 8 + 6) 2)
unfolding entry_of
entry_parts table n =
    (refl, number_in table (n * 8) 3 1, number_in table (n * 8) 4 2, number_in table (n * 8) 6 2)
