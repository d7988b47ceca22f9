-- The summary read from the shelf's head, and stored back there: what stood there stays, but for the fields that were altered. Assumes nothing.
use Prim.Native.Nat.{ℕ, ◌+◌, ◌-◌, ◌≤◌}
use mathlib.Core.Path.{◌≡◌, sym, ap, ap₂, ◌∙◌}
use mathlib.Core.List.{List, ◌++◌}
use native.Mathlib.Omega.{arith}
use lib.ListN.{length, take, drop, length-append, length-drop}
use lib.Seq.{sets, length-sets, length-take-le, take-add, drop-drop, take_all, take_at, drop_at, take-take}
use Rattle.numbers.specs.Numbers.{number_at, in_bytes, read_on}
use Rattle.numbers.proofs.Numbers.{Bytes, part_bytes, in_bytes_length, in_bytes_read}
use Rattle.numbers.proofs.Stores.{part_cut, part_behind}
use Rattle.shelves.specs.declared.Summary.{Summary}
use Rattle.shelves.specs.Layout.{Layout, map_of, held_figure, duplicates_of}
use Rattle.shelves.specs.Summary.{summary_of, put_copy, map_and_held, duplicates_in}
use Rattle.shelves.specs.Operations.{with_copy}
use Rattle.shelf_summary.specs.Steps.{summary_bytes, Heads, stored_back}
use Rattle.shelf_summary.proofs.Stores.{sets_append, sets_there}

-- ---- from the head

-- bytes that spell a number are the bytes of that number
spelled : (s : List ℕ) (at w : ℕ) → Bytes s → at + w ≤ length s → in_bytes w (number_at s at w) ≡ take w (drop at s)
unfolding number_at
spelled s at w bytes h =
    let part = take w (drop at s) in
    let e = length-take-le w (drop at s) (omega (arith, length-drop at s)) in
    ap (λ (n : ℕ). in_bytes n (read_on 0 part)) (sym e) ∙ in_bytes_read 0 part (part_bytes s at w bytes)

-- sixteen bytes from the map on
sixteen : (s : List ℕ) → take 16 (drop 5 s) ≡ take 8 (drop 5 s) ++ take 4 (drop 13 s) ++ take 4 (drop 17 s)
sixteen s =
    take-add 12 4 (drop 5 s)
    ∙ ap₂ (λ (a b : List ℕ). a ++ take 4 b) (take-add 8 4 (drop 5 s) ∙ ap (λ (b : List ℕ). take 8 (drop 5 s) ++ take 4 b) (drop-drop 8 5 s)) (drop-drop 12 5 s)

pub heads : (s : List ℕ) (u : Summary) → Bytes s → 21 ≤ length s → u ≡ summary_of s → Heads s u
unfolding summary_bytes summary_of map_of held_figure duplicates_of
heads s u bytes h e = (
  e,
  ap summary_bytes e
      ∙ ap₂ (λ (a b : List ℕ). a ++ b)
      (ap₂ (λ (a b : List ℕ). a ++ b) (spelled s 5 8 bytes (omega arith)) (spelled s 13 4 bytes (omega arith)))
      (spelled s 17 4 bytes (omega arith))
      ∙ sym (sixteen s),
)

-- ---- what is stored back

-- the map and the bytes held, and the duplicates behind them
abbrev front : Summary → List ℕ
front u = in_bytes 8 u.map ++ in_bytes 4 u.held

front_length : (u : Summary) → length (front u) ≡ 12
front_length u =
    omega (arith, length-append (in_bytes 8 u.map) (in_bytes 4 u.held), in_bytes_length 8 u.map, in_bytes_length 4 u.held)

two_stores : (s : List ℕ) (u : Summary) → stored_back s u ≡ sets (sets s 5 (front u)) 17 (in_bytes 4 u.duplicates)
unfolding stored_back summary_bytes
two_stores s u =
    sets_append (front u) (in_bytes 4 u.duplicates) s 5
    ∙ ap (λ (n : ℕ). sets (sets s 5 (front u)) (5 + n) (in_bytes 4 u.duplicates)) (front_length u)

-- the same, number by number
pub three_stores : (s : List ℕ) (u : Summary)
    → sets (sets (sets s 5 (in_bytes 8 u.map)) 13 (in_bytes 4 u.held)) 17 (in_bytes 4 u.duplicates) ≡ stored_back s u
three_stores s u =
    ap (λ (t : List ℕ). sets t 17 (in_bytes 4 u.duplicates))
    (sym (sets_append (in_bytes 8 u.map) (in_bytes 4 u.held) s 5
    ∙ ap (λ (n : ℕ). sets (sets s 5 (in_bytes 8 u.map)) (5 + n) (in_bytes 4 u.held)) (in_bytes_length 8 u.map)))
    ∙ sym (two_stores s u)

module _ (s : List ℕ) (u : Summary) (h : Heads s u) where
  -- the two parts as they stand in the shelf
  front_there : front u ≡ take 12 (drop 5 s)
  unfolding summary_bytes
  front_there =
      sym (take_at (front u) (in_bytes 4 u.duplicates) 12 (front_length u)) ∙ ap (take 12) h.1 ∙ take-take 12 16 (drop 5 s) (omega arith)

  duplicates_there : in_bytes 4 u.duplicates ≡ take 4 (drop 17 s)
  unfolding summary_bytes
  duplicates_there =
      sym (drop_at (front u) (in_bytes 4 u.duplicates) 12 (front_length u))
      ∙ ap (drop 12) h.1
      ∙ sym (part_cut 12 4 (drop 5 s))
      ∙ ap (take 4) (drop-drop 12 5 s)

  module _ (least : 21 ≤ length s) where
    front_again : sets s 5 (front u) ≡ s
    front_again = ap (sets s 5) front_there ∙ sets_there s 5 12 (omega arith)

    -- a summary that was not altered: the shelf stays
    pub back_same : stored_back s u ≡ s
    back_same =
        two_stores s u
        ∙ ap₂ (λ (t vs : List ℕ). sets t 17 vs) front_again duplicates_there
        ∙ sets_there s 17 4 (omega arith)

    -- a copy: only the duplicates are stored
    pub back_copy : (l : Layout) → 21 ≤ l.pairs → stored_back s (put_copy (summary_of s)) ≡ with_copy l s
    unfolding put_copy with_copy duplicates_in
    back_copy l sums =
        let v = put_copy (summary_of s) in
        two_stores s v
        ∙ ap (λ (t : List ℕ). sets t 17 (in_bytes 4 v.duplicates)) (ap (λ (w : Summary). sets s 5 (front w)) (sym h.0) ∙ front_again)
        ∙ ap (sets s 17) (sym (take_all (l.pairs - 17) (in_bytes 4 v.duplicates) (omega (arith, in_bytes_length 4 v.duplicates))))

  -- a text put or taken out: the duplicates stay, where the stores before it left them
  pub back_moved : (l : Layout) → 21 ≤ l.pairs → (t : List ℕ) (v : Summary) → 21 ≤ length t → take 4 (drop 17 t) ≡ take 4 (drop 17 s)
      → v.duplicates ≡ u.duplicates → stored_back t v ≡ sets t 5 (map_and_held l v)
  unfolding map_and_held
  back_moved l sums t v least same stays =
      let stored = sets t 5 (front v) in
      let there : in_bytes 4 v.duplicates ≡ take 4 (drop 17 stored) =
      ap (in_bytes 4) stays ∙ duplicates_there ∙ sym same ∙ sym (part_behind (front v) t 5 17 4 (omega (arith, front_length v))) in
      two_stores t v
      ∙ ap (sets stored 17) there
      ∙ sets_there stored 17 4 (omega (arith, length-sets t 5 (front v)))
      ∙ ap (sets t 5) (sym (take_all (l.pairs - 5) (front v) (omega (arith, front_length v))))
