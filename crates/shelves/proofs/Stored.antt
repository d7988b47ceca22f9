-- Put and Remove store three times: texts from a place in the room of the texts, pairs within the room of the pairs, and the map with the
-- text bytes held. What then stands where. Assumes nothing.
use Prim.Native.Nat.{ℕ, ◌+◌, ◌-◌, ◌%◌, ◌^◌, ◌≤◌, ◌<◌}
use mathlib.Core.Path.{◌≡◌, refl, sym, ap, ◌∙◌}
use mathlib.Core.Bool.{Bool, ◌&&◌}
use mathlib.Core.List.{List, [], ◌∷◌, ◌++◌}
use mathlib.Core.Logic.{◌⊎◌, ⊎_elim}
use native.Mathlib.Omega.{arith}
use lib.Dec.{eqb}
use lib.ListN.{length, take, drop, length-append, length-take}
use lib.Seq.{sets, length-sets, take_at, drop_at, take_all, take-take}
use Rattle.lists.specs.Lists.{text, begins}
use Rattle.numbers.specs.Numbers.{number_at, in_bytes, read_on}
use Rattle.numbers.proofs.Stores.{part_cut, front_stays, rest_stays}
use Rattle.numbers.proofs.Numbers.{in_bytes_length, read_in_bytes, read_back, number_before, number_behind, number_within}
use Rattle.shelves.specs.declared.Summary.{Summary}
use Rattle.shelves.specs.Layout.{Layout, map_place, map_of, held_figure, duplicates_of, bit, is_occupied, base, heading}
use Rattle.shelves.specs.Summary.{map_and_held}
use Rattle.shelves.specs.Operations.{pair_of}
use Rattle.shelves.proofs.Bits.{bit_remainder}

-- ---- one pair

pub pair_length : (start size : ℕ) → length (pair_of start size) ≡ 8
unfolding pair_of
pair_length start size =
    omega (arith, length-append (in_bytes 4 start) (in_bytes 4 size), in_bytes_length 4 start, in_bytes_length 4 size)

pub pair_start : (start size : ℕ) → start < 2 ^ 32 → number_at (pair_of start size) 0 4 ≡ start
unfolding number_at pair_of
pair_start start size h =
    ap (read_on 0) (take_at (in_bytes 4 start) (in_bytes 4 size) 4 (in_bytes_length 4 start)) ∙ read_back 4 start h

pub pair_size : (start size : ℕ) → size < 2 ^ 32 → number_at (pair_of start size) 4 4 ≡ size
unfolding number_at pair_of
pair_size start size h =
    ap (λ (l : List ℕ). read_on 0 (take 4 l)) (drop_at (in_bytes 4 start) (in_bytes 4 size) 4 (in_bytes_length 4 start))
    ∙ ap (read_on 0) (take_all 4 (in_bytes 4 size) (omega (arith, in_bytes_length 4 size)))
    ∙ read_back 4 size h

-- ---- the map and the text bytes held

module _ (l : Layout) (head : 13 ≤ l.pairs) (u : Summary) where
  -- the whole of it, of which a layout without the sums has the first eight bytes
  abbrev whole : List ℕ
  whole = in_bytes 8 u.map ++ in_bytes 4 u.held

  whole_length : length whole ≡ 12
  whole_length = omega (arith, length-append (in_bytes 8 u.map) (in_bytes 4 u.held), in_bytes_length 8 u.map, in_bytes_length 4 u.held)

  -- it ends where the pairs begin, at the latest, and 12 bytes behind its beginning
  pub head_length : (map_place + length (map_and_held l u) ≤ l.pairs) × (8 ≤ length (map_and_held l u)) × (length (map_and_held l u) ≤ 12)
  unfolding map_and_held
  head_length =
      let e = length-take (l.pairs - map_place) whole in
      let w = whole_length in
      (omega arith, omega arith, omega arith)

  -- a part of it is a part of the whole
  head_part : (n w : ℕ) → n + w ≤ l.pairs - map_place → take w (drop n (map_and_held l u)) ≡ take w (drop n whole)
  unfolding map_and_held
  head_part n w h =
      part_cut n w (take (l.pairs - map_place) whole) ∙ ap (drop n) (take-take (n + w) (l.pairs - map_place) whole h) ∙ sym (part_cut n w whole)

  head_map : number_at (map_and_held l u) 0 8 ≡ u.map % 2 ^ 64
  unfolding number_at
  head_map =
      ap (read_on 0) (head_part 0 8 (omega arith) ∙ take_at (in_bytes 8 u.map) (in_bytes 4 u.held) 8 (in_bytes_length 8 u.map))
      ∙ read_in_bytes 0 8 u.map
      ∙ omega arith

  head_held : 21 ≤ l.pairs → number_at (map_and_held l u) 8 4 ≡ u.held % 2 ^ 32
  unfolding number_at
  head_held room =
      ap (read_on 0)
      (head_part 8 4 (omega arith)
      ∙ ap (take 4) (drop_at (in_bytes 8 u.map) (in_bytes 4 u.held) 8 (in_bytes_length 8 u.map))
      ∙ take_all 4 (in_bytes 4 u.held) (omega (arith, in_bytes_length 4 u.held)))
      ∙ read_in_bytes 0 4 u.held
      ∙ omega arith

-- ---- the three stores

module _ (l : Layout) (s texts pairs : List ℕ) (a b : ℕ) (u : Summary) where
  abbrev pub stored : List ℕ
  stored = sets (sets (sets s a texts) b pairs) map_place (map_and_held l u)

  -- the places are as said above
  pub record Placed : Type 0 where
    pub head : 13 ≤ l.pairs
    pub texts_from : base l ≤ a
    pub texts_to : a + length texts ≤ length s
    pub pairs_from : l.pairs ≤ b
    pub pairs_to : b + length pairs ≤ base l

  pub stored_length : length stored ≡ length s
  stored_length =
      length-sets (sets (sets s a texts) b pairs) map_place (map_and_held l u)
      ∙ length-sets (sets s a texts) b pairs
      ∙ length-sets s a texts

  module _ (p : Placed) where
    -- "`EDS`, a 16-bit version" stay
    pub stored_front : take 5 stored ≡ take 5 s
    stored_front =
        front_stays (map_and_held l u) (sets (sets s a texts) b pairs) map_place 5 (omega arith)
        ∙ front_stays pairs (sets s a texts) b 5 (omega arith)
        ∙ front_stays texts s a 5 (omega arith)

    -- a number in what was stored there
    stored_head : (n w : ℕ) → n + w ≤ length (map_and_held l u) → number_at stored (map_place + n) w ≡ number_at (map_and_held l u) n w
    stored_head n w h =
        number_within (sets (sets s a texts) b pairs) map_place (map_and_held l u) n w
        (omega (arith, length-sets (sets s a texts) b pairs, length-sets s a texts, (head_length l p.head u).0))
        h

    -- the map is the number that was stored
    pub stored_map : map_of stored ≡ u.map % 2 ^ 64
    unfolding map_of
    stored_map = stored_head 0 8 (omega (arith, (head_length l p.head u).1)) ∙ head_map l p.head u

    pub stored_occupied : (k : ℕ) → k < 64 → is_occupied stored k ≡ bit u.map k
    unfolding is_occupied
    stored_occupied k h = ap (λ (n : ℕ). bit n k) stored_map ∙ bit_remainder 64 k u.map h

    -- so are the text bytes held, and the duplicates figure stays
    module _ (room : 21 ≤ l.pairs) where
      pub stored_held : held_figure stored ≡ u.held % 2 ^ 32
      unfolding held_figure map_and_held
      stored_held =
          stored_head 8 4 (omega (arith, length-take (l.pairs - map_place) (whole l p.head u), whole_length l p.head u))
          ∙ head_held l p.head u room

      pub stored_duplicates : duplicates_of stored ≡ duplicates_of s
      unfolding duplicates_of
      stored_duplicates =
          number_behind (sets (sets s a texts) b pairs) map_place (map_and_held l u) 17 4 (omega (arith, (head_length l p.head u).2))
          ∙ number_before (sets s a texts) b pairs 17 4 (omega arith)
          ∙ number_before s a texts 17 4 (omega arith)

    -- in the room of the texts, only the texts were stored
    pub stored_rest : (n : ℕ) → base l ≤ n → drop n stored ≡ drop n (sets s a texts)
    stored_rest n h =
        rest_stays (map_and_held l u) (sets (sets s a texts) b pairs) map_place n (omega (arith, (head_length l p.head u).0))
        ∙ rest_stays pairs (sets s a texts) b n (omega arith)

    -- in the room of the pairs, only the pairs were stored
    pub stored_within : (n w : ℕ) → n + w ≤ length pairs → number_at stored (b + n) w ≡ number_at pairs n w
    stored_within n w h =
        number_behind (sets (sets s a texts) b pairs) map_place (map_and_held l u) (b + n) w (omega (arith, (head_length l p.head u).0))
        ∙ number_within (sets s a texts) b pairs n w (omega (arith, length-sets s a texts)) h

    pub stored_outside : (at w : ℕ) → l.pairs ≤ at → at + w ≤ base l → (at + w ≤ b) ⊎ (b + length pairs ≤ at)
        → number_at stored at w ≡ number_at s at w
    stored_outside at w h k o =
        number_behind (sets (sets s a texts) b pairs) map_place (map_and_held l u) at w (omega (arith, (head_length l p.head u).0))
        ∙ ⊎_elim (λ x. number_before (sets s a texts) b pairs at w x) (λ x. number_behind (sets s a texts) b pairs at w x) o
        ∙ number_before s a texts at w (omega arith)

-- ---- what a list begins with

begins_cut : (ps xs : List ℕ) → begins ps xs ≡ begins ps (take (length ps) xs)
unfolding begins
begins_cut [] xs = refl
begins_cut (p ∷ ps) [] = refl
begins_cut (p ∷ ps) (x ∷ xs) = ap (λ (b : Bool). eqb p x && b) (begins_cut ps xs)

pub begins_front : (ps xs ys : List ℕ) → take (length ps) xs ≡ take (length ps) ys → begins ps xs ≡ begins ps ys
begins_front ps xs ys e = begins_cut ps xs ∙ ap (begins ps) e ∙ sym (begins_cut ps ys)

pub heading_length : (l : Layout) → length (heading l) ≡ 5
unfolding heading
heading_length l = omega (arith, length-append (text "EDS") (in_bytes 2 l.version), in_bytes_length 2 l.version)
