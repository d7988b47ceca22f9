-- Laws of a list that is cut into blocks: the places are stored block by block, and what they say of a part of the list. Assumes nothing.
use Prim.Native.Nat.{ℕ, ◌+◌, ◌-◌, ◌*◌, ◌/◌, ◌%◌, ◌≤◌, ◌<◌}
use mathlib.Core.Path.{◌≡◌, refl, sym, ap, ◌∙◌}
use mathlib.Core.Bool.{Bool, true, false, ◌||◌}
use mathlib.Core.List.{List}
use native.Mathlib.Nat.{add-mul, one-mul, div-add-mod', div-mul-le_self, mod-lt, lt_of_mul-lt-mul_right}
use native.Mathlib.Omega.{arith}
use lib.ListN.{length, set, take, drop, get_or}
use lib.Seq.{get_or-set_same, get_or-set_other}
use lib.Dec.{ltb}
use borrow.Author.Tests.{lt-ltb, le-ltb, ltb-true, ltb-false}
use Rattle.lists.specs.Lists.{any}
use Rattle.service_places.specs.Places.{blocks, next_place, Noted}
use Rattle.service_places.proofs.Places.{next_later, part_next, part_split}

-- ---- sizes

-- so many blocks of this size are enough
pub enough : (count size : ℕ) → size ≡ count / blocks + 1 → count < blocks * size
enough count size d = omega (arith, d, div-add-mod' count blocks, mod-lt count {m = blocks} (omega arith))

-- a block more
pub block_more : (k size : ℕ) → (k + 1) * size ≡ k * size + size
block_more k size = add-mul k 1 size ∙ ap (λ (n : ℕ). k * size + n) (one-mul size)

-- the block after that of a place
pub block_next : (i size : ℕ) → 0 < size → (i / size + 1) * size ≡ i + (size - i % size)
block_next i size h = omega (arith, block_more (i / size) size, div-add-mod' i size, mod-lt i {m = size} h)

module _ (t : ℕ → Bool) (s : List ℕ) (size : ℕ) where
  -- ---- the places are stored

  -- those of the first blocks are there
  abbrev pub Stored : ℕ → List ℕ → Type 0
  Stored n places = (k : ℕ) → k < n → get_or places k 0 ≡ next_place t s (k * size)

  pub stored_none : (places : List ℕ) → Stored 0 places
  stored_none places k h = absurd (omega arith)

  pub stored_more : (n : ℕ) (places : List ℕ) {start place : ℕ} → n < length places → start ≡ n * size → place ≡ next_place t s start
      → Stored n places → Stored (n + 1) (set places n place)
  stored_more n places {start} {place} l d e known k h = step (ltb k n) refl
    where
      step : (b : Bool) → ltb k n ≡ b → get_or (set places n place) k 0 ≡ next_place t s (k * size)
      step true p =
          let other : k < n = ltb-true k n p in
          get_or-set_other places n k place 0 (λ q. omega arith) ∙ known k other
      step false p =
          let last : k ≡ n = omega (arith, ltb-false k n p) in
          ap (λ (j : ℕ). get_or (set places n place) j 0) last
          ∙ get_or-set_same places n place 0 l
          ∙ e
          ∙ ap (next_place t s) (d ∙ ap (λ (j : ℕ). j * size) (sym last))

  -- where the blocks reach the end, that is all
  pub stored_all : (n : ℕ) {places : List ℕ} → 0 < size → length s < blocks * size → length s < n * size → Stored n places
      → Noted t s size places
  stored_all n p q h known = record {
    some = p;
    few = q;
    told = λ k l. known k (lt_of_mul-lt-mul_right size (omega arith));
  }

  -- the place of a block, as long as it is not passed, is that of the next block
  pub still_next : (start place : ℕ) → place ≡ next_place t s start → start + size ≤ place → place ≡ next_place t s (start + size)
  still_next start place d h = d ∙ next_later t s start (start + size) (omega arith) (omega (arith, d))

  -- ---- what they say

  module _ {places : List ℕ} (g : Noted t s size places) (i j : ℕ) (h : i ≤ j) (k : j ≤ length s) where
    pub block_known : i / size < blocks
    block_known = lt_of_mul-lt-mul_right size (omega (arith, div-mul-le_self i size, g.few))

    -- a place of the block that is not passed yet
    pub ahead_told : i ≤ get_or places (i / size) 0 → ltb (get_or places (i / size) 0) j ≡ any t (take (j - i) (drop i s))
    ahead_told l =
        let first : get_or places (i / size) 0 ≡ next_place t s (i / size * size) = g.told (i / size) (omega (arith, div-mul-le_self i size)) in
        let here : next_place t s (i / size * size) ≡ next_place t s i = next_later t s (i / size * size) i (div-mul-le_self i size) (omega (arith, first)) in
        ap (λ (n : ℕ). ltb n j) (first ∙ here) ∙ sym (part_next t s i j h k)

    -- the part goes beyond the block
    module _ (l : size - i % size < j - i) where
      abbrev next : ℕ
      next = i + (size - i % size)

      pub next_known : i / size + 1 < blocks
      next_known = lt_of_mul-lt-mul_right size (omega (arith, block_next i size g.some, g.few))

      rest_told : any t (take (j - next) (drop next s)) ≡ ltb (get_or places (i / size + 1) 0) j
      rest_told =
          let start : (i / size + 1) * size ≡ next = block_next i size g.some in
          let first : get_or places (i / size + 1) 0 ≡ next_place t s next = g.told (i / size + 1) (omega (arith, start)) ∙ ap (next_place t s) start in
          part_next t s next j (omega arith) k ∙ ap (λ (n : ℕ). ltb n j) (sym first)

      parts : any t (take (j - i) (drop i s)) ≡ (any t (take (next - i) (drop i s)) || ltb (get_or places (i / size + 1) 0) j)
      parts = part_split t s i j h next (omega arith) (omega arith) ∙ ap (λ (b : Bool). any t (take (next - i) (drop i s)) || b) rest_told

      pub beyond_found : get_or places (i / size + 1) 0 < j → true ≡ any t (take (j - i) (drop i s))
      beyond_found p = sym (parts ∙ ap (λ (b : Bool). any t (take (next - i) (drop i s)) || b) (lt-ltb (get_or places (i / size + 1) 0) j p) ∙ either (any t (take (next - i) (drop i s))))
        where
          either : (b : Bool) → (b || true) ≡ true
          either true = refl
          either false = refl

      pub beyond_none : j ≤ get_or places (i / size + 1) 0 → any t (take (next - i) (drop i s)) ≡ any t (take (j - i) (drop i s))
      beyond_none p = sym (parts ∙ ap (λ (b : Bool). any t (take (next - i) (drop i s)) || b) (le-ltb (get_or places (i / size + 1) 0) j p) ∙ neither (any t (take (next - i) (drop i s))))
        where
          neither : (b : Bool) → (b || false) ≡ b
          neither true = refl
          neither false = refl
