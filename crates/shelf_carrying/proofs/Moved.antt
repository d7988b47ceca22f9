-- All from the pairs on has moved to its place in the other layout; then the pairs, the heading and the sums are stored. What the shelf holds is
-- what `carrying` says. One law for both directions, and for each the move that it starts from. Assumes nothing.
use Rattle.std.specs.Prelude.{if◌then◌else◌}
use Prim.Native.Nat.{ℕ, zero, suc, ◌+◌, ◌-◌, ◌*◌, ◌≤◌, ◌<◌}
use mathlib.Core.Path.{◌≡◌, refl, sym, ap, ap₂, ◌∙◌}
use mathlib.Core.List.{List, [], ◌∷◌, ◌++◌, append-nil}
use native.Mathlib.Omega.{arith}
use lib.ListN.{length, take, drop, replicate, length-append, length-drop, length-replicate, drop_of_length-le}
use lib.Seq.{sets, length-sets, length-take-le, take_all, take-append-le, drop-append-le, drop-drop}
use Rattle.lists.specs.Lists.{gather}
use Rattle.lists.proofs.Texts.{gather_append}
use Rattle.numbers.specs.Numbers.{number_at, in_bytes, read_on}
use Rattle.numbers.proofs.Stores.{part_cut, front_stays, rest_stays, part_before, part_behind, part_stored, from_stored}
use Rattle.numbers.proofs.Numbers.{in_bytes_length}
use Rattle.shelves.specs.Layout.{Layout, version_one, version_two, slot_count, below, map_of, bit, is_occupied, base, heading, pair_place, start_of, length_of, held}
use Rattle.shelves.specs.Operations.{pair_of}
use Rattle.shelves.proofs.Sound.{Sound}
use Rattle.shelves.proofs.Stored.{heading_length}
use Rattle.storing.proofs.Stores.{stored_length, stored_after}
use Rattle.carrying.specs.Carrying.{carried_pair, carried_as, carried, carried_back}
use Rattle.carrying.proofs.Parts.{part_front, assembled}
use Rattle.shelf_carrying.specs.Parts.{shifted_pair, shifted_pairs, Shifts}
use Rattle.shelf_carrying.proofs.Pairs.{shifted_length}

module _ (from to : Layout) (s moved : List ℕ) where
  -- the pairs stand in their place in the other layout, the map where it was, and what is behind the pairs follows them
  pub record Moves (behind : List ℕ) : Type 0 where
    pub long : length moved ≡ length s
    pub map : take 8 (drop 5 moved) ≡ take 8 (drop 5 s)
    pub pairs : (n w : ℕ) → n + w ≤ 512 → take w (drop (to.pairs + n) moved) ≡ take w (drop (from.pairs + n) s)
    pub rest : drop (base to) moved ≡ behind

  module _ {behind : List ℕ} (m : Moves behind) where
    pub start_moved : (k : ℕ) → k < slot_count → start_of to moved k ≡ start_of from s k
    unfolding start_of pair_place number_at
    start_moved k h = ap (read_on 0) (m.pairs (k * 8) 4 (omega arith))

    -- a kept text's start can be shifted
    pub can_shift : Sound from s → {map : ℕ} {a b : Layout} → map ≡ map_of s → a ≡ from → b ≡ to → Shifts a b map moved
    unfolding is_occupied
    can_shift was e f g k h o =
        let lie = (was.lie k (h, sym (ap (λ (n : ℕ). bit n k) e) ∙ o)).0 in
        omega (arith, lie, ap (λ (l : Layout). l.pairs) f, ap (λ (l : Layout). start_of l moved k) g, start_moved k h)

    -- the pairs, with the layouts and the map that are meant
    pub as_meant : {map : ℕ} {a b : Layout} {after : List ℕ} → map ≡ map_of s → a ≡ from → b ≡ to
        → after ≡ sets moved b.pairs (shifted_pairs a b map moved 64) → after ≡ sets moved to.pairs (shifted_pairs from to (map_of s) moved 64)
    as_meant {map} e f g h =
        h
        ∙ ap₂ (λ (x y : Layout). sets moved y.pairs (shifted_pairs x y map moved 64)) f g
        ∙ ap (λ (n : ℕ). sets moved to.pairs (shifted_pairs from to n moved 64)) e

    length_moved : (k : ℕ) → k < slot_count → length_of to moved k ≡ length_of from s k
    unfolding length_of pair_place number_at
    length_moved k h =
        let there : to.pairs + k * 8 + 4 ≡ to.pairs + (k * 8 + 4) = omega arith in
        let here : from.pairs + (k * 8 + 4) ≡ from.pairs + k * 8 + 4 = omega arith in
        ap (λ (n : ℕ). read_on 0 (take 4 (drop n moved))) there
        ∙ ap (read_on 0) (m.pairs (k * 8 + 4) 4 (omega arith))
        ∙ ap (λ (n : ℕ). read_on 0 (take 4 (drop n s))) here

    pair_moved : (k : ℕ) → k < slot_count → shifted_pair from to (map_of s) moved k ≡ carried_pair from to s k
    unfolding shifted_pair carried_pair is_occupied
    pair_moved k h =
        ap₂ (λ (a n : ℕ). if bit (map_of s) k then pair_of (base to + (a - base from)) n else pair_of 0 0) (start_moved k h) (length_moved k h)

    pairs_moved : (n : ℕ) → n ≤ slot_count → shifted_pairs from to (map_of s) moved n ≡ gather (carried_pair from to s) (below n)
    unfolding shifted_pairs below gather
    pairs_moved zero h = refl
    pairs_moved (suc n) h =
        gather_append (shifted_pair from to (map_of s) moved) (below n) (n ∷ [])
        ∙ ap₂ (λ (x y : List ℕ). x ++ (y ++ [])) (pairs_moved n (omega arith)) (pair_moved n (omega arith))
        ∙ sym (gather_append (carried_pair from to s) (below n) (n ∷ []))

    -- the pairs, the heading and the sums are stored over it
    module _ (sums : List ℕ) (wide : 13 + length sums ≡ to.pairs) (least : base to ≤ length s) where
      abbrev stored : List ℕ
      stored = shifted_pairs from to (map_of s) moved 64

      abbrev paired : List ℕ
      paired = sets moved to.pairs stored

      abbrev headed : List ℕ
      headed = sets paired 0 (heading to)

      abbrev whole : List ℕ
      whole = sets headed 13 sums

      size : length stored ≡ 512
      size = omega (arith, shifted_length from to (map_of s) moved 64)

      long_paired : length paired ≡ length s
      long_paired = length-sets moved to.pairs stored ∙ m.long

      long_headed : length headed ≡ length s
      long_headed = length-sets paired 0 (heading to) ∙ long_paired

      pub all_stored : whole ≡ carried_as from to s sums behind
      unfolding carried_as
      all_stored =
          let p = 13 + length sums in
          let h = heading_length to in
          let q = size in
          assembled whole (heading to) (take 8 (drop 5 s)) sums (gather (carried_pair from to s) (below slot_count)) behind
          (front_stays sums headed 13 5 (omega arith) ∙ part_stored (heading to) paired 0 5 (omega (arith, long_paired)) (sym h))
          (part_before sums headed 13 5 8 (omega arith)
          ∙ part_behind (heading to) paired 0 5 8 (omega arith)
          ∙ part_before stored moved to.pairs 5 8 (omega arith)
          ∙ m.map)
          (part_stored sums headed 13 (length sums) (omega (arith, long_headed)) refl)
          (part_behind sums headed 13 p 512 (omega arith)
          ∙ part_behind (heading to) paired 0 p 512 (omega arith)
          ∙ ap (λ (n : ℕ). take 512 (drop n paired)) wide
          ∙ part_stored stored moved to.pairs 512 (omega (arith, m.long)) (sym q)
          ∙ pairs_moved slot_count (omega arith))
          (rest_stays sums headed 13 (p + 512) (omega arith)
          ∙ rest_stays (heading to) paired 0 (p + 512) (omega arith)
          ∙ rest_stays stored moved to.pairs (p + 512) (omega arith)
          ∙ ap (λ (n : ℕ). drop (n + 512) moved) wide
          ∙ m.rest)

-- ---- the move up

module _ (s moved : List ℕ) (least : 533 ≤ length s) where
  module _ (e : moved ≡ sets s 21 (take (length s - 8 - 13) (drop 13 s))) where
    abbrev upper : List ℕ
    upper = take (length s - 8 - 13) (drop 13 s)

    upper_length : length upper ≡ length s - 21
    upper_length = length-take-le (length s - 8 - 13) (drop 13 s) (omega (arith, length-drop 13 s)) ∙ omega arith

    -- from its new place on, and nothing behind it
    from_upper : drop 21 moved ≡ upper
    from_upper =
        ap (drop 21) e
        ∙ from_stored upper s 21 (omega (arith, upper_length))
        ∙ ap (λ (l : List ℕ). upper ++ l) (drop_of_length-le s {i = 21 + length upper} (omega (arith, upper_length)))
        ∙ append-nil upper

    pub moved_up : Moves version_one version_two s moved (take (length s - 533) (drop 525 s))
    moved_up = record {
      long = ap length e ∙ length-sets s 21 upper;
      map = ap (λ (l : List ℕ). take 8 (drop 5 l)) e ∙ part_before upper s 21 5 8 (omega arith);
      pairs =
          λ n w h.
          ap (take w) (sym (drop-drop n 21 moved) ∙ ap (drop n) from_upper)
          ∙ part_front n w (length s - 8 - 13) (drop 13 s) (omega arith)
          ∙ ap (take w) (drop-drop n 13 s);
      rest =
          let all : length s - 8 - 13 ≡ 512 + (length s - 533) = omega arith in
          sym (drop-drop 512 21 moved)
          ∙ ap (drop 512) from_upper
          ∙ ap (λ (n : ℕ). drop 512 (take n (drop 13 s))) all
          ∙ sym (part_cut 512 (length s - 533) (drop 13 s))
          ∙ ap (take (length s - 533)) (drop-drop 512 13 s);
    }

  -- ---- the move down

  module _ (e : moved ≡ sets s 13 (take (length s - 21) (drop 21 s) ++ replicate 8 0)) where
    abbrev lower : List ℕ
    lower = drop 21 s ++ replicate 8 0

    all_taken : take (length s - 21) (drop 21 s) ≡ drop 21 s
    all_taken = take_all (length s - 21) (drop 21 s) (omega (arith, length-drop 21 s))

    lower_so : moved ≡ sets s 13 lower
    lower_so = e ∙ ap (λ (l : List ℕ). sets s 13 (l ++ replicate 8 0)) all_taken

    lower_length : 13 + length lower ≡ length s
    lower_length =
        omega (arith, length-append (drop 21 s) (replicate {A = ℕ} 8 0), length-drop 21 s, length-replicate {A = ℕ} 8 0)

    from_lower : drop 13 moved ≡ lower
    from_lower =
        ap (drop 13) lower_so
        ∙ from_stored lower s 13 (omega (arith, lower_length))
        ∙ ap (λ (l : List ℕ). lower ++ l) (drop_of_length-le s {i = 13 + length lower} (omega (arith, lower_length)))
        ∙ append-nil lower

    pub moved_down : Moves version_two version_one s moved (drop 533 s ++ replicate 8 0)
    moved_down = record {
      long = ap length lower_so ∙ length-sets s 13 lower;
      map = ap (λ (l : List ℕ). take 8 (drop 5 l)) lower_so ∙ part_before lower s 13 5 8 (omega arith);
      pairs =
          λ n w h.
          ap (take w)
          (sym (drop-drop n 13 moved)
          ∙ ap (drop n) from_lower
          ∙ drop-append-le n (drop 21 s) (replicate 8 0) (omega (arith, length-drop 21 s)))
          ∙ take-append-le w (drop n (drop 21 s)) (replicate 8 0) (omega (arith, length-drop n (drop 21 s), length-drop 21 s))
          ∙ ap (take w) (drop-drop n 21 s);
      rest =
          sym (drop-drop 512 13 moved)
          ∙ ap (drop 512) from_lower
          ∙ drop-append-le 512 (drop 21 s) (replicate 8 0) (omega (arith, length-drop 21 s))
          ∙ ap (λ (l : List ℕ). l ++ replicate 8 0) (drop-drop 512 21 s);
    }

-- ---- the whole of each

module _ (s : List ℕ) (least : 533 ≤ length s) {map : ℕ} (em : map ≡ map_of s) {a b c : Layout} {s₁ s₂ s₃ : List ℕ} where
  -- no store changes the length
  pub up_long : a ≡ version_one → b ≡ version_two → c ≡ version_two → s₁ ≡ sets s 21 (take (length s - 8 - 13) (drop 13 s)) → s₂ ≡ sets s₁ b.pairs (shifted_pairs a b map s₁ 64)
      → s₃ ≡ sets s₂ 0 (heading c) → length s₃ ≡ length s
  up_long ea eb ec e₁ e₂ e₃ =
      stored_length s₂ 0 (heading c) e₃
      ∙ stored_length s₁ b.pairs (shifted_pairs a b map s₁ 64) e₂
      ∙ stored_length s 21 (take (length s - 8 - 13) (drop 13 s)) e₁

  pub up_done : {h : ℕ} {s₄ s₅ : List ℕ} → h ≡ held version_one s → a ≡ version_one → b ≡ version_two → c ≡ version_two
      → s₁ ≡ sets s 21 (take (length s - 8 - 13) (drop 13 s)) → s₂ ≡ sets s₁ b.pairs (shifted_pairs a b map s₁ 64)
      → s₃ ≡ sets s₂ 0 (heading c) → s₄ ≡ sets s₃ 13 (in_bytes 4 h) → s₅ ≡ sets s₄ 17 (in_bytes 4 0) → s₅ ≡ carried s
  unfolding carried
  up_done {h} eh ea eb ec e₁ e₂ e₃ e₄ e₅ =
      let size = in_bytes_length 4 h in
      let sums = in_bytes 4 (held version_one s) ++ in_bytes 4 0 in
      let m = moved_up s s₁ least e₁ in
      let wide : 13 + length sums ≡ 21 =
      omega (arith, length-append (in_bytes 4 (held version_one s)) (in_bytes 4 0), in_bytes_length 4 (held version_one s), in_bytes_length 4 0) in
      stored_after s₃ 13 (in_bytes 4 h) (in_bytes 4 0) e₄ (omega arith) e₅
      ∙ ap₂ (λ (x : List ℕ) (n : ℕ). sets x 13 (in_bytes 4 n ++ in_bytes 4 0))
      (e₃ ∙ ap₂ (λ (x : List ℕ) (l : Layout). sets x 0 (heading l)) (as_meant version_one version_two s s₁ m em ea eb e₂) ec)
      eh
      ∙ all_stored version_one version_two s s₁ m sums wide least

  pub down_done : a ≡ version_two → b ≡ version_one → c ≡ version_one → s₁ ≡ sets s 13 (take (length s - 21) (drop 21 s) ++ replicate 8 0)
      → s₂ ≡ sets s₁ b.pairs (shifted_pairs a b map s₁ 64) → s₃ ≡ sets s₂ 0 (heading c) → s₃ ≡ carried_back s
  unfolding carried_back
  down_done ea eb ec e₁ e₂ e₃ =
      let m = moved_down s s₁ least e₁ in
      e₃
      ∙ ap₂ (λ (x : List ℕ) (l : Layout). sets x 0 (heading l)) (as_meant version_two version_one s s₁ m em ea eb e₂) ec
      ∙ all_stored version_two version_one s s₁ m [] refl (omega arith)
