-- What `fits` asks of an entry, part by part. Assumes nothing.
use Rattle.std.specs.Prelude.{if◌then◌else◌}
use Prim.Native.Nat.{ℕ, ◌≤◌, ◌<◌}
use mathlib.Core.Path.{◌≡◌, refl}
use mathlib.Core.Bool.{Bool, true, false, not, ◌&&◌, false≢true}
use mathlib.Core.List.{List, ◌∷◌, Memᴰ}
use lib.ListN.{length}
use lib.Dec.{eqb, leb, ltb}
use borrow.Author.Tests.{leb-true, ltb-true, eqb-true}
use Rattle.lists.specs.Lists.{text, member, all, at, maybe}
use Rattle.lists.proofs.Texts.{and_left, and_right}
use Rattle.lists.proofs.Tests.{says_all, says_le}
use Rattle.characters.specs.Characters.{between}
use Rattle.message_tables.specs.Entries.{Entry, is_group}
use Rattle.message_tables.specs.Soundness.{most_repeats, most_depth, is_table_tag, segment_fits, rooms, group_fits, is_trigger, triggers, fits}

module _ (past : List Entry) (left : ℕ) (e : Entry) (h : fits past left e ≡ true) where
  -- the four parts
  four : (member e.status (text "MC") ≡ true)
      × (between 1 most_repeats e.repeats ≡ true)
      × (triggers past e ≡ true)
      × ((if is_group e then group_fits past left e else segment_fits e) ≡ true)
  unfolding fits
  four =
      let a : Bool = member e.status (text "MC") in
      let b : Bool = between 1 most_repeats e.repeats in
      let c : Bool = triggers past e in
      let d : Bool = if is_group e then group_fits past left e else segment_fits e in (
        and_left a b (and_left (a && b) c (and_left (a && b && c) d h)),
        and_right a b (and_left (a && b) c (and_left (a && b && c) d h)),
        and_right (a && b) c (and_left (a && b && c) d h),
        and_right (a && b && c) d h,
      )

  pub repeats_fit : (1 ≤ e.repeats) × (e.repeats ≤ most_repeats)
  unfolding between
  repeats_fit = (
    leb-true 1 e.repeats (and_left (leb 1 e.repeats) (leb e.repeats most_repeats) four.1),
    leb-true e.repeats most_repeats (and_right (leb 1 e.repeats) (leb e.repeats most_repeats) four.1),
  )

  pub segment_fits_lem : is_group e ≡ false → (e.under ≡ 0) × (is_table_tag e.tag ≡ true)
  unfolding segment_fits
  segment_fits_lem g =
      let k : (eqb e.under 0 && is_table_tag e.tag) ≡ true = rw g at four.3 in (
        eqb-true e.under 0 (and_left (eqb e.under 0) (is_table_tag e.tag) k),
        and_right (eqb e.under 0) (is_table_tag e.tag) k,
      )

  -- a group has an entry, is not the ninth, and ends in the table and in each group that holds it
  pub group_fits_lem : is_group e ≡ true
      → (1 ≤ e.under) × (length (rooms past) < most_depth) × (e.under ≤ left) × ((room : ℕ) → Memᴰ room (rooms past) → e.under ≤ room)
  unfolding group_fits
  group_fits_lem g =
      let a : Bool = leb 1 e.under in
      let b : Bool = ltb (length (rooms past)) most_depth in
      let c : Bool = all (leb e.under) (left ∷ rooms past) in
      let k : (a && b && c) ≡ true = rw g at four.3 in
      let ends : (room : ℕ) → Memᴰ room (left ∷ rooms past) → e.under ≤ room =
      (says_all {P = λ room. e.under ≤ room} (leb e.under) (says_le e.under) (left ∷ rooms past)).0 (and_right (a && b) c k) in (
        leb-true 1 e.under (and_left a b (and_left (a && b) c k)),
        ltb-true (length (rooms past)) most_depth (and_right a b (and_left (a && b) c k)),
        ends left (Memᴰ.head refl),
        λ room m. ends room (Memᴰ.tail m),
      )

-- the entry after a group's own is a trigger
pub trigger_fits : (g : Entry) (past : List Entry) (left : ℕ) (e : Entry) → fits (g ∷ past) left e ≡ true → is_group g ≡ true
    → is_trigger e ≡ true
unfolding triggers maybe at
trigger_fits g past left e h k = rw k at (four (g ∷ past) left e h).2

pub trigger_segment : (e : Entry) → is_trigger e ≡ true → is_group e ≡ false
unfolding is_trigger
trigger_segment e h = step (is_group e) (and_left (not (is_group e)) _ (and_left _ _ h))
  where
    step : (b : Bool) → not b ≡ true → b ≡ false
    step true k = absurd (false≢true k)
    step false k = refl
