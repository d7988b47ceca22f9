-- Requests 2026-04 and 2026-06 in their own numbers: what stands where in a shelf of version 1 and of version 2, the sizes, the slots, the
-- sums, and the places of the refusals. Assumes nothing.
use Rattle.std.specs.Prelude.{if◌then◌else◌, Ok, Err}
use Prim.Native.Nat.{ℕ, ◌+◌, ◌*◌, ◌/◌, ◌%◌, ◌^◌, ◌≤◌, ◌<◌}
use mathlib.Core.Path.{◌≡◌, refl, ap, subst}
use mathlib.Core.Bool.{Bool, true, false, not}
use mathlib.Core.List.Memᴰ
use mathlib.Core.List.{List, [], ◌∷◌, ◌++◌, map, Memᴰ}
use mathlib.Core.Logic.{◌↔◌}
use native.Mathlib.Omega.{arith}
use lib.Dec.{leb}
use lib.ListN.{length, replicate}
use borrow.Author.Tests.{lt-ltb, le-ltb}
use Rattle.lists.specs.Lists.{is_empty, those, at, maybe}
use Rattle.lists.proofs.Tests.{Says, says_eq, says_le, says_both}
use Rattle.numbers.specs.Numbers.{number_at, in_bytes, read_on}
use Rattle.refusals.specs.declared.Fault.TheVariants.{NoFreeSlot, NoRoom, UnsoundShelf}
use Rattle.refusals.specs.declared.Refusal.{Refusal}
use Rattle.refusals.specs.Refusals.{Stage, met, place_if}
use Rattle.answers.specs.Answers.{given, refused}
use Rattle.shelves.specs.declared.Shelved.TheVariants as shelved
use Rattle.shelves.specs.declared.Summary.{Summary}
use Rattle.shelves.specs.Layout.{version_one, version_two, below, total, map_of, held_figure, duplicates_of, bit, is_occupied, Occupied, occupied, free, has_sums, base, heading, pair_place, start_of, length_of, text_of, kept, held, end_of}
use Rattle.shelves.specs.Soundness.{is_sized, is_summed, sound}
use Rattle.shelves.specs.Summary.{put_new, put_copy, removed, map_and_held, duplicates_in}
use Rattle.shelves.specs.Answers.{new_at, copy_at, told_shelved, told_slots, told_sums, told_outcome}
use Rattle.shelves.specs.Operations.{pair_of, empty_shelf, unsound, lowest_free, no_free_slot, no_room, length_answer, remove}
use Rattle.shelves.proofs.Passing.{passing_has}

-- a stage at which this refusal is met, at this place
abbrev met_at : Refusal → Stage
met_at r = r ∷ []

-- ---- "`EDS`, a 16-bit version (1), a 64-bit map .., 64 pairs of 32-bit start and length, then the normal forms"

pub headed_so : heading version_one ≡ 69 ∷ 68 ∷ 83 ∷ 0 ∷ 1 ∷ []
unfolding heading in_bytes
headed_so = refl

pub map_stands : (s : List ℕ) → map_of s ≡ number_at s 5 8
unfolding map_of
map_stands s = refl

pub start_stands : (s : List ℕ) (k : ℕ) → start_of version_one s k ≡ number_at s (13 + k * 8) 4
unfolding start_of pair_place
start_stands s k = refl

pub length_stands : (s : List ℕ) (k : ℕ) → length_of version_one s k ≡ number_at s (13 + k * 8 + 4) 4
unfolding length_of pair_place
length_stands s k = refl

pub texts_begin : base version_one ≡ 525
texts_begin = refl

pub pair_spelled : pair_of 525 93 ≡ 0 ∷ 0 ∷ 2 ∷ 13 ∷ 0 ∷ 0 ∷ 0 ∷ 93 ∷ []
unfolding pair_of in_bytes
pair_spelled = refl

-- "a lent buffer of 525 to 65,536 bytes"
pub sized_so : (s : List ℕ) → Says (is_sized version_one s) ((525 ≤ length s) × (length s ≤ 65536))
unfolding is_sized
sized_so s = says_both (leb 525 (length s)) (leb (length s) 65536) (says_le 525 (length s)) (says_le (length s) 65536)

-- ---- "after the map, 32 bits of text bytes held and 32 bits of duplicates found; texts start at byte 533, which is the new least size"

pub headed_two : heading version_two ≡ 69 ∷ 68 ∷ 83 ∷ 0 ∷ 2 ∷ []
unfolding heading in_bytes
headed_two = refl

pub held_stands : (s : List ℕ) → held_figure s ≡ number_at s 13 4
unfolding held_figure
held_stands s = refl

pub duplicates_stand : (s : List ℕ) → duplicates_of s ≡ number_at s 17 4
unfolding duplicates_of
duplicates_stand s = refl

pub start_stands_two : (s : List ℕ) (k : ℕ) → start_of version_two s k ≡ number_at s (21 + k * 8) 4
unfolding start_of pair_place
start_stands_two s k = refl

pub length_stands_two : (s : List ℕ) (k : ℕ) → length_of version_two s k ≡ number_at s (21 + k * 8 + 4) 4
unfolding length_of pair_place
length_stands_two s k = refl

pub texts_begin_two : base version_two ≡ 533
texts_begin_two = refl

pub sized_two : (s : List ℕ) → Says (is_sized version_two s) ((533 ≤ length s) × (length s ≤ 65536))
unfolding is_sized
sized_two s = says_both (leb 533 (length s)) (leb (length s) 65536) (says_le 533 (length s)) (says_le (length s) 65536)

-- "The first equals the sum of the lengths, as soundness now asks": in version 2, and nothing more in version 1
pub summed_two : (s : List ℕ) → Says (is_summed version_two s) (number_at s 13 4 ≡ total (map (length_of version_two s) (occupied s)))
unfolding is_summed has_sums held_figure held
summed_two s = says_eq (held_figure s) (held version_two s)

pub summed_one : (s : List ℕ) → is_summed version_one s ≡ true
unfolding is_summed has_sums
summed_one s = refl

-- what Put and Remove store: the map and the text bytes held, or the duplicates found; in version 1 the map alone, or nothing
pub bytes_stored : (u : Summary)
    → (map_and_held version_two u ≡ in_bytes 8 u.map ++ in_bytes 4 u.held) × (duplicates_in version_two u ≡ in_bytes 4 u.duplicates)
    × (map_and_held version_one u ≡ in_bytes 8 u.map) × (duplicates_in version_one u ≡ [])
unfolding map_and_held duplicates_in in_bytes
bytes_stored u = (refl, refl, refl, refl)

-- "rises by one at each put that finds its copy, and stays at 4,294,967,295"
pub copies_rise : (u : Summary)
    → (u.duplicates < 4294967295 → (put_copy u).duplicates ≡ u.duplicates + 1) × (u.duplicates ≡ 4294967295 → (put_copy u).duplicates ≡ 4294967295)
unfolding put_copy
copies_rise u = (λ h. omega arith, λ e. omega arith)

-- "alters only the fields that its own work concerns"
pub fields_stay : (u : Summary) (slot size : ℕ)
    → ((put_new u slot size).duplicates ≡ u.duplicates)
    × (((put_copy u).map ≡ u.map) × ((put_copy u).held ≡ u.held))
    × ((removed u slot size).duplicates ≡ u.duplicates)
unfolding put_new put_copy removed
fields_stay u slot size = (refl, (refl, refl), refl)

-- "Start writes an empty shelf": the heading, and zeros
pub empty_so : empty_shelf version_one 525 ≡ 69 ∷ 68 ∷ 83 ∷ 0 ∷ 1 ∷ replicate 520 0
unfolding empty_shelf heading in_bytes
empty_so = refl

-- ---- "slot k is the bit worth 2^k"

pub bit_worth : (s : List ℕ) (k : ℕ) → Says (is_occupied s k) (number_at s 5 8 / 2 ^ k % 2 ≡ 1)
unfolding is_occupied bit map_of
bit_worth s k = says_eq (number_at s 5 8 / 2 ^ k % 2) 1

pub occupied_are : (s : List ℕ) (k : ℕ) → Memᴰ k (occupied s) ↔ ((k < 64) × (is_occupied s k ≡ true))
unfolding occupied
occupied_are s k = passing_has (is_occupied s) 64 k

pub free_are : (s : List ℕ) (k : ℕ) → Memᴰ k (free s) ↔ ((k < 64) × (not (is_occupied s k) ≡ true))
unfolding free
free_are s k = passing_has (λ j. not (is_occupied s j)) 64 k

-- the first bit of the eight bytes is slot 63's, the last slot 0's
pub bits_spelled : occupied (69 ∷ 68 ∷ 83 ∷ 0 ∷ 1 ∷ 128 ∷ 0 ∷ 0 ∷ 0 ∷ 0 ∷ 0 ∷ 1 ∷ 5 ∷ []) ≡ 0 ∷ 2 ∷ 8 ∷ 63 ∷ []
unfolding occupied is_occupied bit map_of number_at read_on those below
bits_spelled = refl

-- 64 where none is free
pub none_free : (s : List ℕ) → free s ≡ [] → lowest_free version_one s ≡ 64
unfolding lowest_free at maybe
none_free s e = ap (λ (ks : List ℕ). maybe 64 (λ k. k) (at ks 0)) e

-- the kept texts are those of the occupied slots
pub kept_are : (s form : List ℕ) → Memᴰ form (kept version_one s) ↔ ((k : ℕ) × Occupied s k × (text_of version_one s k ≡ form))
unfolding kept
kept_are s form = (
  λ m. let (k, i, e) = Memᴰ.of_map (text_of version_one s) (occupied s) m in (k, (occupied_are s k).0 i, e),
  λ h. subst (λ (f : List ℕ). Memᴰ f (kept version_one s)) h.2 (Memᴰ.map (text_of version_one s) ((occupied_are s h.0).1 h.1)),
)

-- ---- the answers, by number and values

pub told_so : (r : Refusal)
    → (told_shelved (Ok (shelved.New 3)) ≡ given (3 ∷ 1 ∷ []))
    × (told_shelved (Ok (shelved.Copy 3)) ≡ given (3 ∷ 0 ∷ []))
    × (told_shelved (Err r) ≡ refused r)
    × (told_slots (Ok (record { occupied = 5; lowest_free = 2 })) ≡ given (5 ∷ 2 ∷ []))
    × (told_slots (Err r) ≡ refused r)
    × (told_sums (Ok (record { held = 93; duplicates = 7 })) ≡ given (93 ∷ 7 ∷ []))
    × (told_sums (Err r) ≡ refused r)
    × (told_outcome (Ok tt) ≡ given [])
    × (told_outcome (Err r) ≡ refused r)
unfolding told_shelved told_slots told_sums told_outcome new_at copy_at
told_so r = (refl, refl, refl, refl, refl, refl, refl, refl, refl)

-- "Remove answers the length": as Get's companion says it, or what refuses it
pub remove_so : (s : List ℕ) (slot : ℕ) → remove version_one s slot ≡ length_answer version_one s slot
unfolding remove
remove_so s slot = refl

-- ---- the places of 17, 18 and 19

pub seventeen : (s : List ℕ) → free s ≡ [] → no_free_slot version_one s ≡ met_at (record { fault = NoFreeSlot; place = 64 })
unfolding no_free_slot met place_if is_empty
seventeen s e = rw e

pub eighteen : (s form : List ℕ) → length s < end_of version_one s + length form
    → no_room version_one s form ≡ met_at (record { fault = NoRoom; place = length form })
unfolding no_room met place_if
eighteen s form h = rw (lt-ltb (length s) (end_of version_one s + length form) h)

pub not_eighteen : (s form : List ℕ) → end_of version_one s + length form ≤ length s → no_room version_one s form ≡ []
unfolding no_room met place_if
not_eighteen s form h = rw (le-ltb (length s) (end_of version_one s + length form) h)

-- 19 at 0: exactly where soundness fails
pub nineteen : (s : List ℕ) → unsound version_one s ≡ (if sound version_one s then [] else met_at (record { fault = UnsoundShelf; place = 0 }))
unfolding unsound met place_if
nineteen s = step (sound version_one s)
  where
    step : (b : Bool) → met UnsoundShelf (if not b then 0 ∷ [] else []) ≡ (if b then [] else met_at (record { fault = UnsoundShelf; place = 0 }))
    step true = refl
    step false = refl
