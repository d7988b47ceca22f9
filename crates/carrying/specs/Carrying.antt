-- Request 2026-07: "Turn a version 1 shelf into version 2 in its own buffer, and back." Assumes nothing.
use Rattle.std.specs.Prelude.{ℕ, ◌+◌, ◌-◌, List, [], ◌∷◌, ◌++◌, length, take, drop, replicate, ltb, if◌then◌else◌}
use Rattle.std.proofs.Math.Option.{Option}
use Rattle.lists.specs.Lists.{gather, maybe}
use Rattle.numbers.specs.Numbers.{in_bytes}
use Rattle.refusals.specs.declared.Fault.TheVariants.{NoRoom}
use Rattle.refusals.specs.declared.Refusal.{Refusal}
use Rattle.refusals.specs.Refusals.{Stage, met, place_if, answering}
use Rattle.answers.specs.Answers.{Answer, given, refused}
use Rattle.operations.specs.Judge.{unless_refused}
use Rattle.shelves.specs.Layout.{Layout, version_one, version_two, slot_count, map_place, below, is_occupied, base, heading, start_of, length_of, held, end_of}
use Rattle.shelves.specs.Operations.{pair_of, unsound}

-- the bytes of the two sums, by which version 2 is longer in front of its texts
abbrev pub sums_bytes : ℕ
sums_bytes = 8

-- ---- from either layout to the other

module _ (from to : Layout) (s : List ℕ) where
  -- "Slots and texts stay": a text starts as far behind the beginning of the texts as it did; the pair of a free slot is zero
  unfoldable pub carried_pair : ℕ → List ℕ
  carried_pair k =
      if is_occupied s k then pair_of (base to + (start_of from s k - base from)) (length_of from s k) else pair_of 0 0

  -- the heading, the map as it is, the sums where the layout has them, the pairs, and what stands behind them
  unfoldable pub carried_as : (sums behind : List ℕ) → List ℕ
  carried_as sums behind =
      heading to ++ (take 8 (drop map_place s) ++ (sums ++ (gather carried_pair (below slot_count) ++ behind)))

-- ---- version 1 into version 2

-- "the duplicates figure starts at 0"; texts and free bytes move up, and the last eight of the free ones make room for it
unfoldable pub carried : List ℕ → List ℕ
carried s =
    let sums = in_bytes 4 (held version_one s) ++ in_bytes 4 0 in
    carried_as version_one version_two s sums (take (length s - base version_two) (drop (base version_one) s))

-- "then 18 if old to new finds fewer than 8 free bytes (place 8)"
unfoldable pub no_room_for_sums : List ℕ → Stage
no_room_for_sums s = met NoRoom (place_if (ltb (length s) (end_of version_one s + sums_bytes)) sums_bytes)

-- "19 if not sound in its version (place 0), then 18"
unfoldable pub carry_refusal : List ℕ → Option Refusal
carry_refusal s = answering (unsound version_one s ∷ no_room_for_sums s ∷ [])

-- that it did, or the refusal
unfoldable pub carry : List ℕ → Answer
carry s = maybe (given []) refused (carry_refusal s)

-- "Refusals, shelf unchanged"
unfoldable pub carry_shelf : List ℕ → List ℕ
carry_shelf s = unless_refused (carry_refusal s) (carried s) s

-- ---- version 2 into version 1

-- the duplicates figure "is lost on the way back"; texts and free bytes move down, and eight free bytes more stand behind them
unfoldable pub carried_back : List ℕ → List ℕ
carried_back s = carried_as version_two version_one s [] (drop (base version_two) s ++ replicate sums_bytes 0)

unfoldable pub carry_back_refusal : List ℕ → Option Refusal
carry_back_refusal s = answering (unsound version_two s ∷ [])

unfoldable pub carry_back : List ℕ → Answer
carry_back s = maybe (given []) refused (carry_back_refusal s)

unfoldable pub carry_back_shelf : List ℕ → List ℕ
carry_back_shelf s = unless_refused (carry_back_refusal s) (carried_back s) s
