-- Requests 2026-04 and 2026-06: "It is sound when ..", in the requests' words, place by place. Assumes nothing.
use Rattle.std.specs.Prelude.{ℕ, ◌+◌, ◌≤◌, ◌<◌, ◌≡◌, List, ◌++◌, map, ◌↔◌, length, get_or}
use Rattle.std.proofs.Math.Option.{none}
use Rattle.stages.specs.Contents.{normal_form}
use Rattle.stages.specs.Stages.{refusal_of}
use Rattle.numbers.specs.Numbers.{number_at}
use Rattle.shelves.specs.Layout.{Layout, total, Occupied, Free, occupied, base, heading, start_of, length_of, text_of}

module _ (l : Layout) (s : List ℕ) where
  -- the place lies in the slot's text
  abbrev pub LiesIn : ℕ → ℕ → Type 0
  LiesIn place k = (start_of l s k ≤ place) × (place < start_of l s k + length_of l s k)

  pub record SoundInWords : Type 0 where
    -- "a lent buffer of 525 to 65,536 bytes: `EDS`, a 16-bit version"
    pub size : (base l ≤ length s) × (length s ≤ 65536)
    pub headed : (rest : List ℕ) × (s ≡ heading l ++ rest)
    -- "the occupied texts are normal forms, all different"
    pub normal_forms : (k : ℕ) → Occupied s k → (refusal_of (text_of l s k) ≡ none) × (normal_form (text_of l s k) ≡ text_of l s k)
    pub all_different : (j k : ℕ) → Occupied s j → Occupied s k → text_of l s j ≡ text_of l s k → j ≡ k
    -- "disjoint": no place lies in two of them
    pub disjoint : (place j k : ℕ) → Occupied s j → Occupied s k → LiesIn place j → LiesIn place k → j ≡ k
    -- "and together fill the room from byte 525 without gaps": a place lies in one of them exactly where it lies in the room, which
    -- goes from the texts' beginning to an end in the shelf
    pub end : ℕ
    pub room : (base l ≤ end) × (end ≤ length s)
    pub filled : (place : ℕ) → ((base l ≤ place) × (place < end)) ↔ ((k : ℕ) × Occupied s k × LiesIn place k)
    -- "and free entries and free bytes are zero"
    pub free_entries : (k : ℕ) → Free s k → (start_of l s k ≡ 0) × (length_of l s k ≡ 0)
    pub free_bytes : (place : ℕ) → end ≤ place → place < length s → get_or s place 0 ≡ 0
    -- "32 bits of text bytes held .. equals the sum of the lengths", in a layout that has them
    pub sums : 21 ≤ l.pairs → number_at s 13 4 ≡ total (map (length_of l s) (occupied s))
