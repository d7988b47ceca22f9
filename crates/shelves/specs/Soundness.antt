-- Requests 2026-04 and 2026-06: when a shelf is sound. Assumes nothing.
use Rattle.std.specs.Prelude.{ℕ, ◌+◌, Bool, true, not, ◌&&◌, ◌||◌, List, [], ◌∷◌, length, drop, eqb, leb}
use Rattle.lists.specs.Lists.{same, begins, all}
use Rattle.stages.specs.Contents.{normal_form}
use Rattle.operations.specs.Compare.{is_accepted}
use Rattle.shelves.specs.Layout.{Layout, most_shelf, occupied, free, held_figure, has_sums, base, heading, start_of, length_of, text_of, held, end_of}

-- "normal forms": accepted by the rules as they stand, and its own normal form
unfoldable pub is_normal_form : List ℕ → Bool
is_normal_form form = is_accepted form && same (normal_form form) form

-- any two of them pass the test
unfoldable pub each_two : (ℕ → ℕ → Bool) → List ℕ → Bool
each_two t [] = true
each_two t (k ∷ ks) = all (t k) ks && each_two t ks

module _ (l : Layout) where
  -- "a lent buffer of 525 to 65,536 bytes", or of 533 in version 2
  unfoldable pub is_sized : List ℕ → Bool
  is_sized s = leb (base l) (length s) && leb (length s) most_shelf

  module _ (s : List ℕ) where
    -- a text lies in the room that the texts fill together
    unfoldable pub lies : ℕ → Bool
    lies k = leb (base l) (start_of l s k) && leb (start_of l s k + length_of l s k) (end_of l s)

    -- one ends before the other begins
    unfoldable pub apart : ℕ → ℕ → Bool
    apart j k =
        leb (start_of l s j + length_of l s j) (start_of l s k) || leb (start_of l s k + length_of l s k) (start_of l s j)

    unfoldable pub differ : ℕ → ℕ → Bool
    differ j k = not (same (text_of l s j) (text_of l s k))

    unfoldable pub is_blank_pair : ℕ → Bool
    is_blank_pair k = eqb (start_of l s k) 0 && eqb (length_of l s k) 0

    -- "The first equals the sum of the lengths, as soundness now asks"
    unfoldable pub is_summed : Bool
    is_summed = not (has_sums l) || eqb (held_figure s) (held l s)

    -- "It is sound when the occupied texts are normal forms, all different, disjoint and together fill the room from byte 525 without
    -- gaps, and free entries and free bytes are zero." Where texts are disjoint and each lies in a room as large as all of them, they
    -- leave no gap in it.
    unfoldable pub sound : Bool
    sound =
        is_sized s
        && begins (heading l) s
        && leb (end_of l s) (length s)
        && all lies (occupied s)
        && each_two apart (occupied s)
        && all (λ k. is_normal_form (text_of l s k)) (occupied s)
        && each_two differ (occupied s)
        && all is_blank_pair (free s)
        && all (eqb 0) (drop (end_of l s) s)
        && is_summed
