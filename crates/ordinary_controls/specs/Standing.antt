-- Control elements of ordinary bytes, by the places between which they stand; and what is told of a segment by them. Assumes nothing.
use Rattle.std.specs.Prelude.{Option, Some, None, ℕ, ◌+◌, ◌-◌, ◌≤◌, ◌<◌, ◌≡◌, true, ◌||◌, List, eqb, length, get_or, take, drop, Ok}
use Rattle.lists.specs.Lists.{same, all}
use Rattle.characters.specs.declared.Characters.{Characters}
use Rattle.characters.specs.Characters.{digit}
use Rattle.values.specs.Tokens.{tokens_at}
use Rattle.control_elements.specs.declared.Positions.{Positions}
use Rattle.control_elements.specs.Control.{decimal}
use Rattle.elements.specs.Elements.{element_from, ElementAt}
use Rattle.elements.specs.Values.{value_in}
use Rattle.control_fields.specs.Fields.{field_of, spells_reference}
use Rattle.stage_control.specs.Controlling.{trailer_by, controlled_by}
use Rattle.ordinary_runs.specs.Runs.{Run}
use Rattle.ordinary_controls.specs.declared.Count.{Count}

-- ---- bytes

module _ (s : List ℕ) where
  -- the bytes between two places
  abbrev pub part : ℕ → ℕ → List ℕ
  part from to = take (to - from) (drop from s)

  -- they are ordinary, and the same from a second place on
  abbrev pub SameRun : ℕ → ℕ → ℕ → Type 0
  SameRun first second to =
      Run true s first to × ((k : ℕ) → first + k < to → (second + k < length s) × (get_or s (second + k) 0 ≡ get_or s (first + k) 0))

  -- up to six digits and the number that they spell
  pub record Counts (from : ℕ) (r : Count) : Type 0 where
    pub run : Run true s from r.end
    pub few : r.end ≤ from + 6
    pub digits : all digit (part from r.end) ≡ true
    pub number_is : r.number ≡ decimal (part from r.end)

  -- three ordinary bytes, and one more
  abbrev pub Tagged : ℕ → Type 0
  Tagged at = Run true s at (at + 3) × (at + 3 < length s)

-- ---- elements

module _ (c : Characters) (s : List ℕ) where
  -- the element between two places is as long as a reference, and ends
  pub record Refers (from end : ℕ) : Type 0 where
    pub inside : end < length s
    pub some : from < end
    pub few : end ≤ from + 14
    pub ended : (eqb (get_or s end 0) c.terminator || eqb (get_or s end 0) c.element) ≡ true

  -- a reference stands at a place, and the same value at another
  abbrev pub Repeats : ℕ → ℕ → Type 0
  Repeats from header =
      (spells_reference (field_of (tokens_at c s from)) ≡ true) × (same (value_in (tokens_at c s from)) (value_in (tokens_at c s header)) ≡ true)

  module _ (at : ℕ) where
    -- the element of that number is a reference, and begins there
    abbrev pub Heads : ℕ → Option ℕ → Type 0
    Heads position (Some r) = ElementAt c s at position r × (spells_reference (field_of (tokens_at c s r)) ≡ true)
    Heads position None = Unit {0}

    -- the second element is a reference, and stage (10 11 12) passes the trailer
    abbrev pub Trails : ℕ → ℕ → Option ℕ → Type 0
    Trails header count (Some r) =
        Heads 2 (Some r)
        × (trailer_by at (tokens_at c s r) (element_from 1 (tokens_at c s at)) (tokens_at c s header) count ≡ Ok tt)
    Trails header count None = Unit {0}

    -- stage (10 11 12) passes the segment, whose reference begins there
    abbrev pub Controls : Positions → ℕ → ℕ → Option ℕ → Type 0
    Controls p header count (Some r) = ElementAt c s at p.reference r × (controlled_by c s at p r header count ≡ Ok tt)
    Controls p header count None = Unit {0}
