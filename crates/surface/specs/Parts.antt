-- The parts of the inputs that Keep and Locate's companion hand back, in the structs that cross to C:
-- which input, where the part begins in it, and how long it is. Assumes nothing.
use Rattle.std.specs.Prelude.{ℕ, List}
use Rattle.operations.specs.Compare.{Part as PartOfTwo, of_first, of_second}
use Rattle.operations.specs.Locate.{part_offset, part_length}
use Rattle.surface.specs.declared.Kept.{Kept}
use Rattle.surface.specs.declared.Part.{Part}

-- 1 for the first input, 2 for the second
unfoldable pub kept_of : PartOfTwo → Kept
kept_of (of_first offset length) = record { input = 1; offset = offset; length = length }
kept_of (of_second offset length) = record { input = 2; offset = offset; length = length }

unfoldable pub part_of : (s : List ℕ) (segment element repeat component : ℕ) → Part
part_of s segment element repeat component =
    record {
      offset = part_offset s segment element repeat component;
      length = part_length s segment element repeat component;
    }
