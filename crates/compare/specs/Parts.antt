-- The part of two inputs that an answer of Keep names. Assumes nothing.
use Rattle.operations.specs.Compare.{Part, of_first, of_second}
use Rattle.compare.specs.declared.Kept.{Kept}
use Rattle.compare.specs.declared.Kept.TheVariants.{First, Second}

unfoldable pub part_of : Kept → Part
part_of (First n) = of_first 0 n
part_of (Second n) = of_second 0 n
