-- The part that Keep hands back, as the function names it. Assumes nothing.
use Prim.Native.Nat.{ℕ}
use mathlib.Core.Path.{◌≡◌, sym, ap, ◌∙◌}
use mathlib.Core.List.{List}
use Rattle.operations.specs.Compare.{keep}
use Rattle.compare.specs.declared.Kept.{Kept}
use Rattle.compare.specs.Parts.{part_of as part_named}
use Rattle.surface.specs.Parts.{kept_of}

-- the part that an answer names, laid out
pub kept_laid : (first second : List ℕ) {r q : Kept} → part_named r ≡ keep first second → r ≡ q → kept_of (part_named q) ≡ kept_of (keep first second)
kept_laid first second e d = ap kept_of (sym (ap part_named d) ∙ e)
