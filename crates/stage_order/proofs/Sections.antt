-- The section that a UNS names in its trimmed contents, by its first element where that is spelled. Assumes nothing.
use Rattle.std.specs.Prelude.{if◌then◌else◌}
use Prim.Native.Nat.{ℕ}
use mathlib.Core.Path.{◌≡◌, refl, sym, ap, ◌∙◌}
use mathlib.Core.Bool.{Bool, true, false}
use mathlib.Core.List.{List}
use mathlib.Core.Option.{none, some}
use Rattle.lists.specs.Lists.{same, maybe}
use Rattle.characters.specs.declared.Characters.{Characters}
use Rattle.values.specs.Tokens.{Token, tokens_at}
use Rattle.segments.specs.declared.Section.TheVariants.{None}
use Rattle.control_elements.specs.Sections.{section_named, section_of}
use Rattle.scanner.specs.Scan.{segment_at}
use Rattle.elements.specs.Elements.{ElementAt}
use Rattle.elements.specs.Values.{value_in}
use Rattle.trimmed_values.specs.Trimmed.{is_alone}
use Rattle.trimmed_values.proofs.Contents.{element_read}
use Rattle.stage_order.specs.Ordering.{section_from}

-- the question of an element that is one component
named : (b : Bool) (value : List ℕ) → maybe None section_named (if b then some value else none) ≡ (if b then section_named value else None)
unfolding maybe
named true value = refl
named false value = refl

pub section_read : (c : Characters) (s : List ℕ) (at : ℕ) {from : ℕ} → ElementAt c s at 1 from
    → section_from (tokens_at c s from) ≡ section_of (segment_at c s at)
unfolding section_from section_of segment_at section_named same maybe
section_read c s at {from} e =
    sym (named (is_alone (tokens_at c s from)) (value_in (tokens_at c s from)))
    ∙ ap (λ (ts : List Token). maybe None section_named (if is_alone ts then some (value_in ts) else none)) e.0
    ∙ sym (element_read (maybe None section_named) refl (tokens_at c s at) 1)
