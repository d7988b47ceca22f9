-- Trimming does what the paper's words say, and nothing more when done again; what had the shape of a list of segments keeps it; and two
-- lists have the same trimmed contents exactly where they differ by empty ends alone. Assumes nothing.
use mathlib.Core.Path.{◌≡◌, refl}
use mathlib.Core.Bool.{true, false≢true}
use mathlib.Core.List.{[], ◌∷◌}
use mathlib.Core.Logic.{◌↔◌}
use Rattle.lists.specs.Lists.{is_empty}
use Rattle.lists.proofs.Texts.{all_map}
use Rattle.nesting_laws.proofs.Trimmed.{each_map, each_only, trim_trimmed, trim_only}
use Rattle.nesting_laws.proofs.Again.{map_again, trim_again, trim_shaped}
use Rattle.nesting_laws.proofs.Ends.{same_trims}
use Rattle.values.specs.Trimming.{trim_repeat, trim_element, trim_segment}
use Rattle.values.specs.Spelling.{Bytes, SegmentList}
use Rattle.operations.specs.ValueList.{trim_list}
use Rattle.spelling_laws.specs.Bodies.{shaped_segment, Shaped}
use Rattle.trimming_laws.specs.Trimmed.{TrimmedList}
use Rattle.trimming_laws.specs.Ends.{DifferByEnds}

pub trim_list_trimmed : (list : SegmentList) → TrimmedList list (trim_list list)
unfolding TrimmedList trim_list trim_segment trim_element trim_repeat
trim_list_trimmed list = each_map (trim_segment is_empty) (trim_trimmed Bytes is_empty 3) list

pub list_only : (list left : SegmentList) → TrimmedList list left → trim_list list ≡ left
unfolding TrimmedList trim_list trim_segment trim_element trim_repeat
list_only list left h = each_only (trim_segment is_empty) (trim_only Bytes is_empty 3) h

pub trim_list_again : (list : SegmentList) → trim_list (trim_list list) ≡ trim_list list
unfolding trim_list trim_segment trim_element trim_repeat
trim_list_again list = map_again (trim_segment is_empty) (trim_again Bytes is_empty 3) list

pub trim_list_shaped : (list : SegmentList) → Shaped list → Shaped (trim_list list)
unfolding Shaped shaped_segment trim_list trim_segment trim_element trim_repeat
trim_list_shaped list h = all_map (trim_segment is_empty) shaped_segment shaped_segment (trim_shaped Bytes is_empty 3) list h

pub same_trimmed : (list other : SegmentList) → (trim_list list ≡ trim_list other) ↔ DifferByEnds list other
unfolding trim_list trim_segment trim_element trim_repeat is_empty
same_trimmed list other = same_trims Bytes is_empty [] refl only_empty 3 list other
  where
    only_empty : (value : Bytes) → is_empty value ≡ true → value ≡ []
    only_empty [] h = refl
    only_empty (b ∷ bs) h = absurd (false≢true h)
