-- Tables written out, as trees. Assumes nothing.
use Prim.Native.Nat.{ℕ, zero, suc, ◌+◌, ◌*◌}
use Prim.Native.String.{String}
use mathlib.Core.Path.{◌≡◌, refl}
use mathlib.Core.Bool.{true, false}
use mathlib.Core.List.{List, [], ◌∷◌, ◌++◌}
use Rattle.lists.specs.Lists.{text, same, member, at, maybe}
use Rattle.numbers.specs.Numbers.{read_on, number_at}
use Rattle.message_tables.specs.Entries.{entry_of, entries_in, whole_entries, entries_of, is_group, is_mandatory}
use Rattle.message_tables.specs.Structure.{done, entry, lead_of, held_by, level, levels, structure_of, tags_in, segment_tags}

-- numbers below 256
abbrev segment : (tag status : String) (repeats : ℕ) → List ℕ
segment tag status repeats = text tag ++ text status ++ 0 ∷ repeats ∷ 0 ∷ 0 ∷ []

abbrev group : (status : String) (repeats under : ℕ) → List ℕ
group status repeats under = 0 ∷ 0 ∷ 0 ∷ (text status ++ 0 ∷ repeats ∷ 0 ∷ under ∷ [])

-- a group within a group, and segments before, between and after
abbrev branching : List ℕ
branching =
    segment "BGM" "M" 1
    ++ group "C" 9 4
    ++ segment "NAD" "M" 1
    ++ group "M" 2 1
    ++ segment "CTA" "M" 1
    ++ segment "COM" "C" 3
    ++ segment "UNS" "C" 1

pub structure_is : structure_of branching
    ≡ entry true 1 (text "BGM") done
    (entry false 9 (text "NAD") (entry true 2 (text "CTA") done (entry false 3 (text "COM") done done)) (entry false 1 (text "UNS") done done))
unfolding structure_of levels level lead_of held_by entries_of entries_in whole_entries entry_of number_at read_on is_group is_mandatory same member at maybe
structure_is = refl

-- the tags of the segments, in the table and in the tree
pub tags_are : (segment_tags (entries_of branching) ≡ text "BGM" ∷ text "NAD" ∷ text "CTA" ∷ text "COM" ∷ text "UNS" ∷ [])
    × (tags_in (structure_of branching) ≡ text "BGM" ∷ text "NAD" ∷ text "CTA" ∷ text "COM" ∷ text "UNS" ∷ [])
unfolding segment_tags tags_in structure_of levels level lead_of held_by entries_of entries_in whole_entries entry_of number_at read_on is_group is_mandatory same member at maybe
tags_are = (refl, refl)

-- so many groups, each in the one before, and a segment in the innermost
abbrev deep : ℕ → List ℕ
deep zero = segment "END" "C" 1
deep (suc n) = group "C" 1 (2 * n + 2) ++ (text "A0" ++ (48 + n) ∷ text "M") ++ 0 ∷ 1 ∷ 0 ∷ 0 ∷ deep n

-- what stands eight deep is in the tree
pub deep_is : tags_in (structure_of (deep 8))
    ≡ text "A07" ∷ text "A06" ∷ text "A05" ∷ text "A04" ∷ text "A03" ∷ text "A02" ∷ text "A01" ∷ text "A00" ∷ text "END" ∷ []
unfolding tags_in structure_of levels level lead_of held_by entries_of entries_in whole_entries entry_of number_at read_on is_group is_mandatory same member at maybe
deep_is = refl
