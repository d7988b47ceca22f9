-- Paper 01, "Control elements": what a count and a reference look like, and what a trailer says of what it closes. Request 2026-10:
-- "Control elements .. have one repeat and document 01's lengths (house)."
-- What passed is a list of segments, the nearest first. Assumes nothing.
use Rattle.std.specs.Prelude.{ℕ, ◌+◌, ◌*◌, ◌-◌, Bool, true, false, not, ◌&&◌, ◌||◌, List, [], ◌∷◌, map, length, eqb, if◌then◌else◌}
use Rattle.std.proofs.Math.Option.{Option, none, some}
use Rattle.lists.specs.Lists.{same, all, first, at, single, maybe}
use Rattle.characters.specs.Characters.{between, digit}
use Rattle.values.specs.Tokens.{Segment}
use Rattle.values.specs.Trimming.{contents_of}
use Rattle.segments.specs.declared.Kind.{Kind}
use Rattle.segments.specs.declared.Kind.TheVariants.{Unb, Ung, Unh, Uns, Unt, Une, Unz, User}
use Rattle.segments.specs.Kinds.{is}
use Rattle.segments.specs.Tags.{kind_of}
use Rattle.segments.specs.Order.{segments_since_header, messages_since_group, messages_in, groups_in}
use Rattle.control_elements.specs.Positions.{positions_of}

-- ---- what they look like

-- "one component": of one repeat, which has one component
unfoldable pub only_value : List (List (List ℕ)) → Option (List ℕ)
only_value element = maybe none single (single element)

-- "Elements are numbered from 1 after the tag and judged as they stand in the trimmed contents."
unfoldable pub control_element : Segment → ℕ → Option (List ℕ)
control_element segment position = maybe none only_value (at (contents_of segment) position)

-- "A reference is one component of 1 to 14 bytes"
unfoldable pub is_reference : Option (List ℕ) → Bool
is_reference element = maybe false (λ value. between 1 14 (length value)) element

-- "a count is one component of 1 to 6 digits (leading zeros allowed)"
unfoldable pub is_count : Option (List ℕ) → Bool
is_count element = maybe false (λ value. between 1 6 (length value) && all digit value) element

-- there is none, or it is as it has to be
unfoldable pub stands_well : ℕ → (Option (List ℕ) → Bool) → Segment → Bool
stands_well position test segment = eqb position 0 || test (control_element segment position)

-- refusal 10: "control element of a service segment not as above"
unfoldable pub control_rule : Segment → Bool
control_rule segment =
    let positions = positions_of (kind_of segment) in
    stands_well positions.count is_count segment && stands_well positions.reference is_reference segment

-- ---- what a trailer says

-- the header that a trailer closes
unfoldable pub header_of : Kind → Option Kind
header_of Unb = none
header_of Ung = none
header_of Unh = none
header_of Uns = none
header_of Unt = some Unh
header_of Une = some Ung
header_of Unz = some Unb
header_of User = none

unfoldable pub reference_of : Segment → Option (List ℕ)
reference_of segment = control_element segment (positions_of (kind_of segment)).reference

unfoldable pub same_value : Option (List ℕ) → Option (List ℕ) → Bool
same_value none none = true
same_value none (some w) = false
same_value (some v) none = false
same_value (some v) (some w) = same v w

-- the reference of the nearest segment of a kind
abbrev pub nearest_reference : Kind → List Segment → Option (List ℕ)
nearest_reference kind past = maybe none reference_of (first (λ g. is kind (kind_of g)) past)

-- refusal 11: "trailer's reference differs from its header's", which is the nearest
unfoldable pub reference_differs : List Segment → Segment → Bool
reference_differs past segment =
    maybe false (λ header. not (same_value (reference_of segment) (nearest_reference header past))) (header_of (kind_of segment))

-- the number that digits spell
unfoldable pub decimal_from : ℕ → List ℕ → ℕ
decimal_from n [] = n
decimal_from n (d ∷ ds) = decimal_from (n * 10 + (d - 48)) ds

unfoldable pub decimal : List ℕ → ℕ
decimal ds = decimal_from 0 ds

-- "UNT's count is the segments from UNH to UNT, both included; UNE's is the messages of the group; UNZ's is the groups, or the messages where there are no groups."
unfoldable pub true_count : Kind → List Kind → Option ℕ
true_count Unb past = none
true_count Ung past = none
true_count Unh past = none
true_count Uns past = none
true_count Unt past = some (segments_since_header (Unt ∷ past))
true_count Une past = some (messages_since_group past)
true_count Unz past = some (if eqb (groups_in past) 0 then messages_in past else groups_in past)
true_count User past = none

unfoldable pub count_of : Segment → Option (List ℕ)
count_of segment = control_element segment (positions_of (kind_of segment)).count

-- refusal 12: "trailer's count wrong"; a malformed count is met by 10 at the same place
unfoldable pub count_wrong : List Segment → Segment → Bool
count_wrong past segment =
    maybe false (λ count. not (eqb (maybe 0 decimal (count_of segment)) count)) (true_count (kind_of segment) (map kind_of past))
