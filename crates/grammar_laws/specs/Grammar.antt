-- Paper 01, "Order of segments" and "Control elements", and change request 2026-03, "Section markers", as a grammar of a list of segments.
-- Assumes nothing.
use Rattle.std.specs.Prelude.{ℕ, ◌+◌, ◌≡◌, ◌⊎◌, Bool, true, ◌||◌, List, [], ◌∷◌, ◌++◌, map, reverse, length, eqb, if◌then◌else◌}
use Rattle.lists.specs.Lists.{all, those, maybe}
use Rattle.values.specs.Tokens.{Segment}
use Rattle.segments.specs.declared.Kind.{Kind}
use Rattle.segments.specs.declared.Kind.TheVariants.{Unb, Ung, Unh, Uns, Unt, Une, Unz, User}
use Rattle.segments.specs.declared.Section.{Section}
use Rattle.segments.specs.declared.Section.TheVariants.{Detail, Summary}
use Rattle.segments.specs.Kinds.{is}
use Rattle.segments.specs.Tags.{kind_of}
use Rattle.segments.specs.Order.{messages_in, groups_in, is_complete}
use Rattle.control_elements.specs.Control.{is_reference, is_count, reference_of, count_of, decimal, reference_differs, count_wrong}
use Rattle.control_elements.specs.Sections.{section_of}
use Rattle.stages.specs.Places.{starts_where, misplaced, bad_control}

-- ---- "Order of segments"

-- a header, a middle and a trailer, and what else is asked of the three
pub record Frame
    (header trailer : Kind) (Middle : List Segment → Type 0) (Asked : Segment → List Segment → Segment → Type 0)
    (gs : List Segment) : Type 0 where
  pub head : Segment
  pub middle : List Segment
  pub tail : Segment
  pub shape : gs ≡ head ∷ (middle ++ tail ∷ [])
  pub opening : kind_of head ≡ header
  pub closing : kind_of tail ≡ trailer
  pub inside : Middle middle
  pub asked : Asked head middle tail

-- one or more pieces of a sort, end to end
pub data OneOrMore (Piece : List Segment → Type 0) : List Segment → Type 0 where
  one : {piece : List Segment} → Piece piece → OneOrMore Piece piece
  more : {before piece : List Segment} → OneOrMore Piece before → Piece piece → OneOrMore Piece (before ++ piece)

-- how many pieces
unfoldable pub size : {Piece : List Segment → Type 0} {gs : List Segment} → OneOrMore Piece gs → ℕ
size (one h) = 1
size (more hs h) = size hs + 1

-- "user segments and UNS"
unfoldable pub is_inner : Segment → Bool
is_inner g = is User (kind_of g) || is Uns (kind_of g)

-- "any number of user segments and UNS"
abbrev pub Inner : List Segment → Type 0
Inner middle = all is_inner middle ≡ true

-- the sections that the UNS segments of a middle name, in their order
abbrev pub sections_in : List Segment → List Section
sections_in middle = map section_of (those (λ g. is Uns (kind_of g)) middle)

-- change request 2026-03: "`D` or `S`, each at most once in a message, D before S if both stand"
pub data Sections : List Section → Type 0 where
  no_section : Sections []
  detail_alone : Sections (Detail ∷ [])
  summary_alone : Sections (Summary ∷ [])
  detail_summary : Sections (Detail ∷ Summary ∷ [])

-- what may stand between UNH and UNT
abbrev pub Sectioned : List Segment → Type 0
Sectioned middle = Inner middle × Sections (sections_in middle)

-- "UNT's count is the segments from UNH to UNT, both included"
abbrev pub message_count : List Segment → ℕ
message_count middle = length middle + 2

-- "UNE's is the messages of the group"
abbrev pub group_count : List Segment → ℕ
group_count middle = messages_in (map kind_of middle)

-- "UNZ's is the groups, or the messages where there are no groups."
abbrev pub interchange_count : List Segment → ℕ
interchange_count middle =
    if eqb (groups_in (map kind_of middle)) 0 then messages_in (map kind_of middle) else groups_in (map kind_of middle)

-- what is asked of a header, a middle and a trailer, by how the middle is counted
abbrev pub Asking : Type 1
Asking = (count : List Segment → ℕ) → Segment → List Segment → Segment → Type 0

module _ (asked : Asking) where
  -- "A message is UNH, any number of user segments and UNS, UNT."; its sections are in order
  abbrev pub Message : List Segment → Type 0
  Message = Frame Unh Unt Sectioned (asked message_count)

  -- "A group is UNG, one or more messages, UNE."
  abbrev pub Group : List Segment → Type 0
  Group = Frame Ung Une (OneOrMore Message) (asked group_count)

  -- "one or more groups, or one or more messages, not both"
  abbrev pub Content : List Segment → Type 0
  Content middle = OneOrMore Group middle ⊎ OneOrMore Message middle

  -- "UNB; then one or more groups, or one or more messages, not both; then UNZ and nothing more."
  abbrev pub Whole : List Segment → Type 0
  Whole = Frame Unb Unz Content (asked interchange_count)

-- the order alone
abbrev pub Ordered : List Segment → Type 0
Ordered = Whole (λ count head middle tail. Unit {0})

-- ---- "Control elements"

-- the header has a reference, the trailer's is the same, and the trailer's count is that of the middle
pub record Agrees (count : List Segment → ℕ) (head : Segment) (middle : List Segment) (tail : Segment) : Type 0 where
  pub reference : is_reference (reference_of head) ≡ true
  pub same_reference : reference_of tail ≡ reference_of head
  pub counted : is_count (count_of tail) ≡ true
  pub right_count : maybe 0 decimal (count_of tail) ≡ count middle

abbrev pub Interchange : List Segment → Type 0
Interchange = Whole Agrees

-- ---- the tests that this grammar is held to

-- no segment meets refusal 9, and the end is not before UNZ
abbrev pub InOrder : List Segment → Type 0
InOrder gs = (starts_where misplaced [] gs ≡ []) × (is_complete (reverse (map kind_of gs)) ≡ true)

-- no segment meets refusal 10, 11 or 12
abbrev pub InControl : List Segment → Type 0
InControl gs =
    (starts_where bad_control [] gs ≡ [])
    × (starts_where reference_differs [] gs ≡ [])
    × (starts_where count_wrong [] gs ≡ [])
