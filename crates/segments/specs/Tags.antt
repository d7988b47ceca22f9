-- Paper 01, "From bytes to values": the tag and its rule; request 2026-10: tags have one repeat. Assumes nothing.
use Rattle.std.specs.Prelude.{ℕ, Bool, not, ◌&&◌, ◌||◌, List, length, eqb}
use Rattle.lists.specs.Lists.{text, begins, all, through}
use Rattle.characters.specs.Characters.{upper, digit}
use Rattle.values.specs.Tokens.{Token, Segment, ends}
use Rattle.values.specs.Values.{bytes_of, ended_by}
use Rattle.segments.specs.declared.Kind.{Kind}
use Rattle.segments.specs.declared.Kind.TheVariants.{User}
use Rattle.segments.specs.Kinds.{is, kind_named}

-- "The first element is the tag with its repetition figures, if any": the segment's first value, with what ends it
unfoldable pub tag_piece : Segment → List Token
tag_piece segment = through (ends 3) segment

-- the tag and its repetition figures, with what ends them: the first repeat of the tag element
unfoldable pub tag_repeat : Segment → List Token
tag_repeat segment = through (ends 2) segment

unfoldable pub tag_of : Segment → List ℕ
tag_of segment = bytes_of (tag_piece segment)

unfoldable pub kind_of : Segment → Kind
kind_of segment = kind_named (tag_of segment)

-- "three bytes, each `A`-`Z` or `0`-`9`, followed by a separator or the terminator"
unfoldable pub is_tag : List ℕ → Bool
is_tag tag = eqb (length tag) 3 && all (λ b. upper b || digit b) tag

-- "A tag beginning `UN` must be UNB, UNG, UNH, UNS, UNT, UNE or UNZ, and no component separator may follow it." Request 2026-10: "6 also
-- when a repetition separator follows within a tag element", which then ends with another repeat than its first
unfoldable pub tag_rule : Segment → Bool
tag_rule segment =
    is_tag (tag_of segment)
    && ended_by 1 (tag_repeat segment)
    && (not (begins (text "UN") (tag_of segment)) || (not (is User (kind_of segment)) && ended_by 2 (tag_piece segment)))
