-- The kinds of segments: the tags that name them, and their numbers. Assumes nothing.
use Rattle.std.specs.Prelude.{ℕ, Bool, List, eqb, if◌then◌else◌}
use Rattle.lists.specs.Lists.{text, same}
use Rattle.segments.specs.declared.Kind.{Kind}
use Rattle.segments.specs.declared.Kind.TheVariants.{Unb, Ung, Unh, Uns, Unt, Une, Unz, User}

-- the place of a kind in the tables; a user segment is the last
abbrev pub index : Kind → ℕ
index Unb = 0
index Ung = 1
index Unh = 2
index Uns = 3
index Unt = 4
index Une = 5
index Unz = 6
index User = 7

unfoldable pub is : Kind → Kind → Bool
is kind other = eqb (index other) (index kind)

-- the kind of segment that a tag names
unfoldable pub kind_named : List ℕ → Kind
kind_named tag =
    if same tag (text "UNB") then Unb
    else (if same tag (text "UNG") then Ung
    else (if same tag (text "UNH") then Unh
    else (if same tag (text "UNS") then Uns
    else (if same tag (text "UNT") then Unt
    else (if same tag (text "UNE") then Une
    else (if same tag (text "UNZ") then Unz
    else User))))))
