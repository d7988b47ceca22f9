-- The rule for tags, over the tag's bytes. Assumes nothing.
use Rattle.std.specs.Prelude.{ℕ, Bool, true, false, not, ◌&&◌, ◌||◌, List}
use Rattle.lists.specs.Lists.{text, begins}
use Rattle.segments.specs.declared.Kind.{Kind}
use Rattle.segments.specs.declared.Kind.TheVariants.{Unb, Ung, Unh, Uns, Unt, Une, Unz, User}
use Rattle.segments.specs.Kinds.{is, kind_named}
use Rattle.segments.specs.Tags.{is_tag}

-- the tag keeps the rule, as far as its bytes and what ends them say; `alone` says that no component separator ends it
unfoldable pub well_named : List ℕ → Bool → Bool
well_named tag alone = is_tag tag && (not (begins (text "UN") tag) || (not (is User (kind_named tag)) && alone))

-- a kind is that of a user segment, kind by kind
abbrev pub is_user : Kind → Bool
is_user Unb = false
is_user Ung = false
is_user Unh = false
is_user Uns = false
is_user Unt = false
is_user Une = false
is_user Unz = false
is_user User = true
