-- The kinds in their order, and what may follow what, kind by kind. What passed is listed with the nearest first. Assumes nothing.
use mathlib.Core.Path.{◌≡◌, refl}
use mathlib.Core.Bool.{true, false}
use mathlib.Core.List.{List, [], ◌∷◌, map}
use Rattle.lists.specs.Lists.{through, those}
use Rattle.segments.specs.declared.Kind.{Kind}
use Rattle.segments.specs.declared.Kind.TheVariants.{Unb, Ung, Unh, Uns, Unt, Une, Unz, User}
use Rattle.segments.specs.Kinds.{index, is}
use Rattle.segments.specs.Order.{messages_in, groups_in, messages_since_group, is_open, standing, inside_message, allowed_at, allowed, is_complete}

-- "UNB, UNG, UNH, UNS, UNT, UNE or UNZ", and user segments
abbrev kinds : List Kind
kinds = Unb ∷ Ung ∷ Unh ∷ Uns ∷ Unt ∷ Une ∷ Unz ∷ User ∷ []

pub indices_are : map index kinds ≡ 0 ∷ 1 ∷ 2 ∷ 3 ∷ 4 ∷ 5 ∷ 6 ∷ 7 ∷ []
indices_are = refl

-- "any number of user segments and UNS, UNT"
pub inside_are : those inside_message kinds ≡ Uns ∷ Unt ∷ User ∷ []
unfolding those inside_message is
inside_are = refl

-- the kinds of segments that may follow what passed
abbrev pub next : List Kind → List Kind
next past = those (allowed past) kinds

-- "UNB; then one or more groups, or one or more messages, not both; then UNZ and nothing more."
pub messages_follow : (next [] ≡ Unb ∷ [])
    × (next (Unb ∷ []) ≡ Ung ∷ Unh ∷ [])
    × (next (Unh ∷ Unb ∷ []) ≡ Uns ∷ Unt ∷ User ∷ [])
    × (next (Unt ∷ Unh ∷ Unb ∷ []) ≡ Unh ∷ Unz ∷ [])
    × (next (Unz ∷ Unt ∷ Unh ∷ Unb ∷ []) ≡ [])
unfolding those allowed allowed_at standing is_open inside_message groups_in messages_in messages_since_group through is
messages_follow = (refl, refl, refl, refl, refl)

-- "A group is UNG, one or more messages, UNE.": the second one too
pub groups_follow_lem : let group : List Kind = Une ∷ Unt ∷ Unh ∷ Ung ∷ Unb ∷ [] in
    (next (Ung ∷ Unb ∷ []) ≡ Unh ∷ [])
    × (next (Unh ∷ Ung ∷ Unb ∷ []) ≡ Uns ∷ Unt ∷ User ∷ [])
    × (next (Unt ∷ Unh ∷ Ung ∷ Unb ∷ []) ≡ Unh ∷ Une ∷ [])
    × (next group ≡ Ung ∷ Unz ∷ [])
    × (next (Ung ∷ group) ≡ Unh ∷ [])
    × (next (Unt ∷ Unh ∷ Ung ∷ group) ≡ Unh ∷ Une ∷ [])
    × (next (Unz ∷ group) ≡ [])
unfolding those allowed allowed_at standing is_open inside_message groups_in messages_in messages_since_group through is
groups_follow_lem = (refl, refl, refl, refl, refl, refl, refl)

-- "the end before UNZ": a UNB after it would begin another interchange
pub complete_are : (is_complete [] ≡ false)
    × (is_complete (Unb ∷ []) ≡ false)
    × (is_complete (Unt ∷ Unh ∷ Unb ∷ []) ≡ false)
    × (is_complete (Unz ∷ Unt ∷ Unh ∷ Unb ∷ []) ≡ true)
    × (is_complete (Unb ∷ Unz ∷ Unt ∷ Unh ∷ Unb ∷ []) ≡ false)
unfolding is_complete is_open is
complete_are = (refl, refl, refl, refl, refl)
