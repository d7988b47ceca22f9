-- What Judge answers for an allowed input: its messages and groups are counted piece by piece, as the grammar has them.
-- Assumes nothing.
use Rattle.std.specs.Prelude.{ℕ, ◌+◌, List, [], ◌∷◌, ◌++◌, length}
use Rattle.std.proofs.Common.{⊎_elim}
use Rattle.characters.specs.Characters.{spelled_out, characters_of}
use Rattle.values.specs.Tokens.{Segment}
use Rattle.stages.specs.Contents.{normal_form}
use Rattle.grammar_laws.specs.Grammar.{OneOrMore, one, more, size, Group, Agrees, Interchange}
use Rattle.acceptance_laws.specs.Allowed.{Allowed}

-- the messages of each group, added up
unfoldable pub messages_of : {gs : List Segment} → OneOrMore (Group Agrees) gs → ℕ
messages_of (one g) = size g.inside
messages_of (more gs g) = messages_of gs + size g.inside

-- an interchange holds groups, or messages that are in none
unfoldable pub messages : {gs : List Segment} → Interchange gs → ℕ
messages i = ⊎_elim messages_of size i.inside

unfoldable pub groups : {gs : List Segment} → Interchange gs → ℕ
groups i = ⊎_elim size (λ h. 0) i.inside

-- "service characters, counts of segments, messages and groups, length of the normal form"
abbrev pub told : (s : List ℕ) → Allowed s → List ℕ
told s a =
    spelled_out (characters_of s)
    ++ length a.spelled.list ∷ messages a.order ∷ groups a.order ∷ length (normal_form s) ∷ []
