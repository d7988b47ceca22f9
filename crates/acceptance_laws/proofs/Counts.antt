-- The counts are those of the contents: messages are as many as UNH, groups as many as UNG, however they are counted.
-- Assumes nothing.
use Prim.Native.Nat.{◌+◌}
use mathlib.Core.Path.{◌≡◌, refl, sym, ap, ◌∙◌}
use mathlib.Core.Logic.{⊎_elim, inl, inr}
use mathlib.Core.List.{List, [], ◌∷◌, map, reverse}
use native.Mathlib.Omega.{arith}
use native.Mathlib.Nat.{zero-add}
use lib.ListN.{length}
use Rattle.lists.specs.Lists.{those}
use Rattle.values.specs.Tokens.{Segment}
use Rattle.segments.specs.declared.Kind.{Kind}
use Rattle.segments.specs.declared.Kind.TheVariants.{Ung, Unh}
use Rattle.segments.specs.Kinds.{is}
use Rattle.segments.specs.Tags.{kind_of}
use Rattle.grammar_laws.specs.Grammar.{Frame, OneOrMore, one, more, size, Group, Content, Agrees, Interchange}
use Rattle.grammar_laws.proofs.Trail.{▸-map}
use Rattle.grammar_laws.proofs.Pieces.{number, number-▸, number_append, number_frame, messages_size, groups_size, messages_groups}
use Rattle.acceptance_laws.specs.Counts.{messages_of, messages, groups}

module _ (kind : Kind) where
  -- the segments of a kind, in the order of the input or the last first
  pub number_back : (gs : List Segment) → length (those (is kind) (reverse (map kind_of gs))) ≡ number kind gs
  unfolding those
  number_back gs =
      ap (λ (l : List Kind). length (those (is kind) l)) (sym (▸-map kind_of [] gs)) ∙ number-▸ kind [] gs ∙ zero-add (number kind gs)

  -- a frame whose header and trailer are of other kinds has those of its middle
  number_middle : {header trailer : Kind} {Middle : List Segment → Type 0} {Asked : Segment → List Segment → Segment → Type 0}
      {gs : List Segment} (f : Frame header trailer Middle Asked gs)
      → length (those (is kind) (header ∷ [])) + length (those (is kind) (trailer ∷ [])) ≡ 0 → number kind gs ≡ number kind f.middle
  number_middle f others = omega (arith, number_frame kind f, others)

-- the messages of groups are as many as UNH
group_messages : {gs : List Segment} (h : OneOrMore (Group Agrees) gs) → number Unh gs ≡ messages_of h
unfolding messages_of those is
group_messages (one g) = number_middle Unh g refl ∙ messages_size Agrees g.inside
group_messages (more {before} {piece} gs g) =
    omega (arith, number_append Unh before piece, group_messages gs, number_middle Unh g refl, messages_size Agrees g.inside)

module _ {gs : List Segment} (i : Interchange gs) where
  pub message_headers : messages i ≡ number Unh gs
  unfolding messages those is
  message_headers = sym (number_middle Unh i refl ∙ inner i.inside)
    where
      inner : (h : Content Agrees i.middle) → number Unh i.middle ≡ ⊎_elim messages_of size h
      inner (inl h) = group_messages h
      inner (inr h) = messages_size Agrees h

  pub group_headers : groups i ≡ number Ung gs
  unfolding groups those is
  group_headers = sym (number_middle Ung i refl ∙ inner i.inside)
    where
      inner : (h : Content Agrees i.middle) → number Ung i.middle ≡ ⊎_elim size (λ m. 0) h
      inner (inl h) = groups_size Agrees h
      inner (inr h) = messages_groups Agrees i.middle h
