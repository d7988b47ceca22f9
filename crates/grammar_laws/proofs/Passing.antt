-- Segments that pass, one after the other: their order is right, and they say what the rules want. What passed is a list of
-- segments, the nearest first. Assumes nothing.
use Prim.Native.Nat.{ℕ}
use mathlib.Core.Path.{◌≡◌, refl, ap, ◌∙◌}
use mathlib.Core.Logic.{◌↔◌}
use mathlib.Core.Bool.{Bool, true, false}
use mathlib.Core.List.{List, [], ◌∷◌, ◌++◌, cons-ne-nil}
use Rattle.lists.proofs.Texts.{and_both}
use Rattle.refusals.specs.Refusals.{place_if}
use Rattle.values.specs.Tokens.{Segment, start}
use Rattle.segments.specs.declared.Kind.{Kind}
use Rattle.segments.specs.declared.Kind.TheVariants.{Unb, Ung, Unh, Uns, Unt, Une, Unz, User}
use Rattle.segments.specs.Tags.{kind_of}
use Rattle.segments.specs.Order.{allowed}
use Rattle.control_elements.specs.Sections.{section_rule}
use Rattle.walk_laws.specs.Walking.{walked}
use Rattle.stages.specs.Places.{starts_where}
use Rattle.grammar_laws.specs.Grammar.{Asking, message_count, group_count, interchange_count}
use Rattle.grammar_laws.proofs.Trail.{◌▸◌, Each, none_yet, passed, each_last, each_before}
use Rattle.grammar_laws.proofs.Pieces.{kinds, number}

-- what a segment of a kind says, given what passed before it
abbrev pub Saying : Type 1
Saying = Kind → List Segment → Segment → Type 0

-- it is allowed where it stands, keeps the rule of sections, and says what it has to say
pub record Passes (Says : Saying) (past : List Segment) (g : Segment) : Type 0 where
  pub place : allowed (kinds past) (kind_of g) ≡ true
  pub marks : section_rule past g ≡ true
  pub says : Says (kind_of g) past g

-- What headers and trailers say, each where it stands, is what is asked of the frame. No other segment has to say anything of one.
pub record Rules (asked : Asking) (Says : Saying) : Type 0 where
  pub user : (past : List Segment) (g : Segment) → Says User past g
  pub section : (past : List Segment) (g : Segment) → Says Uns past g
  pub message : (head : Segment) (outer middle : List Segment) (tail : Segment) → kind_of head ≡ Unh → number Unh middle ≡ 0
      → Says Unh outer head × Says Unt (head ∷ outer ▸ middle) tail ↔ asked message_count head middle tail
  pub group : (head : Segment) (outer middle : List Segment) (tail : Segment) → kind_of head ≡ Ung → number Ung middle ≡ 0
      → Says Ung outer head × Says Une (head ∷ outer ▸ middle) tail ↔ asked group_count head middle tail
  pub interchange : (head : Segment) (middle : List Segment) (tail : Segment) → kind_of head ≡ Unb → number Unb middle ≡ 0
      → Says Unb [] head × Says Unz (head ∷ [] ▸ middle) tail ↔ asked interchange_count head middle tail

-- then each was allowed where it stood
pub walks : {Says : Saying} {past : List Segment} → Each (Passes Says) past → walked (kinds past) ≡ true
unfolding walked
walks none_yet = refl
walks (passed {past} {x} h hs) =
    and_both (allowed (kinds past) (kind_of x)) (walked (kinds past)) h.place (walks hs)

-- ---- no segment fails a test

module _ (fails : List Segment → Segment → Bool) where
  abbrev Clear : List Segment → Segment → Type 0
  Clear past g = fails past g ≡ false

  no_place : (b : Bool) (place : ℕ) (rest : List ℕ) → place_if b place ++ rest ≡ [] → (b ≡ false) × (rest ≡ [])
  unfolding place_if
  no_place true place rest h = absurd (cons-ne-nil place rest h)
  no_place false place rest h = (refl, h)

  -- where there is no place of failure, each one passes
  pub each_clear : (past gs : List Segment) → starts_where fails past gs ≡ [] → Each Clear past → Each Clear (past ▸ gs)
  unfolding starts_where
  each_clear past [] h e = e
  each_clear past (g ∷ gs) h e =
      let none = no_place (fails past g) (start g) (starts_where fails (g ∷ past) gs) h in
      each_clear (g ∷ past) gs none.1 (passed none.0 e)

  pub clear_each : (past gs : List Segment) → Each Clear (past ▸ gs) → starts_where fails past gs ≡ []
  unfolding starts_where place_if
  clear_each past [] e = refl
  clear_each past (g ∷ gs) e =
      ap (λ (b : Bool). place_if b (start g) ++ starts_where fails (g ∷ past) gs) (each_last (each_before (g ∷ past) gs e))
      ∙ clear_each (g ∷ past) gs e
