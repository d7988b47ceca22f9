-- The level that a header names, from the values of its name and its version where they are spelled. Assumes nothing.
use Rattle.std.specs.Prelude.{if◌then◌else◌, Option as Perhaps, None, Some}
use Prim.Native.Nat.{ℕ}
use mathlib.Core.Path.{◌≡◌, refl, sym, ap, ap₂, ◌∙◌}
use mathlib.Core.Bool.{Bool, true, false, not, ◌&&◌, ◌||◌, and-false}
use mathlib.Core.List.{List, [], ◌∷◌}
use mathlib.Core.Option.{Option, none, some}
use borrow.Author.Tests.{eq-eqb, ne_eqb}
use Rattle.lists.specs.Lists.{text, same, through, at, maybe}
use Rattle.lists.proofs.Texts.{if_true, if_false}
use Rattle.characters.specs.declared.Characters.{Characters}
use Rattle.characters.specs.Characters.{has_repetition}
use Rattle.values.specs.Tokens.{Token, ends, tokens_at}
use Rattle.values.specs.Trimming.{contents_of, value_at}
use Rattle.levels.specs.Levels.{level_named, syntax_identifier, is_version4, is_old_version, is_our_version, level_in, level_of, has_version4}
use Rattle.stages.specs.Contents.{normal_repetition}
use Rattle.scanner.specs.Scan.{segment_at}
use Rattle.elements.specs.Elements.{ElementAt, ComponentAt, component_from, piece_from}
use Rattle.elements.specs.Values.{value_in}
use Rattle.trimmed_values.specs.Trimmed.{value_from, is_unrepeated}
use Rattle.trimmed_values.proofs.Trimmed.{in_turn_lem}
use Rattle.trimmed_values.proofs.Contents.{first_repeat, repeat_read, value_read}
use Rattle.stage_level.specs.Heading.{is_version}

-- a repeat names its level, and version 4, by its first two values
named : (c : Characters) (o : Option (List (List ℕ)))
    → maybe none (level_in c) o
    ≡ (if maybe false (is_version c) (maybe none (λ values. at values 1) o) then maybe none level_named (maybe none (λ values. at values 0) o) else none)
unfolding maybe level_in is_our_version is_version4 is_old_version is_version
named c none = refl
named c (some values) =
    ap (λ (b : Bool). if b then maybe none level_named (at values 0) else none) (asked (at values 1))
  where
    asked : (o : Option (List ℕ))
        → (maybe false (λ version. same version (text "4")) o
        || (not (has_repetition c) && maybe false (λ version. same version (text "1") || same version (text "2")) o))
        ≡ maybe false (is_version c) o
    asked none = and-false (not (has_repetition c))
    asked (some version) = refl

-- a version of ours: 4 is one, and where there is no repetition separator 1 and 2 are
module _ (c : Characters) (v : List ℕ) where
  pub version_four : same v (text "4") ≡ true → true ≡ is_version c v
  unfolding is_version
  version_four h = simp h

  module _ (h : same v (text "4") ≡ false) where
    pub version_repeating : (c.repetition ≡ 32 → ⊥) → false ≡ is_version c v
    unfolding is_version has_repetition
    version_repeating n = simp (h, ne_eqb c.repetition 32 n)

    module _ (e : c.repetition ≡ 32) where
      pub version_old : is_version c v ≡ (same v (text "1") || same v (text "2"))
      unfolding is_version has_repetition
      version_old = simp (h, eq-eqb c.repetition 32 e)

fourth : (o : Option (List (List ℕ)))
    → maybe false is_version4 o ≡ maybe false (λ version. same version (text "4")) (maybe none (λ values. at values 1) o)
unfolding maybe is_version4
fourth none = refl
fourth (some values) = refl

module _ (c : Characters) (s : List ℕ) (start : ℕ) {name : ℕ} (e : ElementAt c s start 1 name) where
  -- the level that the header at `start` names
  abbrev header_level : Perhaps ℕ
  header_level = maybe None Some (level_of c (segment_at c s start))

  -- and the fifth byte of its normal form
  abbrev header_repetition : ℕ
  header_repetition = normal_repetition (contents_of (segment_at c s start) ∷ [])

  -- element 1 is one repeat, or names nothing
  identifier : {b : Bool} → is_unrepeated (tokens_at c s name) ≡ b
      → syntax_identifier (contents_of (segment_at c s start)) ≡ (if b then first_repeat (tokens_at c s start) 1 else none)
  unfolding syntax_identifier segment_at
  identifier h =
      repeat_read (tokens_at c s start) 1
      ∙ ap (λ (b : Bool). if b then first_repeat (tokens_at c s start) 1 else none) (ap is_unrepeated (sym e.0) ∙ h)

  pub level_repeated : is_unrepeated (tokens_at c s name) ≡ false → None ≡ header_level
  unfolding maybe level_of
  level_repeated h = sym (ap (λ (o : Option (List (List ℕ))). maybe None Some (maybe none (level_in c) o)) (identifier h))

  pub repetition_repeated : is_unrepeated (tokens_at c s name) ≡ false → 32 ≡ header_repetition
  unfolding maybe normal_repetition has_version4 at
  repetition_repeated h = sym (ap (λ (o : Option (List (List ℕ))). if maybe false is_version4 o then 42 else 32) (identifier h))

  module _ {version : ℕ} (d : ComponentAt c s name 1 version) (h : is_unrepeated (tokens_at c s name) ≡ true) where
    -- the values of the repeat where they are spelled: the version is the second, the name the first
    spelled_value : {B : Type 0} (ask : Option (List ℕ) → B) (k : ℕ) → ask (some []) ≡ ask none
        → ask (maybe none (λ values. at values k) (first_repeat (tokens_at c s start) 1)) ≡ ask (some (value_in (value_from 1 0 k (tokens_at c s start))))
    unfolding value_at
    spelled_value ask k blind =
        ap ask (sym (in_turn_lem (λ values. at values k) 0 (at (contents_of (through (ends 0) (tokens_at c s start))) 1)))
        ∙ value_read ask blind (tokens_at c s start) 1 0 k

    by_values : level_of c (segment_at c s start)
        ≡ (if is_version c (value_in (tokens_at c s version)) then level_named (value_in (tokens_at c s name)) else none)
    unfolding level_of is_version level_named same maybe piece_from
    by_values =
        ap (maybe none (level_in c)) (identifier h)
        ∙ named c (first_repeat (tokens_at c s start) 1)
        ∙ ap₂ (λ (b : Bool) (o : Option ℕ). if b then o else none)
        (spelled_value (maybe false (is_version c)) 1 (and-false (not (has_repetition c)))
        ∙ ap (λ (ts : List Token). is_version c (value_in ts)) (sym (d.0 ∙ ap (component_from 1) e.0)))
        (spelled_value (maybe none level_named) 0 refl ∙ ap (λ (ts : List Token). level_named (value_in ts)) (sym e.0))

    -- it is not ours
    pub level_other : is_version c (value_in (tokens_at c s version)) ≡ false → None ≡ header_level
    unfolding maybe
    level_other o =
        ap (maybe None Some) (sym (by_values ∙ if_false (is_version c (value_in (tokens_at c s version))) _ none o))

    -- it is ours, and the name tells
    pub level_ours : is_version c (value_in (tokens_at c s version)) ≡ true
        → maybe None Some (level_named (value_in (tokens_at c s name))) ≡ header_level
    level_ours o =
        ap (maybe None Some) (sym (by_values ∙ if_true (is_version c (value_in (tokens_at c s version))) _ none o))

    -- the version gives the fifth byte
    pub repetition_is : {b : Bool} → b ≡ same (value_in (tokens_at c s version)) (text "4") → (if b then 42 else 32) ≡ header_repetition
    unfolding normal_repetition has_version4 same maybe at piece_from
    repetition_is {b} q =
        ap (λ (x : Bool). if x then 42 else 32)
        (q
        ∙ ap (λ (ts : List Token). same (value_in ts) (text "4")) (d.0 ∙ ap (component_from 1) e.0)
        ∙ sym
        (ap (maybe false is_version4) (identifier h)
        ∙ fourth (first_repeat (tokens_at c s start) 1)
        ∙ spelled_value (maybe false (λ version. same version (text "4"))) 1 refl))
