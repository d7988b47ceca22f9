-- Characters that are alike: each byte plays the same part in both, and is spelled with either as it stands. Assumes nothing.
use Prim.Native.Nat.{ℕ, zero, suc, ◌-◌}
use mathlib.Core.Path.{◌≡◌, refl, sym, ap, ap₂, ◌∙◌}
use mathlib.Core.Bool.{Bool, true, not, ◌&&◌, ◌||◌, and-false}
use mathlib.Core.List.{[], ◌∷◌}
use lib.Dec.{eqb}
use borrow.Author.Tests.{eqb-true, eq-eqb, not-true}
use Rattle.lists.proofs.Texts.{and_left, and_right, or_none_left, or_none_right, if_true}
use Rattle.characters.specs.declared.Characters.{Characters}
use Rattle.characters.specs.declared.Role.{Role}
use Rattle.characters.specs.declared.Role.TheVariants.{Release}
use Rattle.characters.specs.Characters.{role, is_service, service_characters, has_release, has_repetition}
use Rattle.values.specs.Spelling.{spell_byte, separator_of}
use Rattle.spelling_laws.proofs.Service.{Part, separates, releases, plain, part}
use Rattle.stretches.specs.Stretches.{stand_in, respelled}
use Rattle.stretches.specs.Releases.{alike}

-- other characters with the same five, but for the mark
abbrev marked : Characters → ℕ → Characters
marked c m =
    record { component = c.component; element = c.element; mark = m; release = c.release; repetition = c.repetition; terminator = c.terminator }

-- they have the same separators
separator_marked : (c : Characters) (m depth : ℕ) → separator_of (marked c m) depth ≡ separator_of c depth
separator_marked c m zero = refl
separator_marked c m (suc zero) = refl
separator_marked c m (suc (suc zero)) = refl
separator_marked c m (suc (suc (suc depth))) = refl

-- six bytes as characters
abbrev made : ℕ → ℕ → ℕ → ℕ → ℕ → ℕ → Characters
made m k e r p t = record { component = k; element = e; mark = m; release = r; repetition = p; terminator = t }

module _ (c n : Characters) (v : alike c n ≡ true) where
  abbrev same_release : Bool
  same_release = eqb c.release n.release

  abbrev from_terminator : Bool
  from_terminator = eqb c.terminator n.terminator && same_release

  abbrev from_repetition : Bool
  from_repetition = eqb c.repetition n.repetition && from_terminator

  abbrev from_element : Bool
  from_element = eqb c.element n.element && from_repetition

  abbrev five : Bool
  five = eqb c.component n.component && from_element

  abbrev separating : Bool
  separating =
      eqb c.release c.terminator || (eqb c.release c.element || (eqb c.release c.repetition || eqb c.release c.component))

  whole : (five && (has_release c && not separating)) ≡ true
  unfolding alike
  whole = v

  -- they differ in the mark only
  differ_in_mark : n ≡ marked c n.mark
  differ_in_mark =
      let all = and_left five (has_release c && not separating) whole in
      let four = and_right (eqb c.component n.component) from_element all in
      let three = and_right (eqb c.element n.element) from_repetition four in
      let two = and_right (eqb c.repetition n.repetition) from_terminator three in
      let k = eqb-true c.component n.component (and_left (eqb c.component n.component) from_element all) in
      let e = eqb-true c.element n.element (and_left (eqb c.element n.element) from_repetition four) in
      let p = eqb-true c.repetition n.repetition (and_left (eqb c.repetition n.repetition) from_terminator three) in
      let t = eqb-true c.terminator n.terminator (and_left (eqb c.terminator n.terminator) same_release two) in
      let r = eqb-true c.release n.release (and_right (eqb c.terminator n.terminator) same_release two) in
      sym (ap₂ (λ (x y : ℕ). made n.mark x y c.release c.repetition c.terminator) k e
      ∙ ap₂ (λ (x y : ℕ). made n.mark n.component n.element x y c.terminator) r p
      ∙ ap (made n.mark n.component n.element n.release n.repetition) t)

  -- a release character releases
  pub alike_release : has_release c ≡ true
  alike_release = and_left (has_release c) (not separating) (and_right five (has_release c && not separating) whole)

  pub alike_role : (b : ℕ) → eqb b c.release ≡ true → role c b ≡ Release
  unfolding role
  alike_role b q =
      let alone = not-true separating (and_right (has_release c) (not separating) (and_right five (has_release c && not separating) whole)) in
      let after-t = or_none_right (eqb c.release c.terminator) (eqb c.release c.element || (eqb c.release c.repetition || eqb c.release c.component)) alone in
      let after-e = or_none_right (eqb c.release c.element) (eqb c.release c.repetition || eqb c.release c.component) after-t in
      let t = or_none_left (eqb c.release c.terminator) (eqb c.release c.element || (eqb c.release c.repetition || eqb c.release c.component)) alone in
      let e = or_none_left (eqb c.release c.element) (eqb c.release c.repetition || eqb c.release c.component) after-t in
      let p = or_none_left (eqb c.release c.repetition) (eqb c.release c.component) after-e in
      let k = or_none_right (eqb c.release c.repetition) (eqb c.release c.component) after-e in
      let there = alike_release in
      ap (role c) (eqb-true b c.release q) ∙ simp (t, e, p, k, and-false, there, eq-eqb c.release c.release refl)

  -- a byte is a service character in both or in neither
  pub alike_service : (b : ℕ) → is_service n b ≡ is_service c b
  unfolding is_service service_characters has_repetition has_release
  alike_service b = ap (λ (m : Characters). is_service m b) differ_in_mark

  -- and stands for itself
  pub alike_respelled : (b : ℕ) → respelled c n b ≡ b
  unfolding respelled
  alike_respelled b = step (part c b)
    where
      step : {o : Role} → Part c b o → stand_in n o b ≡ b
      step (separates rank q e) = ap (λ (m : Characters). separator_of m (3 - rank)) differ_in_mark ∙ separator_marked c n.mark (3 - rank) ∙ sym e
      step (releases e q) = refl
      step plain = refl

  -- a service character is released in a value
  pub alike_spelled : (b : ℕ) → is_service c b ≡ true → spell_byte n b ≡ c.release ∷ b ∷ []
  unfolding spell_byte
  alike_spelled b q =
      if_true (is_service n b) (n.release ∷ b ∷ []) (b ∷ []) (alike_service b ∙ q) ∙ ap (λ (m : Characters). m.release ∷ b ∷ []) differ_in_mark
