-- The tag of a segment by the four bytes that spell it. Assumes nothing.
use Prim.Native.Nat.{ℕ, ◌+◌, ◌<◌}
use mathlib.Core.Path.{◌≡◌, refl, sym, ap, subst, ◌∙◌}
use mathlib.Core.Bool.{Bool, true, false, not, ◌&&◌, ◌||◌, false≢true, and-false, or_comm, or-true}
use mathlib.Core.List.{List, [], ◌∷◌}
use native.Mathlib.Omega.{arith}
use lib.ListN.{length, get_or}
use lib.Dec.{eqb, leb}
use borrow.Author.Tests.{eqb-false, ne_eqb, le-leb}
use Rattle.lists.specs.Lists.{same, begins, all}
use Rattle.lists.proofs.Texts.{and_left, and_right, and_both}
use Rattle.characters.specs.declared.Characters.{Characters}
use Rattle.characters.specs.Characters.{upper, digit}
use Rattle.values.proofs.Steps.{at_plain}
use Rattle.segments.specs.declared.Kind.{Kind}
use Rattle.segments.specs.declared.Kind.TheVariants.{Unb, Ung, Unh, Uns, Unt, Une, Unz, User}
use Rattle.segments.specs.Kinds.{is, kind_named}
use Rattle.segments.specs.Tags.{is_tag, kind_of, tag_rule}
use Rattle.control_elements.specs.Positions.{position_table, positions_of}
use Rattle.scanner.specs.declared.Lexed.TheVariants.{Byte, Separator}
use Rattle.scanner.specs.Scan.{segment_at}
use Rattle.scanner.proofs.Lexing.{Lexes}
use Rattle.tags.specs.declared.Word.{Word}
use Rattle.tags.specs.Words.{begun, grown, passed, Words}
use Rattle.tags.specs.Naming.{well_named}
use Rattle.tags.proofs.Reading.{up_to_start, up_to_byte, word_ended}
use Rattle.tags.proofs.Repeats.{repeat_with_value}
use Rattle.tags.proofs.Tagging.{kind_three, rule_named}
use Rattle.ordinary_runs.specs.Runs.{is_ordinary, quiet, Run}
use Rattle.ordinary_runs.proofs.Runs.{role_plain, run_none, run_next_lem}
use Rattle.ordinary_controls.specs.Standing.{Tagged}
use Rattle.ordinary_controls.proofs.Standing.{ends_at}
use Rattle.clean_walk.specs.Clean.{SpellsTag, NamedAs}

-- ---- the rule, by three letters or digits

module _ (a b d : ℕ) (first : is_ordinary a ≡ true) (second : is_ordinary b ≡ true) (third : is_ordinary d ≡ true) where
  ordinary : is_tag (a ∷ b ∷ d ∷ []) ≡ true
  unfolding is_tag is_ordinary all
  ordinary =
      and_both (upper a || digit a) ((upper b || digit b) && ((upper d || digit d) && true)) (or_comm (upper a) (digit a) ∙ first)
      (and_both (upper b || digit b) ((upper d || digit d) && true) (or_comm (upper b) (digit b) ∙ second)
      (and_both (upper d || digit d) true (or_comm (upper d) (digit d) ∙ third) refl))

  -- without `UN` in front, which the first byte tells or the second
  other_well : (t u : Bool) → eqb a 85 ≡ t → eqb b 78 ≡ u → (not t || not u) ≡ true → true ≡ well_named (a ∷ b ∷ d ∷ []) true
  unfolding well_named begins
  other_well false u p q e = simp (ordinary, ne_eqb 85 a (λ k. eqb-false a 85 p (sym k)))
  other_well true false p q e = simp (ordinary, ne_eqb 78 b (λ k. eqb-false b 78 q (sym k)), and-false (eqb 85 a))
  other_well true true p q e = absurd (false≢true e)

  -- or of a service segment
  service_well : is User (kind_named (a ∷ b ∷ d ∷ [])) ≡ false → true ≡ well_named (a ∷ b ∷ d ∷ []) true
  unfolding well_named
  service_well h = simp (ordinary, h, or-true)

-- such a tag names no service segment
other_named : (a b d : ℕ) (t u : Bool) → eqb a 85 ≡ t → eqb b 78 ≡ u → (not t || not u) ≡ true → User ≡ kind_named (a ∷ b ∷ d ∷ [])
unfolding kind_named same
other_named a b d false u p q e = simp p
other_named a b d true false p q e = simp (p, q)
other_named a b d true true p q e = absurd (false≢true e)

-- a segment that has a reference is no user segment
reference_serves : (kind : Kind) → ((positions_of kind).reference ≡ 0 → ⊥) → is User kind ≡ false
unfolding positions_of position_table is
reference_serves Unb h = refl
reference_serves Ung h = refl
reference_serves Unh h = refl
reference_serves Uns h = refl
reference_serves Unt h = refl
reference_serves Une h = refl
reference_serves Unz h = refl
reference_serves User h = absurd (h refl)

-- ---- the four bytes

module _ (c : Characters) (s : List ℕ) where
  -- the four bytes are asked all at once
  pub spells : (at : ℕ) {calm first second third : Bool} → at + 1 + 1 + 1 < length s → calm ≡ quiet c
      → first ≡ is_ordinary (get_or s at 0) → second ≡ is_ordinary (get_or s (at + 1) 0) → third ≡ is_ordinary (get_or s (at + 1 + 1) 0)
      → (calm && (first && second && third) && (eqb (get_or s (at + 1 + 1 + 1) 0) c.terminator || eqb (get_or s (at + 1 + 1 + 1) 0) c.element)) ≡ true
      → SpellsTag c s at
  spells at {calm} {first} {second} {third} h q f g k e =
      let end = eqb (get_or s (at + 1 + 1 + 1) 0) c.terminator || eqb (get_or s (at + 1 + 1 + 1) 0) c.element in
      let named = first && second && third in
      let letters = and_right calm named (and_left (calm && named) end e) in
      let two = and_left (first && second) third letters in
      record {
        inside = h;
        calm = sym q ∙ and_left calm named (and_left (calm && named) end e);
        first = sym f ∙ and_left first second two;
        second = sym g ∙ and_right first second two;
        third = sym k ∙ and_right (first && second) third letters;
        ended = and_right (calm && named) end e;
      }

  module _ (at : ℕ) (t : SpellsTag c s at) where
    abbrev a : ℕ
    a = get_or s at 0

    abbrev b : ℕ
    b = get_or s (at + 1) 0

    abbrev d : ℕ
    d = get_or s (at + 1 + 1) 0

    -- a letter or digit is a byte of the tag
    letter : (p : ℕ) → p < length s → is_ordinary (get_or s p 0) ≡ true → Lexes c s p (Byte (get_or s p 0) p (p + 1))
    letter p h o = (at_plain c s p h (role_plain c t.calm (get_or s p 0) o), omega arith, omega arith)

    -- the tag and what ends it, as they are read
    abbrev word : ℕ → ℕ → Word
    word rank next = passed (grown (grown (grown (begun at) a (at + 1)) b (at + 1 + 1)) d (at + 1 + 1 + 1)) rank next

    word_is : {rank next : ℕ} → Lexes c s (at + 1 + 1 + 1) (Separator rank next) → Words c s at (word rank next)
    word_is l =
        let inside = t.inside in
        word_ended c s at _
        (up_to_byte c s at _
        (up_to_byte c s at _
        (up_to_byte c s at (begun at) (up_to_start c s at) (letter at (omega arith) t.first))
        (letter (at + 1) (omega arith) t.second))
        (letter (at + 1 + 1) (omega arith) t.third))
        l

    kind_is : kind_named (a ∷ b ∷ d ∷ []) ≡ kind_of (segment_at c s at)
    kind_is =
        let (rank, next, h, l) = ends_at c s (at + 1 + 1 + 1) t.inside t.ended in
        kind_three c s at (word rank next) (word_is l) refl

    rule_is : true ≡ well_named (a ∷ b ∷ d ∷ []) true → tag_rule (segment_at c s at) ≡ true
    rule_is n =
        let (rank, next, h, l) = ends_at c s (at + 1 + 1 + 1) t.inside t.ended in
        let alone : leb rank 2 ≡ true = le-leb rank 2 (omega arith) in
        sym (rule_named c s at (word rank next) (word_is l) refl (n ∙ ap (well_named (a ∷ b ∷ d ∷ [])) (sym alone)) refl)
        ∙ repeat_with_value c s at (word rank next) (word_is l) (omega arith)
        ∙ le-leb rank 1 h

    -- a user segment by its first two bytes
    pub tag_user : (not (eqb a 85) || not (eqb b 78)) ≡ true → NamedAs c s at User
    tag_user h = (
      rule_is (other_well a b d t.first t.second t.third (eqb a 85) (eqb b 78) refl refl h),
      other_named a b d (eqb a 85) (eqb b 78) refl refl h ∙ kind_is,
    )

    -- a service segment with a reference by the tag's bytes
    pub tag_service : {kind : Kind} → kind ≡ kind_named (a ∷ b ∷ d ∷ []) → ((positions_of kind).reference ≡ 0 → ⊥) → NamedAs c s at kind
    tag_service {kind} k h = (
      rule_is (service_well a b d t.first t.second t.third (ap (is User) (sym k) ∙ reference_serves kind h)),
      k ∙ kind_is,
    )

    -- the tag of a segment whose control elements are asked for as they stand
    pub tag_tagged : Tagged s at
    tag_tagged =
        let inside = t.inside in
        let there : at + 1 + 1 + 1 ≡ at + 3 = omega arith in (
          subst (Run true s at) there
              (run_next_lem s at refl (run_next_lem s at refl (run_next_lem s at refl (run_none s at) (omega arith) t.first) (omega arith) t.second) (omega arith) t.third),
          omega arith,
        )
