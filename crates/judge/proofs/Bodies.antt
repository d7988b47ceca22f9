-- What is known of an input that its first stages pass: how long it is and how its body reads; and so of one that is accepted.
-- Assumes nothing.
use Prim.Native.Nat.{ℕ, ◌+◌, ◌≤◌, ◌<◌}
use mathlib.Core.Path.{◌≡◌, refl, ap, ◌∙◌}
use mathlib.Core.Bool.{true, false, not}
use mathlib.Core.List.{List, [], ◌∷◌, append-eq-nil_iff}
use mathlib.Core.Option.{none}
use native.Mathlib.Decide.{dec_le}
use native.Mathlib.Nat.{lt_of_not-le}
use native.Mathlib.Omega.{arith}
use lib.Dec.{eqb, leb}
use borrow.Author.Tests.{eqb-true, leb-true, le-leb}
use lib.ListN.{length, length-append, length-drop}
use Rattle.lists.specs.Lists.{member, all, any, those, gather}
use Rattle.lists.proofs.Tests.{all_from, tested_from}
use Rattle.lists.proofs.Texts.{and_both}
use Rattle.characters.specs.declared.Characters.{Characters}
use Rattle.characters.specs.Characters.{between, upper, lower, digit, characters_of, body_start, body, advice_of, spelled_out, opens}
use Rattle.refusals.specs.declared.Fault.TheVariants.{TooLong, NoOpening, StrayRelease, UnendedSegment}
use Rattle.refusals.specs.Refusals.{place_if, answering}
use Rattle.refusals.proofs.Stages.{place_none, place_none_not}
use Rattle.values.specs.Tokens.{Token, byte, separator, fault, place_of, tokens_at}
use Rattle.values.specs.Values.{is_fault, ends_inside}
use Rattle.values.specs.Spelling.{spell}
use Rattle.levels.specs.Levels.{in_level_a, in_level_b, class_of, in_level}
use Rattle.stages.specs.Contents.{body_tokens, segments_of, contents, normal_characters, normal_repetition, interchange, normal_form}
use Rattle.stages.specs.Places.{too_long, no_opening, stray_releases, unended_segment, level, place_outside}
use Rattle.stages.specs.Stages.{places_of, brackets, brackets_in, stages_in, stages, refusal_of}
use Rattle.stages.proofs.Over.{within}
use Rattle.stages.proofs.Stages.{unmet, run_none}
use Rattle.emission_laws.specs.Emission.{nothing, emitted}
use Rattle.emission_laws.proofs.Theorems.{contents_emitted, contents_bound}
use Rattle.verbatim.specs.Verbatim.{faultless, is_visible, visible}
use Rattle.stage_opening.specs.declared.Found.{Found}
use Rattle.stage_opening.specs.Runs.{found_by}
use Rattle.stage_opening.proofs.Beginnings.{opens_fits}
use Rattle.refusals.specs.Limits.{most_bytes}

-- where no token is at a stray release character's place, none is a fault
none_stray : (ts : List Token) → gather (λ t. place_if (is_fault t) (place_of t)) ts ≡ [] → faultless ts ≡ true
unfolding faultless all gather is_fault place_if
none_stray [] e = refl
none_stray (byte b from place ∷ ts) e = none_stray ts e
none_stray (separator rank place ∷ ts) e = none_stray ts e
none_stray (fault place ∷ ts) e = absurd (omega (arith, ap length e))

-- no byte below the space is in a level
low_classless : (b : ℕ) → b < 32 → class_of b ≡ 0
unfolding all_from class_of in_level_a in_level_b upper lower digit between member
low_classless b h = eqb-true (class_of b) 0 (tested_from (λ n. eqb (class_of n) 0) 0 32 refl b (omega arith) (omega arith))

level_visible : (level b : ℕ) → (level ≡ 0 → ⊥) → in_level level b ≡ true → leb 32 b ≡ true
unfolding in_level
level_visible level b n h =
    elim (dec_le 32 b) [
      | yes k ↦ le-leb 32 b k
      | no k ↦ absurd (n (omega (arith, leb-true level (class_of b) h, low_classless b (lt_of_not-le k))))
    ]

-- where no byte of a value is outside the level, none is below the space
pub none_outside : (s : List ℕ) → (level s ≡ 0 → ⊥) → (ts : List Token) → gather (place_outside s) ts ≡ [] → visible ts ≡ true
unfolding visible is_visible all gather place_outside
none_outside s n [] e = refl
none_outside s n (byte b from place ∷ ts) e =
    let (here, rest) = (append-eq-nil_iff {p = place_if (not (in_level (level s) b)) place} {q = gather (place_outside s) ts}).0 e in
    and_both (leb 32 b) (visible ts) (level_visible (level s) b n ((place_none_not (in_level (level s) b) place).0 here)) (none_outside s n ts rest)
none_outside s n (separator rank place ∷ ts) e = none_outside s n ts e
none_outside s n (fault place ∷ ts) e = none_outside s n ts e

module _ (s : List ℕ) where
  -- the tokens from where the body begins are the body's
  pub tokens_here : tokens_at (characters_of s) s (body_start s) ≡ body_tokens s
  unfolding body_tokens body tokens_at
  tokens_here = refl

  -- and so with what was found
  pub body_tokens_lem : (last : ℕ) {found : Found} → found ≡ found_by last s → tokens_at found.characters s found.start ≡ body_tokens s
  unfolding found_by
  body_tokens_lem last e = ap (λ (f : Found). tokens_at f.characters s f.start) e ∙ tokens_here

  -- ---- 1 to 6 pass

  module _ (e : answering (stages_in s 1 6) ≡ none) where
    pub short : length s ≤ most_bytes
    unfolding brackets_in brackets those all any places_of too_long
    short = (within s 0).0 (unmet s 1 6 e TooLong refl)

    pub begun : body_start s + 4 ≤ length s
    unfolding brackets_in brackets those all any places_of no_opening
    begun = opens_fits s ((place_none_not (opens s) (body_start s)).0 (unmet s 1 6 e NoOpening refl))

    pub ended : ends_inside (body_tokens s) ≡ false
    unfolding brackets_in brackets those all any places_of unended_segment
    ended = (place_none (ends_inside (body_tokens s)) (length s)).0 (unmet s 1 6 e UnendedSegment refl)

    pub sound : faultless (body_tokens s) ≡ true
    unfolding brackets_in brackets those all any places_of stray_releases
    sound = none_stray (body_tokens s) (unmet s 1 6 e StrayRelease refl)

    -- the length of the normal form, as it is measured with its six characters
    abbrev normal : Characters
    normal = normal_characters (characters_of s).mark (normal_repetition (contents s))

    abbrev measure : ℕ
    measure = length (emitted normal nothing (body_tokens s))

    pub form_length : measure + 9 ≡ length (normal_form s)
    unfolding normal_form interchange contents segments_of body_tokens advice_of spelled_out
    form_length =
        let n = normal in
        omega (arith, length-append (advice_of n) (spell n (contents s)), ap length (contents_emitted n (characters_of s) (body_start s) (body s) ended))

    -- it is not too long to count
    pub measure_bound : measure ≤ 64000
    unfolding body_tokens body
    measure_bound =
        let n = normal in
        omega (
          arith,
          ap length (contents_emitted n (characters_of s) (body_start s) (body s) ended),
          contents_bound n (characters_of s) (body_start s) (body s) ended,
          length-drop (body_start s) s,
          short,
        )

  -- ---- all pass

  module _ (a : refusal_of s ≡ none) where
    read : answering (stages_in s 1 6) ≡ none
    unfolding refusal_of stages stages_in brackets_in brackets those all
    read = (run_none s 1 6 13 refl a).0

    pub accepted_short : length s ≤ most_bytes
    accepted_short = short read

    pub accepted_ended : ends_inside (body_tokens s) ≡ false
    accepted_ended = ended read

    pub accepted_sound : faultless (body_tokens s) ≡ true
    accepted_sound = sound read
