-- What it is to be accepted: each of the refusals 1 to 13 is met nowhere. Assumes nothing.
use Rattle.std.specs.Prelude.{if◌then◌else◌}
use Prim.Native.Nat.{ℕ}
use mathlib.Core.Path.{◌≡◌, refl, ap}
use mathlib.Core.Bool.{Bool, true, false, not, ◌&&◌, ◌||◌}
use mathlib.Core.List.{List, [], append-eq-nil_iff}
use mathlib.Core.Option.{none}
use mathlib.Core.Logic.{◌↔◌}
use lib.ListN.{length, drop}
use lib.Dec.{ltb}
use Rattle.lists.specs.Lists.{begins, text, all, any, all_differ, member}
use Rattle.lists.proofs.Texts.{or_none_right}
use borrow.Author.Tests.{not-true, not-false}
use Rattle.characters.specs.declared.Characters.{Characters}
use Rattle.characters.specs.Characters.{between, upper, lower, digit, separates, has_release, has_repetition, service_characters, usable, six_bytes, advised, plus_characters, star_characters, begins_version4, control_characters, characters_of, bad_advice}
use Rattle.refusals.specs.declared.Fault.TheVariants.{TooLong, UnusableAdvice, NoOpening, StrayRelease, UnendedSegment, BrokenTag, ForeignLevel, OutsideLevel, MisplacedSegment, BadControl, ReferenceDiffers, CountWrong, NormalTooLong}
use Rattle.refusals.specs.Refusals.{met, place_if, lowest, or_else, answering}
use Rattle.refusals.proofs.Stages.{place_none, place_none_not}
use Rattle.values.specs.Tokens.{Token, place_of}
use Rattle.values.specs.Values.{is_fault, ends_inside}
use Rattle.segments.specs.Order.{is_complete}
use Rattle.stages.specs.Contents.{body_tokens, segments_of, kinds_of}
use Rattle.stages.specs.Places.{starts_where, too_long, unusable_advice, no_opening, stray_releases, unended_segment, broken_tags, foreign_level, outside_level, misplaced_segments, bad_controls, differing_references, wrong_counts, normal_too_long, misplaced}
use Rattle.stages.specs.Stages.{places_of, brackets, bracketed, stages, refusal_of}
use Rattle.stages.proofs.Stages.{accepted_unmet}
use Rattle.spelling_laws.specs.Bodies.{Sound, Passes}
use Rattle.normal_form_laws.specs.Forms.{BodyPasses}
use Rattle.normal_form_laws.proofs.Tests.{gather_none}

-- none of 1 to 13 is met
pub record Accepted (s : List ℕ) : Type 0 where
  pub short : too_long s ≡ []
  pub advice : unusable_advice s ≡ []
  pub opening : no_opening s ≡ []
  pub releases : stray_releases s ≡ []
  pub ending : unended_segment s ≡ []
  pub tags : broken_tags s ≡ []
  pub level : foreign_level s ≡ []
  pub bytes : outside_level s ≡ []
  pub order : misplaced_segments s ≡ []
  pub controls : bad_controls s ≡ []
  pub references : differing_references s ≡ []
  pub counts : wrong_counts s ≡ []
  pub normal : normal_too_long s ≡ []

-- "An interchange is accepted when none of 1 to 13 is met"
pub accepted_exactly : (s : List ℕ) → (refusal_of s ≡ none) ↔ Accepted s
unfolding refusal_of stages places_of brackets bracketed any answering lowest or_else met
accepted_exactly s = (there, back)
  where
    there : refusal_of s ≡ none → Accepted s
    there e =
        let none = accepted_unmet s e in
        record {
          short = none TooLong refl;
          advice = none UnusableAdvice refl;
          opening = none NoOpening refl;
          releases = none StrayRelease refl;
          ending = none UnendedSegment refl;
          tags = none BrokenTag refl;
          level = none ForeignLevel refl;
          bytes = none OutsideLevel refl;
          order = none MisplacedSegment refl;
          controls = none BadControl refl;
          references = none ReferenceDiffers refl;
          counts = none CountWrong refl;
          normal = none NormalTooLong refl;
        }

    back : Accepted s → refusal_of s ≡ none
    back a =
        rw (
          a.short,
          a.advice,
          a.opening,
          a.releases,
          a.ending,
          a.tags,
          a.level,
          a.bytes,
          a.order,
          a.controls,
          a.references,
          a.counts,
          a.normal,
        )

-- ---- what single refusals say

module _ (s : List ℕ) where
  -- neither 4 nor 5 is met exactly where the body passes
  pub passes_accepted : ((stray_releases s ≡ []) × (unended_segment s ≡ [])) ↔ BodyPasses s
  unfolding stray_releases unended_segment Passes Sound body_tokens
  passes_accepted =
      let faults = gather_none (λ t. place_if (is_fault t) (place_of t)) (λ t. not (is_fault t)) stray (body_tokens s) in
      let inside = place_none (ends_inside (body_tokens s)) (length s) in
      (λ k. (faults.0 k.0, inside.0 k.1), λ k. (faults.1 k.0, inside.1 k.1))
    where
      stray : (t : Token) → (place_if (is_fault t) (place_of t) ≡ []) ↔ (not (is_fault t) ≡ true)
      stray t =
          let none = place_none (is_fault t) (place_of t) in
          (λ e. ap not (none.0 e), λ e. none.1 (not-true (is_fault t) e))

  -- 9 is met nowhere exactly where each segment is allowed where it stands, and UNZ comes before the end
  pub order_accepted : (misplaced_segments s ≡ [])
      ↔ ((starts_where misplaced [] (segments_of s) ≡ []) × (is_complete (kinds_of s) ≡ true))
  unfolding misplaced_segments
  order_accepted =
      let complete : Bool = is_complete (kinds_of s) in
      let parts = append-eq-nil_iff {p = starts_where misplaced [] (segments_of s)} {q = place_if (not complete) (length s)} in
      let end = place_none_not complete (length s) in
      (λ e. ((parts.0 e).0, end.0 (parts.0 e).1), λ k. parts.1 (k.0, end.1 k.1))

  -- the service characters of an input that 2 does not refuse are usable
  pub usable_accepted : unusable_advice s ≡ [] → usable (characters_of s) ≡ true
  unfolding unusable_advice bad_advice characters_of usable service_characters has_release has_repetition separates between upper lower digit all all_differ member six_bytes plus_characters star_characters control_characters
  usable_accepted e = step (advised s) (begins_version4 s) (begins (text "UNB+") s) ((place_none (bad_advice s) 0).0 e)
    where
      step : (a v b : Bool)
          → let c : Characters = if a then six_bytes (drop 3 s) else (if v then star_characters else (if b then plus_characters else control_characters)) in
          (a && (ltb (length s) 9 || not (usable c))) ≡ false → usable c ≡ true
      step true v b h =
          let test : Bool = usable (six_bytes (drop 3 s)) in
          not-false test (or_none_right (ltb (length s) 9) (not test) h)
      step false true b h = refl
      step false false true h = refl
      step false false false h = refl
