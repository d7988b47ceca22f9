-- What an input holds, by small inputs and by the segments that are read of it; and which stage answers first. Assumes nothing.
use Prim.Native.Nat.{ℕ, ◌+◌, ◌<◌}
use mathlib.Core.Path.{◌≡◌, refl, ap, ◌∙◌}
use mathlib.Core.List.{List, [], ◌∷◌}
use mathlib.Core.Option.{none, some}
use native.Mathlib.Omega.{arith}
use lib.ListN.{length, drop}
use Rattle.lists.specs.Lists.{text, begins, member, is_empty, at, maybe, last_or, onto, cut, unless_idle, drop_end, trim_end, gather}
use Rattle.characters.specs.declared.Characters.{Characters}
use Rattle.characters.specs.Characters.{six_bytes, has_release, has_repetition, begins_version4, star_characters, is_break, breaks, advised, plus_characters, characters_of, body_start, body, role}
use Rattle.characters.proofs.Words.{advising, advised_opening}
use Rattle.refusals.specs.declared.Fault.TheVariants.{TooLong, UnusableAdvice}
use Rattle.refusals.specs.Refusals.{met, answering}
use Rattle.refusals.proofs.Words.{place_answers}
use Rattle.values.specs.Tokens.{tokens, unreleased, reading, taken, tokens_from, ends, place_of, Segment, segments, start}
use Rattle.values.specs.Values.{byte_of, bytes_of, end_place, value_of, values_of, repeats_of, elements_of}
use Rattle.values.specs.Trimming.{is_idle, trim_repeat, trim_element, trim_segment, trimmed, contents_of}
use Rattle.levels.specs.Levels.{level_of}
use Rattle.segments.specs.Tags.{kind_of}
use Rattle.stages.specs.Contents.{body_tokens, segments_of, contents, kinds_of}
use Rattle.stages.specs.Places.{too_long, unusable_advice, level}
use Rattle.stages.specs.Stages.{later_stages, refusal_of}
use Rattle.stages.proofs.Words.{one_at, later_are}

-- "The body is all that follows the advice" and the breaks after it: it is read under the advice's characters, and its first byte stands
-- at place 9, or as much later as there are breaks
pub body_is : (c : Characters) (rest : List ℕ) → body_tokens (advising c rest) ≡ tokens c (9 + breaks rest) (drop (breaks rest) rest)
unfolding body_tokens
body_is c rest = let opening = advised_opening c rest in rw (opening.0, opening.1, opening.2)

-- the kinds of two segments, the last first
pub kinds_read : (s : List ℕ) (g h : Segment) → segments_of s ≡ g ∷ h ∷ [] → kinds_of s ≡ kind_of h ∷ kind_of g ∷ []
unfolding kinds_of
kinds_read s g h e = rw e

-- "The contents are the trimmed list.", segment by segment
pub contents_are : contents (text "UNB+?+:A::+'X+:B*'")
    ≡ (((text "UNB" ∷ []) ∷ []) ∷ ((text "+" ∷ text "A" ∷ []) ∷ []) ∷ []) ∷ (((text "X" ∷ []) ∷ []) ∷ (([] ∷ text "B*" ∷ []) ∷ []) ∷ []) ∷ []
unfolding contents segments_of body_tokens characters_of body_start body advised plus_characters begins_version4 six_bytes begins role has_release has_repetition member tokens tokens_from unreleased reading is_break taken segments cut onto ends contents_of trimmed trim_segment trim_element trim_repeat trim_end drop_end unless_idle is_idle is_empty elements_of repeats_of values_of value_of bytes_of byte_of gather end_place start place_of last_or
contents_are = refl

-- request 2026-10: input that begins so "has `*`"
pub repeats_are : contents (text "UNB+UNOA:4'X+A*?*::**'")
    ≡ (((text "UNB" ∷ []) ∷ []) ∷ ((text "UNOA" ∷ text "4" ∷ []) ∷ []) ∷ [])
    ∷ (((text "X" ∷ []) ∷ []) ∷ ((text "A" ∷ []) ∷ (text "*" ∷ []) ∷ []) ∷ [])
    ∷ []
unfolding contents segments_of body_tokens characters_of body_start body advised star_characters begins_version4 six_bytes begins role has_release has_repetition member tokens tokens_from unreleased reading is_break taken segments cut onto ends contents_of trimmed trim_segment trim_element trim_repeat trim_end drop_end unless_idle is_idle is_empty elements_of repeats_of values_of value_of bytes_of byte_of gather end_place start place_of last_or
repeats_are = refl

-- "The first failing stage answers": an input that is too long is refused for that, whatever else it is
pub length_first : (s : List ℕ) → 32000 < length s → refusal_of s ≡ some (record { fault = TooLong; place = 0 })
unfolding refusal_of
length_first s h =
    ap answering (later_are s)
    ∙ place_answers TooLong (too_long s) (met UnusableAdvice (unusable_advice s) ∷ later_stages s) 0 ((one_at s 0).1 (h, refl)) (λ q m. omega arith)

-- where no level is named, no byte is outside it, so that 8 is never met where 7 is
pub level_none : (s : List ℕ) (unb : Segment) (rest : List Segment) → segments_of s ≡ unb ∷ rest → level_of (characters_of s) unb ≡ none → level s ≡ 0
unfolding level at maybe
level_none s unb rest e n = rw (e, n)
