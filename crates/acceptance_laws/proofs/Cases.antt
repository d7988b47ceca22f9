-- X with other breaks, byte by byte; and which breaks an input may have. Assumes nothing.
use Prim.Native.Nat.{ℕ}
use mathlib.Core.Path.{◌≡◌, refl}
use mathlib.Core.Bool.{true}
use mathlib.Core.List.{List, [], ◌∷◌, ◌++◌}
use lib.ListN.{length, replicate}
use Rattle.lists.specs.Lists.{text, begins, member, is_empty, all, last_or, onto, cut, each_led_by, joined, gather}
use Rattle.characters.specs.Characters.{has_release, has_repetition, begins_version4, service_characters, is_service, is_break, breaks, after_breaks, six_bytes, spelled_out, advised, advice_of, plus_characters, characters_of, body_start, body, role}
use Rattle.values.specs.Tokens.{unreleased, reading, taken, tokens_from, tokens, ends, place_of, segments, start}
use Rattle.values.specs.Values.{byte_of, bytes_of, end_place, value_of, values_of, repeats_of, elements_of}
use Rattle.values.specs.Spelling.{Bytes, spell_byte, spell_value, spell_repeat, spell_element, spell_segment, spell_apart}
use Rattle.starred_cases.specs.Cases.{unb, unh, bgm, unt, unz, x}
use Rattle.spelling_laws.specs.Bodies.{words_of, listed, read_list}
use Rattle.normal_form_laws.specs.Forms.{list_read}
use Rattle.acceptance_laws.specs.Breaks.{BreaksFor, respaced}

-- any breaks, as many as it has segments, and any after the advice
pub breaks_any : (s : List ℕ) (gap : Bytes) (between : List Bytes) → all is_break gap ≡ true → length between ≡ length (list_read s)
    → all (all is_break) between ≡ true → BreaksFor s gap between
breaks_any s gap between h e k = record { after_advice = h; after_segments = record { each = e; only_breaks = k } }

-- X with these bytes after each of its segments
abbrev apart : Bytes → List ℕ
apart gap = text unb ++ (gap ++ (text unh ++ (gap ++ (text bgm ++ (gap ++ (text unt ++ (gap ++ (text unz ++ gap))))))))

-- one segment a line, without an advice and after one: what is given for after the advice goes there alone
pub respaced_x : (respaced x (10 ∷ []) (replicate 5 (13 ∷ 10 ∷ [])) ≡ apart (13 ∷ 10 ∷ []))
    × (respaced (text "UNA:+.? '" ++ x) (10 ∷ []) (replicate 5 (13 ∷ 10 ∷ [])) ≡ text "UNA:+.? '" ++ (10 ∷ apart (13 ∷ 10 ∷ [])))
unfolding respaced read_list listed words_of characters_of body_start body advised advice_of spelled_out plus_characters begins_version4 six_bytes begins breaks after_breaks is_break role has_release has_repetition service_characters is_service member tokens tokens_from unreleased reading taken segments cut onto ends elements_of repeats_of values_of value_of bytes_of byte_of gather end_place start place_of last_or is_empty spell_apart spell_segment spell_element spell_repeat spell_value spell_byte joined each_led_by
respaced_x = (refl, refl)

-- and without any, where none are given
pub respaced_x_none : respaced (apart (13 ∷ 10 ∷ [])) [] (replicate 5 []) ≡ x
unfolding respaced read_list listed words_of characters_of body_start body advised advice_of spelled_out plus_characters begins_version4 six_bytes begins breaks after_breaks is_break role has_release has_repetition service_characters is_service member tokens tokens_from unreleased reading taken segments cut onto ends elements_of repeats_of values_of value_of bytes_of byte_of gather end_place start place_of last_or is_empty spell_apart spell_segment spell_element spell_repeat spell_value spell_byte joined each_led_by
respaced_x_none = refl
