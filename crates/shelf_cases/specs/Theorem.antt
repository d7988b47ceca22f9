-- Every shelf of the table is sound or unsound as it says, for one reason alone where it says so, and every row is answered as it says; and there
-- is a shelf that has room for either of two texts and not for both.
-- Assumes nothing.
use Rattle.std.specs.Prelude.{◌&&◌, T}
use Rattle.lists.specs.Lists.{same, begins, member, all_differ, is_empty, all, those, through, first, at, last_or, onto, cut, unless_idle, drop_end, trim_end, each_led_by, joined, gather, maybe, single}
use Rattle.characters.specs.Characters.{between, upper, lower, digit, separates, has_release, service_characters, is_service, usable, six_bytes, spelled_out, advised, advice_of, plus_characters, control_characters, characters_of, is_break, breaks, after_breaks, body_start, body, bad_advice, opens, role, has_repetition, star_characters, begins_version4}
use Rattle.refusals.specs.Refusals.{met, is_lower, lower_of, lowest, or_else, answering, place_if}
use Rattle.values.specs.Tokens.{unreleased, reading, taken, tokens_from, tokens, ends, place_of, segments, start as segment_start}
use Rattle.values.specs.Values.{byte_of, bytes_of, value_of, values_of, elements_of, is_fault, ended_by, ends_inside, finished, repeats_of}
use Rattle.values.specs.Trimming.{trim_element, is_idle, trim_segment, trimmed, value_at, contents_of, trim_repeat}
use Rattle.values.specs.Spelling.{spell_byte, spell_value, spell_element, spell_segment, spell, spell_repeat}
use Rattle.levels.specs.Levels.{in_level_a, in_level_b, class_of, level_named, in_level, is_our_version, level_of, syntax_identifier, is_version4, is_old_version, level_in, has_version4}
use Rattle.segments.specs.Kinds.{is, kind_named}
use Rattle.segments.specs.Tags.{tag_piece, tag_of, kind_of, is_tag, tag_rule, tag_repeat}
use Rattle.segments.specs.Order.{segments_in, messages_in, groups_in, segments_since_header, messages_since_group, is_open, standing, inside_message, allowed_at, allowed, is_complete}
use Rattle.control_elements.specs.Positions.{position_table, positions_of}
use Rattle.control_elements.specs.Control.{control_element, is_reference, is_count, stands_well, control_rule, header_of, reference_of, same_value, reference_differs, decimal_from, decimal, true_count, count_of, count_wrong, only_value}
use Rattle.control_elements.specs.Sections.{section_named, section_of, may_begin, section_rule}
use Rattle.stages.specs.Contents.{body_tokens, segments_of, contents, kinds_of, normal_characters, interchange, normal_form, normal_repetition}
use Rattle.stages.specs.Places.{is_over, starts_where, too_long, unusable_advice, no_opening, stray_releases, unended_segment, broken_tags, foreign_level, level, place_outside, outside_level, misplaced_segments, bad_controls, differing_references, wrong_counts, normal_too_long}
use Rattle.stages.specs.Stages.{places_of, brackets, bracketed, stages, refusal_of}
use Rattle.answers.specs.Answers.{given, refused, refused_input, accepted}
use Rattle.operations.specs.Judge.{unless_refused}
use Rattle.operations.specs.Compare.{is_accepted}
use Rattle.numbers.specs.Numbers.{read_on, number_at, in_bytes}
use Rattle.shelves.specs.Layout.{version_one, version_two, below, total, map_of, held_figure, duplicates_of, bit, is_occupied, occupied, free, has_sums, heading, pair_place, start_of, length_of, text_of, held, end_of}
use Rattle.shelves.specs.Soundness.{is_normal_form, each_two, is_sized, lies, apart, differ, is_blank_pair, is_summed, sound}
use Rattle.shelves.specs.Answers.{new_at, copy_at}
use Rattle.shelves.specs.Summary.{summary_of, put_new, put_copy, removed, map_and_held, duplicates_in}
use Rattle.shelves.specs.Operations.{pair_of, start_refusal, start, empty_shelf, start_shelf, unsound, lowest_free, slots_of, sums_of, copy_of, no_free_slot, no_room, for_new, put_refusal, put, with_text, with_copy, put_shelf, slot_refusal, got_offset, got_length, length_answer, remove, pair_without, texts_without, without, remove_shelf}
use Rattle.starred_cases.specs.Cases.{says}
use Rattle.shelf_cases.specs.Cases.{sound_shelves, damaged, miscounted, damaged_once, rows, right, is_sound, is_unsound, asked, fails_one}
use Rattle.shelf_cases.specs.CasesTwo.{sound_two, damaged_two, damaged_two_once, narrow, FitsEither, rows_two}

pub all_shelves_hold : T (
    all (is_sound version_one) sound_shelves
    && all (is_unsound version_one) damaged
    && all (is_unsound version_one) damaged_once
    && all (fails_one version_one) damaged_once
    && same (normal_form miscounted) miscounted
    && all right rows
    && all (is_sound version_two) sound_two
    && all (is_unsound version_two) damaged_two
    && all (is_unsound version_two) damaged_two_once
    && all (fails_one version_two) damaged_two_once
    && all right rows_two) × FitsEither
unfolding same begins member all_differ is_empty all those through first at last_or onto cut unless_idle drop_end trim_end each_led_by joined gather maybe between upper lower digit separates has_release service_characters is_service usable six_bytes spelled_out advised advice_of plus_characters control_characters characters_of is_break breaks after_breaks body_start body bad_advice opens role met is_lower lower_of lowest or_else answering place_if unreleased reading taken tokens_from tokens ends place_of segments segment_start byte_of bytes_of value_of values_of elements_of is_fault ended_by ends_inside finished trim_element is_idle trim_segment trimmed value_at contents_of spell_byte spell_value spell_element spell_segment spell in_level_a in_level_b class_of level_named in_level is_our_version level_of is kind_named tag_piece tag_of kind_of is_tag tag_rule segments_in messages_in groups_in segments_since_header messages_since_group is_open standing inside_message allowed_at allowed is_complete position_table positions_of single control_element is_reference is_count stands_well control_rule header_of reference_of same_value reference_differs decimal_from decimal true_count count_of count_wrong section_named section_of may_begin section_rule body_tokens segments_of contents kinds_of normal_characters interchange normal_form is_over starts_where too_long unusable_advice no_opening stray_releases unended_segment broken_tags foreign_level level place_outside outside_level misplaced_segments bad_controls differing_references wrong_counts normal_too_long places_of brackets bracketed stages refusal_of given refused refused_input accepted is_accepted says unless_refused read_on number_at in_bytes below total map_of held_figure duplicates_of bit is_occupied occupied free has_sums heading pair_place start_of length_of text_of held end_of is_normal_form each_two is_sized lies apart differ is_blank_pair is_summed sound new_at copy_at summary_of put_new put_copy removed map_and_held duplicates_in pair_of start_refusal start empty_shelf start_shelf unsound lowest_free slots_of sums_of copy_of no_free_slot no_room for_new put_refusal put with_text with_copy put_shelf slot_refusal got_offset got_length length_answer remove pair_without texts_without without remove_shelf sound_shelves damaged damaged_once rows right is_sound is_unsound asked fails_one sound_two damaged_two damaged_two_once narrow rows_two has_repetition star_characters begins_version4 repeats_of trim_repeat spell_repeat syntax_identifier is_version4 is_old_version level_in has_version4 tag_repeat only_value normal_repetition
all_shelves_hold = (tt, (tt, tt, tt, tt, tt, tt, tt))
