-- Every row of the table is answered as it says. Assumes nothing.
use lib.Dec.{T}
use Rattle.lists.specs.Lists.{same, begins, member, all_differ, is_empty, all, those, through, first, at, last_or, onto, cut, unless_idle, drop_end, trim_end, each_led_by, joined, gather, maybe, any, single}
use Rattle.characters.specs.Characters.{between, upper, lower, digit, separates, has_release, service_characters, is_service, usable, six_bytes, spelled_out, advised, advice_of, plus_characters, control_characters, characters_of, is_break, breaks, after_breaks, body_start, body, bad_advice, opens, role, has_repetition, star_characters, begins_version4}
use Rattle.refusals.specs.Refusals.{met, is_lower, lower_of, lowest, or_else, answering, place_if}
use Rattle.values.specs.Tokens.{unreleased, reading, taken, tokens_from, tokens, ends, place_of, segments, start}
use Rattle.values.specs.Values.{byte_of, bytes_of, value_of, values_of, elements_of, is_fault, ended_by, ends_inside, finished, end_place, repeats_of}
use Rattle.values.specs.Trimming.{trim_element, is_idle, trim_segment, trimmed, value_at, contents_of, trim_repeat}
use Rattle.values.specs.Spelling.{spell_byte, spell_value, spell_element, spell_segment, spell, leads_break, spell_repeat}
use Rattle.levels.specs.Levels.{in_level_a, in_level_b, class_of, level_named, in_level, is_our_version, level_of, syntax_identifier, is_version4, is_old_version, level_in, has_version4}
use Rattle.segments.specs.Kinds.{is, kind_named}
use Rattle.segments.specs.Tags.{tag_piece, tag_of, kind_of, is_tag, tag_rule, tag_repeat}
use Rattle.segments.specs.Order.{segments_in, messages_in, groups_in, segments_since_header, messages_since_group, is_open, standing, inside_message, allowed_at, allowed, is_complete}
use Rattle.control_elements.specs.Positions.{position_table, positions_of}
use Rattle.control_elements.specs.Control.{control_element, is_reference, is_count, stands_well, control_rule, header_of, reference_of, same_value, reference_differs, decimal_from, decimal, true_count, count_of, count_wrong, only_value}
use Rattle.control_elements.specs.Sections.{section_named, section_of, is_section, markers_in, has_section, may_begin, section_rule}
use Rattle.stages.specs.Contents.{body_tokens, segments_of, contents, kinds_of, normal_characters, interchange, normal_form, normal_repetition}
use Rattle.stages.specs.Places.{is_over, starts_where, too_long, unusable_advice, no_opening, stray_releases, unended_segment, broken_tags, foreign_level, level, place_outside, outside_level, misplaced_segments, bad_controls, differing_references, wrong_counts, normal_too_long}
use Rattle.stages.specs.Stages.{places_of, brackets, brackets_in, bracketed, stages_in, later_stages, stages, refusal_of}
use Rattle.answers.specs.Answers.{given, refused, refused_input, accepted}
use Rattle.operations.specs.Judge.{figures_of, judge, short_for, normalise_refusal, normalise}
use Rattle.operations.specs.Compare.{is_accepted, are_same, compare}
use Rattle.operations.specs.Locate.{located, locate}
use Rattle.operations.specs.ValueList.{list_element, list_segment, list_of, list_bytes, table_from, list_table, entries, value_in, listed_in, rank_of, closed, closes, segments_listed, trim_list, list_repeat}
use Rattle.operations.specs.Read.{value_bytes, value_table, read_refusal, read}
use Rattle.operations.specs.Write.{numbers_where, bad_table, broken_start, bad_entry, bad_list, unusable_bytes, lacks_release, needs_release, written_text, write_stages, write_refusal, write, lacks_repetition, cannot_stand}
use Rattle.starred_cases.specs.Cases.{says}
use Rattle.paper_words.specs.Further.{rows, right}

pub all_rows_hold : T (all right rows)
unfolding same begins member all_differ is_empty all those through first at last_or onto cut unless_idle drop_end trim_end each_led_by joined gather maybe between upper lower digit separates has_release service_characters is_service usable six_bytes spelled_out advised advice_of plus_characters control_characters characters_of is_break breaks after_breaks body_start body bad_advice opens role met is_lower lower_of lowest or_else answering place_if unreleased reading taken tokens_from tokens ends place_of segments start byte_of bytes_of value_of values_of elements_of is_fault ended_by ends_inside finished trim_element is_idle trim_segment trimmed value_at contents_of spell_byte spell_value spell_element spell_segment spell leads_break in_level_a in_level_b class_of level_named in_level is_our_version level_of is kind_named tag_piece tag_of kind_of is_tag tag_rule segments_in messages_in groups_in segments_since_header messages_since_group is_open standing inside_message allowed_at allowed is_complete position_table positions_of single control_element is_reference is_count stands_well control_rule header_of reference_of same_value reference_differs decimal_from decimal true_count count_of count_wrong body_tokens segments_of contents kinds_of normal_characters interchange normal_form is_over starts_where too_long unusable_advice no_opening stray_releases unended_segment broken_tags foreign_level level place_outside outside_level misplaced_segments bad_controls differing_references wrong_counts normal_too_long places_of brackets brackets_in bracketed stages_in later_stages stages refusal_of given refused refused_input accepted figures_of judge is_accepted are_same compare says any end_place short_for normalise_refusal normalise located locate list_element list_segment list_of list_bytes table_from list_table entries value_in listed_in rank_of closed closes segments_listed trim_list value_bytes value_table read_refusal read numbers_where bad_table broken_start bad_entry bad_list unusable_bytes lacks_release needs_release written_text write_stages write_refusal write rows right section_named section_of is_section markers_in has_section may_begin section_rule has_repetition star_characters begins_version4 repeats_of trim_repeat spell_repeat syntax_identifier is_version4 is_old_version level_in has_version4 tag_repeat only_value normal_repetition list_repeat lacks_repetition cannot_stand
all_rows_hold = tt
