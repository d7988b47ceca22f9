-- Every row of the tables is exported or imported as it says, and the buffers are left so. Assumes nothing.
use Rattle.std.specs.Prelude.{T}
use Rattle.lists.specs.Lists.{same, begins, member, all_differ, is_empty, any, all, those, through, beyond, first, at, last_or, is_single, single, onto, cut, unless_idle, drop_end, trim_end, each_led_by, joined, gather, maybe}
use Rattle.characters.specs.Characters.{between, upper, lower, digit, separates, has_release, has_repetition, service_characters, is_service, usable, six_bytes, spelled_out, advised, advice_of, plus_characters, star_characters, begins_version4, control_characters, characters_of, is_break, breaks, after_breaks, body_start, body, bad_advice, opens, role}
use Rattle.refusals.specs.Refusals.{met, is_lower, lower_of, lowest, or_else, answering, place_if}
use Rattle.values.specs.Tokens.{unreleased, reading, taken, tokens_from, tokens, ends, place_of, segments, start}
use Rattle.values.specs.Values.{byte_of, bytes_of, end_place, value_of, values_of, repeats_of, elements_of, is_fault, ended_by, ends_inside, finished}
use Rattle.values.specs.Trimming.{trim_repeat, trim_element, is_idle, trim_segment, trimmed, value_at, contents_of}
use Rattle.values.specs.Spelling.{spell_byte, spell_value, spell_repeat, spell_element, spell_segment, spell, leads_break}
use Rattle.levels.specs.Levels.{in_level_a, in_level_b, class_of, level_named, in_level, syntax_identifier, is_version4, is_old_version, is_our_version, level_in, level_of, has_version4}
use Rattle.segments.specs.Kinds.{is, kind_named}
use Rattle.segments.specs.Tags.{tag_piece, tag_repeat, tag_of, kind_of, is_tag, tag_rule}
use Rattle.segments.specs.Order.{segments_in, messages_in, groups_in, segments_since_header, messages_since_group, is_open, standing, inside_message, allowed_at, allowed, is_complete}
use Rattle.control_elements.specs.Positions.{position_table, positions_of}
use Rattle.control_elements.specs.Control.{only_value, control_element, is_reference, is_count, stands_well, control_rule, header_of, reference_of, same_value, reference_differs, decimal_from, decimal, true_count, count_of, count_wrong}
use Rattle.control_elements.specs.Sections.{section_rule}
use Rattle.stages.specs.Contents.{body_tokens, segments_of, contents, kinds_of, normal_characters, normal_repetition, interchange, normal_form}
use Rattle.stages.specs.Places.{is_over, starts_where, too_long, unusable_advice, no_opening, stray_releases, unended_segment, broken_tags, foreign_level, level, place_outside, outside_level, misplaced_segments, bad_controls, differing_references, wrong_counts, normal_too_long}
use Rattle.stages.specs.Stages.{places_of, brackets, brackets_in, bracketed, stages_in, stages, later_stages, refusal_of}
use Rattle.answers.specs.Answers.{given, refused}
use Rattle.operations.specs.Judge.{short_for, stored_in, unless_refused}
use Rattle.operations.specs.ValueList.{rank_of, list_repeat, list_element, list_segment, list_of, list_bytes, table_from, list_table, entries, value_in, listed_in, closed, closes, segments_listed, trim_list}
use Rattle.operations.specs.Write.{numbers_where, bad_table, broken_start, bad_entry, bad_list, unusable_bytes, lacks_release, lacks_repetition, cannot_stand, needs_release, written_text, write_stages}
use Rattle.starred_cases.specs.Cases.{says}
use Rattle.columns.specs.Lines.{digits_up_to, in_decimal, line, heading, gather_from, value_line, repeat_lines, element_lines, segment_lines, columns_of, fits_line}
use Rattle.columns.specs.Reading.{ends_line, ends_column, before, column, is_zero, kind_read, item_read, items_in, list_in, is_columns}
use Rattle.columns.specs.Operations.{export_text, export_refusal, exports, export_buffer, bytes_read, table_read, import_text, import_stages, import_refusal, imports, import_output}
use Rattle.column_cases.specs.Cases.{export_rows, import_rows, lent, export_meets, import_meets, export_right, import_right, number_rows, number_right}

pub exports_hold : T (all export_right export_rows)
unfolding same begins member all_differ is_empty any all those through beyond first at last_or is_single single onto cut unless_idle drop_end trim_end each_led_by joined gather maybe between upper lower digit separates has_release has_repetition service_characters is_service usable six_bytes spelled_out advised advice_of plus_characters star_characters begins_version4 control_characters characters_of is_break breaks after_breaks body_start body bad_advice opens role met is_lower lower_of lowest or_else answering place_if unreleased reading taken tokens_from tokens ends place_of segments start byte_of bytes_of end_place value_of values_of repeats_of elements_of is_fault ended_by ends_inside finished trim_repeat trim_element is_idle trim_segment trimmed value_at contents_of spell_byte spell_value spell_repeat spell_element spell_segment spell leads_break in_level_a in_level_b class_of level_named in_level syntax_identifier is_version4 is_old_version is_our_version level_in level_of has_version4 is kind_named tag_piece tag_repeat tag_of kind_of is_tag tag_rule segments_in messages_in groups_in segments_since_header messages_since_group is_open standing inside_message allowed_at allowed is_complete position_table positions_of only_value control_element is_reference is_count stands_well control_rule header_of reference_of same_value reference_differs decimal_from decimal true_count count_of count_wrong section_rule body_tokens segments_of contents kinds_of normal_characters normal_repetition interchange normal_form is_over starts_where too_long unusable_advice no_opening stray_releases unended_segment broken_tags foreign_level level place_outside outside_level misplaced_segments bad_controls differing_references wrong_counts normal_too_long places_of brackets brackets_in bracketed stages_in stages later_stages refusal_of given refused short_for stored_in unless_refused rank_of list_repeat list_element list_segment list_of list_bytes table_from list_table entries value_in listed_in closed closes segments_listed trim_list numbers_where bad_table broken_start bad_entry bad_list unusable_bytes lacks_release lacks_repetition cannot_stand needs_release written_text write_stages says digits_up_to in_decimal line heading gather_from value_line repeat_lines element_lines segment_lines columns_of fits_line ends_line ends_column before column is_zero kind_read item_read items_in list_in is_columns export_text export_refusal exports export_buffer bytes_read table_read import_text import_stages import_refusal imports import_output export_rows import_rows lent export_meets import_meets export_right import_right
exports_hold = tt

pub imports_hold : T (all import_right import_rows)
unfolding same begins member all_differ is_empty any all those through beyond first at last_or is_single single onto cut unless_idle drop_end trim_end each_led_by joined gather maybe between upper lower digit separates has_release has_repetition service_characters is_service usable six_bytes spelled_out advised advice_of plus_characters star_characters begins_version4 control_characters characters_of is_break breaks after_breaks body_start body bad_advice opens role met is_lower lower_of lowest or_else answering place_if unreleased reading taken tokens_from tokens ends place_of segments start byte_of bytes_of end_place value_of values_of repeats_of elements_of is_fault ended_by ends_inside finished trim_repeat trim_element is_idle trim_segment trimmed value_at contents_of spell_byte spell_value spell_repeat spell_element spell_segment spell leads_break in_level_a in_level_b class_of level_named in_level syntax_identifier is_version4 is_old_version is_our_version level_in level_of has_version4 is kind_named tag_piece tag_repeat tag_of kind_of is_tag tag_rule segments_in messages_in groups_in segments_since_header messages_since_group is_open standing inside_message allowed_at allowed is_complete position_table positions_of only_value control_element is_reference is_count stands_well control_rule header_of reference_of same_value reference_differs decimal_from decimal true_count count_of count_wrong section_rule body_tokens segments_of contents kinds_of normal_characters normal_repetition interchange normal_form is_over starts_where too_long unusable_advice no_opening stray_releases unended_segment broken_tags foreign_level level place_outside outside_level misplaced_segments bad_controls differing_references wrong_counts normal_too_long places_of brackets brackets_in bracketed stages_in stages later_stages refusal_of given refused short_for stored_in unless_refused rank_of list_repeat list_element list_segment list_of list_bytes table_from list_table entries value_in listed_in closed closes segments_listed trim_list numbers_where bad_table broken_start bad_entry bad_list unusable_bytes lacks_release lacks_repetition cannot_stand needs_release written_text write_stages says digits_up_to in_decimal line heading gather_from value_line repeat_lines element_lines segment_lines columns_of fits_line ends_line ends_column before column is_zero kind_read item_read items_in list_in is_columns export_text export_refusal exports export_buffer bytes_read table_read import_text import_stages import_refusal imports import_output export_rows import_rows lent export_meets import_meets export_right import_right
imports_hold = tt

pub numbers_hold : T (all number_right number_rows)
unfolding same all digits_up_to in_decimal number_rows number_right
numbers_hold = tt
