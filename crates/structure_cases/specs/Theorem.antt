-- Every table, body and interchange is answered as the cases say. Assumes nothing.
use Rattle.std.specs.Prelude.{refl, [], ◌∷◌, T}
use native.Mathlib.Bridge.{IsLe, le_by_compare}
use Rattle.lists.specs.Lists.{text, same, begins, member, all_differ, is_empty, all, any, those, through, first, at, last_or, onto, cut, unless_idle, drop_end, trim_end, each_led_by, joined, gather, maybe, single}
use Rattle.characters.specs.Characters.{between, upper, lower, digit, separates, has_release, service_characters, is_service, usable, six_bytes, spelled_out, advised, advice_of, plus_characters, control_characters, characters_of, is_break, breaks, after_breaks, body_start, body, bad_advice, opens, role, has_repetition, star_characters, begins_version4}
use Rattle.refusals.specs.Refusals.{met, is_lower, lower_of, lowest, or_else, answering, place_if}
use Rattle.values.specs.Tokens.{unreleased, reading, taken, tokens_from, tokens, ends, place_of, segments, start}
use Rattle.values.specs.Values.{byte_of, bytes_of, value_of, values_of, elements_of, is_fault, ended_by, ends_inside, finished, repeats_of}
use Rattle.values.specs.Trimming.{trim_element, is_idle, trim_segment, trimmed, value_at, contents_of, trim_repeat}
use Rattle.values.specs.Spelling.{spell_byte, spell_value, spell_element, spell_segment, spell, spell_repeat}
use Rattle.levels.specs.Levels.{in_level_a, in_level_b, class_of, level_named, in_level, is_our_version, level_of, syntax_identifier, is_version4, is_old_version, level_in, has_version4}
use Rattle.segments.specs.Kinds.{is, kind_named}
use Rattle.segments.specs.Tags.{tag_piece, tag_of, kind_of, is_tag, tag_rule, tag_repeat}
use Rattle.segments.specs.Order.{segments_in, messages_in, groups_in, segments_since_header, messages_since_group, is_open, standing, inside_message, allowed_at, allowed, is_complete}
use Rattle.control_elements.specs.Positions.{position_table, positions_of}
use Rattle.control_elements.specs.Control.{control_element, is_reference, is_count, stands_well, control_rule, header_of, reference_of, same_value, reference_differs, decimal_from, decimal, true_count, count_of, count_wrong, only_value}
use Rattle.control_elements.specs.Sections.{section_named, section_of, is_section, markers_in, has_section, may_begin, section_rule}
use Rattle.stages.specs.Contents.{body_tokens, segments_of, contents, kinds_of, normal_characters, interchange, normal_form, normal_repetition}
use Rattle.stages.specs.Places.{is_over, starts_where, too_long, unusable_advice, no_opening, stray_releases, unended_segment, broken_tags, foreign_level, level, place_outside, outside_level, misplaced_segments, bad_controls, differing_references, wrong_counts, normal_too_long}
use Rattle.stages.specs.Stages.{places_of, brackets, brackets_in, bracketed, stages_in}
use Rattle.answers.specs.Answers.{given, refused, accepted}
use Rattle.operations.specs.Judge.{figures_of}
use Rattle.numbers.specs.Numbers.{read_on, number_at}
use Rattle.message_tables.specs.Entries.{entry_of, entries_in, whole_entries, entries_of, is_group, is_mandatory}
use Rattle.message_tables.specs.Soundness.{is_table_tag, segment_fits, rooms_from, rooms, group_fits, is_trigger, triggers, fits, unfit, table_faults, is_sound}
use Rattle.message_tables.specs.Structure.{lead_of, held_by, level as table_level, levels, structure_of}
use Rattle.message_structures.specs.Walking.{onward, leads, repeated, walk, left_over, unmatched}
use Rattle.message_structures.specs.Language.{Tags, Repeats, Spells}
use Rattle.message_structures.specs.Bodies.{before, body_in, trailer_start, mismatch, mismatches, unmatched_bodies}
use Rattle.message_structures.specs.Judging.{structure_stages, structure_refusal, judge_by_table}
use Rattle.starred_cases.specs.Cases.{says}
use Rattle.structure_cases.specs.Cases.{copies, nested, tables, table_holds, twice, bodies, tags_of, body_holds, judgements, judgement_holds}

pub all_tables_hold : T (all table_holds tables)
unfolding same begins member is_empty all at maybe between upper digit met is_lower lower_of lowest place_if is_tag read_on number_at entry_of entries_in whole_entries entries_of is_group is_mandatory is_table_tag segment_fits rooms_from rooms group_fits is_trigger triggers fits unfit table_faults is_sound copies nested tables table_holds
all_tables_hold = tt

pub all_bodies_hold : T (all body_holds bodies)
unfolding same begins member is_empty all at onto cut maybe between upper digit place_if is_tag read_on number_at entry_of entries_in whole_entries entries_of is_group is_mandatory is_table_tag segment_fits rooms_from rooms group_fits is_trigger triggers fits unfit table_faults is_sound lead_of held_by table_level levels structure_of onward leads repeated walk left_over unmatched copies nested bodies tags_of body_holds
all_bodies_hold = tt

-- the walk refuses the body `AAA` by the table in which it stands twice; no repeat of the first entry and one of the second spell it
pub twice_spelled : Spells (structure_of twice) (tags_of "AAA")
unfolding IsLe Spells Repeats onto cut read_on number_at entry_of entries_in whole_entries entries_of is_group is_mandatory same member at maybe lead_of held_by table_level levels structure_of tags_of
twice_spelled =
    let own : Tags = text "AAA" ∷ [] in
    (0, le_by_compare _ _ tt, le_by_compare _ _ tt, [], own, refl, refl, (1, le_by_compare _ _ tt, le_by_compare _ _ tt, own, [], refl, ([], [], refl, refl, refl), refl))

pub all_judgements_hold : T (all judgement_holds judgements)
unfolding same begins member all_differ is_empty all any those through first at last_or onto cut unless_idle drop_end trim_end each_led_by joined gather maybe between upper lower digit separates has_release service_characters is_service usable six_bytes spelled_out advised advice_of plus_characters control_characters characters_of is_break breaks after_breaks body_start body bad_advice opens role met is_lower lower_of lowest or_else answering place_if unreleased reading taken tokens_from tokens ends place_of segments start byte_of bytes_of value_of values_of elements_of is_fault ended_by ends_inside finished trim_element is_idle trim_segment trimmed value_at contents_of spell_byte spell_value spell_element spell_segment spell in_level_a in_level_b class_of level_named in_level is_our_version level_of is kind_named tag_piece tag_of kind_of is_tag tag_rule segments_in messages_in groups_in segments_since_header messages_since_group is_open standing inside_message allowed_at allowed is_complete position_table positions_of single control_element is_reference is_count stands_well control_rule header_of reference_of same_value reference_differs decimal_from decimal true_count count_of count_wrong section_named section_of is_section markers_in has_section may_begin section_rule body_tokens segments_of contents kinds_of normal_characters interchange normal_form is_over starts_where too_long unusable_advice no_opening stray_releases unended_segment broken_tags foreign_level level place_outside outside_level misplaced_segments bad_controls differing_references wrong_counts normal_too_long places_of brackets brackets_in bracketed stages_in given refused accepted figures_of read_on number_at entry_of entries_in whole_entries entries_of is_group is_mandatory is_table_tag segment_fits rooms_from rooms group_fits is_trigger triggers fits unfit table_faults is_sound lead_of held_by table_level levels structure_of onward leads repeated walk left_over unmatched before body_in trailer_start mismatch mismatches unmatched_bodies structure_stages structure_refusal judge_by_table says judgements judgement_holds has_repetition star_characters begins_version4 repeats_of trim_repeat spell_repeat syntax_identifier is_version4 is_old_version level_in has_version4 tag_repeat only_value normal_repetition
all_judgements_hold = tt
