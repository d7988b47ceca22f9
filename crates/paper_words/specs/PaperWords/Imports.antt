-- The names that the record uses, each from the file that declares it: first the definitions that compute, then the notions that stand beside their
-- definitions. Assumes nothing.
pub use Rattle.std.specs.Prelude.{ℕ, ◌+◌, ◌*◌, ◌%◌, ◌≤◌, ◌<◌, ◌≡◌, true, ◌↔◌, ◌⊎◌, length, take, drop}
pub use mathlib.Core.List.{List, [], ◌∷◌, ◌++◌, map, reverse, Memᴰ}
pub use Rattle.std.proofs.Math.Option.{some}
pub use Rattle.lists.specs.Lists.{text, is_empty, those, at}
pub use Rattle.characters.specs.declared.Characters.{Characters}
pub use Rattle.characters.specs.Characters.{is_service, usable, characters_of, body_start, body}
pub use Rattle.refusals.specs.declared.Fault.TheVariants.{TooLong, UnusableAdvice, NoOpening, StrayRelease, UnendedSegment, BrokenTag, ForeignLevel, OutsideLevel, MisplacedSegment, BadControl, ReferenceDiffers, CountWrong, NormalTooLong, BufferShort, BadList, NeedsRelease, NoFreeSlot, NoRoom, UnsoundShelf, FreeSlot, UnsoundTable, UnmatchedBody, NoAcknowledgement, NoColumns}
pub use Rattle.refusals.specs.declared.Refusal.{Refusal}
pub use Rattle.refusals.specs.Refusals.{number}
pub use Rattle.values.specs.Tokens.{Token, byte, separator, fault, tokens, Segment, segments, start}
pub use Rattle.values.specs.Values.{bytes_of}
pub use Rattle.values.specs.Trimming.{trim_segment, contents_of}
pub use Rattle.values.specs.Spelling.{Bytes, SegmentList, spell_value, spell}
pub use Rattle.levels.specs.Levels.{in_level_a, in_level_b}
pub use Rattle.segments.specs.declared.Kind.{Kind}
pub use Rattle.segments.specs.declared.Kind.TheVariants.{Unb, Ung, Unh, Uns, Unt, Une, Unz, User}
pub use Rattle.segments.specs.Kinds.{is, kind_named}
pub use Rattle.segments.specs.Tags.{kind_of}
pub use Rattle.control_elements.specs.Control.{control_rule, reference_differs, decimal, count_wrong}
pub use Rattle.stages.specs.Contents.{body_tokens, segments_of, contents, normal_form}
pub use Rattle.answers.specs.declared.Figures.{Figures}
pub use Rattle.answers.specs.declared.Unaccepted.TheVariants.{First, Second}
pub use Rattle.answers.specs.Answers.{Answer, told_judged, told_stored, told_compared, told_located, told_listed}
pub use Rattle.operations.specs.Judge.{judge}
pub use Rattle.operations.specs.ValueList.{Item, list_of, list_bytes, list_table, listed_in, segments_listed, trim_list}
pub use Rattle.operations.specs.Read.{value_bytes, value_table}
pub use Rattle.operations.specs.Write.{written_text, write}
pub use Rattle.spelling_laws.specs.Bodies.{words_of}
pub use Rattle.grammar_laws.specs.Grammar.{OneOrMore}
pub use Rattle.characters.specs.Notions.{Usable}
pub use Rattle.values.specs.Notions.{Unended, LeadsBreak}
pub use Rattle.levels.specs.Notions.{LevelA, LevelB, Names, FourthVersion}
pub use Rattle.control_elements.specs.Notions.{Reference, Count, Nearest}
pub use Rattle.operations.specs.Notions.{Record}
