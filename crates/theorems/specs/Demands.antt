-- What is demanded of the definitions, for all inputs. Each field is a theorem; `proofs/Demands.antt` proves the record. Assumes nothing.
use Rattle.std.specs.Prelude.{ℕ, ◌≤◌, ◌<◌, ◌≡◌, ◌↔◌, ◌⊎◌, true, false, not, length, take, drop, replicate, if◌then◌else◌}
use Rattle.std.proofs.Common.{⊎_elim}
use mathlib.Core.List.{List, [], ◌∷◌, ◌++◌, map, Memᴰ}
use Rattle.std.proofs.Math.Option
use Rattle.std.proofs.Math.Option.{none, some}
use Rattle.lists.specs.Lists.{is_single, all, maybe}
use Rattle.characters.specs.declared.Characters.{Characters}
use Rattle.characters.specs.Characters.{has_repetition, usable, is_break, advised, advice_of, characters_of, body}
use Rattle.refusals.specs.declared.Fault.{Fault}
use Rattle.refusals.specs.declared.Fault.TheVariants.{BufferShort}
use Rattle.refusals.specs.declared.Refusal.{Refusal}
use Rattle.refusals.specs.Refusals.{number}
use Rattle.values.specs.Tokens.{Token, Segment}
use Rattle.values.specs.Values.{Value}
use Rattle.values.specs.Spelling.{Bytes, SegmentList, spell_value, spell, leads_break, spell_apart}
use Rattle.levels.specs.Levels.{has_version4}
use Rattle.control_elements.specs.Control.{count_of, decimal}
use Rattle.stages.specs.Contents.{body_tokens, segments_of, contents, normal_form}
use Rattle.stages.specs.Places.{unusable_advice, no_opening, stray_releases, unended_segment, broken_tags, misplaced_segments, bad_controls, differing_references, wrong_counts}
use Rattle.stages.specs.Stages.{refusal_of}
use Rattle.answers.specs.Answers.{given, refused, refused_input}
use Rattle.operations.specs.Judge.{judge, normalise_refusal, normalise, normalise_buffer}
use Rattle.operations.specs.Compare.{compare, keep, of_first, of_second}
use Rattle.operations.specs.Locate.{located, locate, part_offset, part_length, part}
use Rattle.operations.specs.Read.{value_bytes, value_table, read_refusal, read, read_bytes, read_table}
use Rattle.operations.specs.Write.{bad_list, unusable_bytes, needs_release, written_text, write_refusal, write, write_output}
use Rattle.starred_cases.specs.Cases.{x}
use Rattle.operations.specs.ValueList.{Item, list_of, list_bytes, list_table, listed_in, segments_listed, trim_list}
use Rattle.spelling_laws.specs.Bodies.{Passes, Breaks, Spelled, Shaped, Spellable, Unbroken, words_of, read_list}
use Rattle.grammar_laws.specs.Grammar.{size, Group, Ordered, Agrees, Interchange}
use Rattle.trimming_laws.specs.Kinds.{Kinds}
use Rattle.trimming_laws.specs.Trimmed.{TrimmedList}
use Rattle.trimming_laws.specs.Ends.{DifferByEnds}
use Rattle.normal_form_laws.specs.Forms.{mark_of, form_characters, BodyPasses, list_read, Normalised, NormalForms, end_to_end, cut_forms}
use Rattle.acceptance_laws.specs.Allowed.{WellOpened, Tagged, Allowed}
use Rattle.acceptance_laws.specs.Counts.{told}
use Rattle.acceptance_laws.specs.Refused.{Refused}
use Rattle.acceptance_laws.specs.Same.{Same}
use Rattle.acceptance_laws.specs.Breaks.{ButForBreaks, BreaksFor, respaced}
use Rattle.round_trip_laws.specs.Trips.{standing_at, WrittenBack, Rewritable, ReadBack, NamesValue, Position, Placed}
use Rattle.refusals.specs.Limits.{most_bytes}

pub record Demands : Type 0 where
  -- ---- 1. Reading and spelling, under usable characters

  -- "The body passes refusals 4 and 5 exactly when some list of segments is spelled by it, each service character inside a value being
  -- released and nothing else": of bodies that do not begin with a line break, with line breaks after any of the list's segments
  pub passes_exactly : (c : Characters) → usable c ≡ true → (place : ℕ) (body : Bytes)
      → (Passes c place body × (leads_break body ≡ false)) ↔ Spelled c body
  -- "there is then only one such list", and one choice of breaks
  pub only_one : (c : Characters) → usable c ≡ true → (body : Bytes) (x y : Spelled c body)
      → (x.list ≡ y.list) × (x.between ≡ y.between)
  -- spelling what was read, with the breaks that stood after its segments, gives the body back
  pub spelled_back : (c : Characters) → usable c ≡ true → (place : ℕ) (body : Bytes) → Passes c place body
      → (between : List Bytes) × Breaks (read_list c place body) between × (spell_apart c (read_list c place body) between ≡ body)
  -- reading what was spelled gives the list back, where no segment of it begins with a break
  pub read_back : (c : Characters) → usable c ≡ true → (place : ℕ) (list : SegmentList) → Shaped list → Spellable c list
      → Unbroken list → read_list c place (spell c list) ≡ list
  -- and so does reading what was spelled with any breaks
  pub read_apart : (c : Characters) → usable c ≡ true → (place : ℕ) (list : SegmentList) → Shaped list → Spellable c list
      → Unbroken list → (between : List Bytes) → Breaks list between → read_list c place (spell_apart c list between) ≡ list
  -- releases are read before splitting: two different lists are never spelled alike, be there segments that begin with a break or not
  pub never_alike : (c : Characters) → usable c ≡ true → (a b : SegmentList) → Shaped a → Spellable c a → Shaped b → Spellable c b
      → spell c a ≡ spell c b → a ≡ b
  -- and of an input: neither 4 nor 5 is met exactly when its body is spelled so
  pub four_and_five : (s : List ℕ) → usable (characters_of s) ≡ true → leads_break (body s) ≡ false
      → ((stray_releases s ≡ []) × (unended_segment s ≡ [])) ↔ Spelled (characters_of s) (body s)
  -- where there is an advice, and where 3 is not met, the body does not begin with a break
  pub body_begins : (s : List ℕ) → (advised s ≡ true) ⊎ (no_opening s ≡ []) → leads_break (body s) ≡ false
  -- ---- 2. Trimming

  -- it is what the paper's words say, level by level, with no empty end left; and those words allow nothing else
  pub trims : (list : SegmentList) → TrimmedList list (trim_list list)
  pub trims_only_so : (list left : SegmentList) → TrimmedList list left → trim_list list ≡ left
  -- trimming again takes nothing more
  pub trims_once : (list : SegmentList) → trim_list (trim_list list) ≡ trim_list list
  -- two lists have the same trimmed contents exactly when they differ by empty ends alone
  pub differ_by_ends : (list other : SegmentList) → (trim_list list ≡ trim_list other) ↔ DifferByEnds list other
  -- ---- 3. Exactly the interchanges that the rules allow

  pub accepts_exactly : (s : List ℕ) → ((judge s).number ≡ 0) ↔ Allowed s
  -- what is then answered: the characters, the counts of the contents, the normal form's length
  pub tells : (s : List ℕ) (a : Allowed s) → judge s ≡ given (told s a)
  -- the list of segments is read off the segments of the input, and "The contents are the trimmed list."
  pub list_is : (s : List ℕ) (a : Allowed s) → a.spelled.list ≡ map words_of (segments_of s)
  pub contents_are : (s : List ℕ) (a : Allowed s) → contents s ≡ trim_list a.spelled.list
  -- a trailer's count is the number of the pieces that it closes
  pub une_counts : {gs : List Segment} (g : Group Agrees gs) → maybe 0 decimal (count_of g.tail) ≡ size g.inside
  pub unz_counts : {gs : List Segment} (i : Interchange gs) → maybe 0 decimal (count_of i.tail) ≡ ⊎_elim size size i.inside
  -- some input is allowed, and some is not
  pub x_is_allowed : Allowed x
  pub nothing_is_not : Allowed [] → ⊥
  -- ---- 4. Refusals

  -- what it says that a number is not met: 2 and 3; 6, where the body passes; 9; 9 to 12
  pub two_and_three : (s : List ℕ) → (unusable_advice s ≡ []) × (no_opening s ≡ []) ↔ WellOpened s
  pub six : (s : List ℕ) → BodyPasses s
      → (broken_tags s ≡ []) ↔ ((segment : List (List (List Bytes))) → Memᴰ segment (list_read s) → Tagged segment)
  pub nine : (s : List ℕ) → (misplaced_segments s ≡ []) ↔ Ordered (segments_of s)
  pub nine_to_twelve : (s : List ℕ)
      → (misplaced_segments s ≡ []) × (bad_controls s ≡ []) × (differing_references s ≡ []) × (wrong_counts s ≡ []) ↔ Interchange (segments_of s)
  -- the number and the place that are answered are met, nothing of an earlier stage is, and nothing lower of its own stage is
  pub refuses_exactly : (s : List ℕ) (f : Fault) (p : ℕ) → (judge s ≡ record { number = number f; values = p ∷ [] }) ↔ Refused s f p
  -- exactly one of "accepted" and one refusal holds
  pub one_of_them : (s : List ℕ) → Allowed s ⊎ ((f : Fault) × (p : ℕ) × Refused s f p)
  pub not_both_lem : (s : List ℕ) {f : Fault} {p : ℕ} → Allowed s → Refused s f p → ⊥
  pub one_refusal : (s : List ℕ) {f g : Fault} {p q : ℕ} → Refused s f p → Refused s g q → (f ≡ g) × (p ≡ q)
  -- ---- 5. Normal form

  -- it is accepted, is its own normal form, has the same contents and mark, and at most 2n + 9 bytes
  pub normal_form_lem : (s : List ℕ) → refusal_of s ≡ none → Normalised s (normal_form s)
  -- two accepted interchanges have the same normal form exactly when their contents and marks are equal
  pub same_form : (a b : List ℕ) → refusal_of a ≡ none → refusal_of b ≡ none
      → (normal_form a ≡ normal_form b) ↔ ((contents a ≡ contents b) × (mark_of a ≡ mark_of b))
  -- it is the advice and the contents, spelled
  pub form_is : (s : List ℕ) → normal_form s ≡ advice_of (form_characters s) ++ spell (form_characters s) (contents s)
  -- Normalise stores it, and what is beyond keeps its values
  pub normalises : (buffer s : List ℕ) → refusal_of s ≡ none → length (normal_form s) ≤ length buffer
      → (normalise buffer s ≡ given (length (normal_form s) ∷ []))
      × (normalise_buffer buffer s ≡ normal_form s ++ drop (length (normal_form s)) buffer)
  -- a buffer that does not hold the normal form of an accepted input is refused by 14, at the length that is needed
  pub form_short_lem : (buffer s : List ℕ) → refusal_of s ≡ none → length buffer < length (normal_form s)
      → normalise_refusal buffer s ≡ some (record { fault = BufferShort; place = length (normal_form s) })
  -- where it is refused, the buffer is unchanged
  pub normalise_refused : (buffer s : List ℕ) {r : Refusal} → normalise_refusal buffer s ≡ some r
      → (normalise buffer s ≡ refused r) × (normalise_buffer buffer s ≡ buffer)
  -- ---- 6. End to end

  -- any number of normal forms written end to end are found again by a cut, and in one way only
  pub cut_back : (forms : List (List ℕ)) → NormalForms forms → cut_forms (end_to_end forms) ≡ forms
  pub one_way : (forms others : List (List ℕ)) → NormalForms forms → NormalForms others → end_to_end forms ≡ end_to_end others
      → forms ≡ others
  -- ---- 7. Read and Write, and round trips

  -- "every operation but Write judges its input first": what refuses the input is what Normalise and Read are refused by
  pub judged_first : (buffer table s : List ℕ) {r : Refusal} → refusal_of s ≡ some r
      → (normalise_refusal buffer s ≡ some r) × (read_refusal buffer table s ≡ some r)
  -- Read is refused for nothing but its input and a lent buffer that is too short
  pub reads_exactly : (buffer table s : List ℕ)
      → ((read buffer table s).number ≡ 0)
      ↔ (Allowed s × (length (value_bytes s) ≤ length buffer) × (length (value_table s) ≤ length table))
  -- it then stores the value list of the contents, and "The rest of both buffers keeps its values."
  pub reads : (buffer table s : List ℕ) → refusal_of s ≡ none → length (value_bytes s) ≤ length buffer
      → length (value_table s) ≤ length table
      → (read buffer table s ≡ given (length (value_bytes s) ∷ length (value_table s) ∷ []))
      × (read_bytes buffer table s ≡ value_bytes s ++ drop (length (value_bytes s)) buffer)
      × (read_table buffer table s ≡ value_table s ++ drop (length (value_table s)) table)
  -- where it is refused, both buffers are unchanged
  pub read_refused : (buffer table s : List ℕ) {r : Refusal} → read_refusal buffer table s ≡ some r
      → (read buffer table s ≡ refused r) × (read_bytes buffer table s ≡ buffer) × (read_table buffer table s ≡ table)
  -- "Read: byte buffer before table": whatever the table is, a byte buffer that is too short answers; the table where it alone is
  pub bytes_short : (buffer table s : List ℕ) → refusal_of s ≡ none → length buffer < length (value_bytes s)
      → read_refusal buffer table s ≡ some (record { fault = BufferShort; place = length (value_bytes s) })
  pub table_short : (buffer table s : List ℕ) → refusal_of s ≡ none → length (value_bytes s) ≤ length buffer
      → length table < length (value_table s)
      → read_refusal buffer table s ≡ some (record { fault = BufferShort; place = length (value_table s) })
  -- Write is refused for nothing but 15, 2 and 16, a text that is no interchange that the rules allow (1, 3 to 13), and 14
  pub writes_exactly : (service bytes table output : List ℕ)
      → let text = written_text service bytes table in
      ((write service bytes table output).number ≡ 0)
      ↔ ((bad_list bytes table ≡ [])
      × (unusable_bytes service ≡ [])
      × (needs_release service bytes table ≡ [])
      × Allowed text
      × (length text ≤ length output))
  -- it then stores the text, and "The bytes beyond the text keep their values."
  pub writes : (service bytes table output : List ℕ) → (write service bytes table output).number ≡ 0
      → let text = written_text service bytes table in
      (write service bytes table output ≡ given (length text ∷ []))
      × (write_output service bytes table output ≡ text ++ drop (length text) output)
  -- where none of 15, 2, 16, 1 and 14 is met, it is refused "as Judge would answer for the text"
  pub as_judged : (service bytes table output : List ℕ) → bad_list bytes table ≡ [] → unusable_bytes service ≡ []
      → needs_release service bytes table ≡ [] → length (written_text service bytes table) ≤ most_bytes
      → length (written_text service bytes table) ≤ length output
      → write_refusal service bytes table output ≡ refusal_of (written_text service bytes table)
  -- "A refused Write leaves its whole output buffer zero"
  pub write_refused : (service bytes table output : List ℕ) {r : Refusal} → write_refusal service bytes table output ≡ some r
      → (write service bytes table output ≡ refused r) × (write_output service bytes table output ≡ replicate (length output) 0)
  -- where Write isn't refused, its text is accepted and Read gives the list back with its empty ends trimmed
  pub write_read : (service bytes table output : List ℕ) → (write service bytes table output).number ≡ 0
      → WrittenBack service bytes table output (written_text service bytes table)
  -- Read then Write gives an interchange with the same contents, where neither is refused
  pub read_write : (s buffer numbers service output : List ℕ) → (read buffer numbers s).number ≡ 0
      → (write service (value_bytes s) (value_table s) output).number ≡ 0
      → ReadBack s buffer numbers service (written_text service (value_bytes s) (value_table s))
  -- what Read gives for an accepted input can be written exactly with six usable bytes that can spell it and suit its version, where the
  -- text has at most 32,000 bytes and the output has room for it
  pub rewrites : (s service output : List ℕ) → refusal_of s ≡ none
      → ((write service (value_bytes s) (value_table s) output).number ≡ 0) ↔ Rewritable s service output
  -- ---- 8. Locate

  -- what is located at a position is what stands there in the contents, of any input,
  pub locates : (s : List ℕ) (segment element repeat component : ℕ)
      → standing_at (contents s) segment element repeat component ≡ Option.map (λ v. v.bytes) (located s segment element repeat component)
  -- and is the value that begins in the body where the tokens before it reach that position: no other value stands there, be its bytes
  -- the same or not
  pub stands : (s : List ℕ) (segment element repeat component : ℕ) (v : Value) → located s segment element repeat component ≡ some v
      → Placed (body_tokens s) (record { segment = segment; element = element; repeat = repeat; component = component }) v
  pub one_place : (ts : List Token) (p : Position) (v w : Value) → Placed ts p v → Placed ts p w → v ≡ w
  -- in an accepted input it is named where it is spelled: with its release characters taken off, that part is the value
  pub names : (s : List ℕ) (segment element repeat component : ℕ) → refusal_of s ≡ none
      → (v : Value) → located s segment element repeat component ≡ some v → NamesValue (characters_of s) s v
  -- Locate answers with the input's refusal; of an accepted input with "absent", or with offset and spelled length of what is located
  pub locate_refused : (s : List ℕ) (segment element repeat component : ℕ) {r : Refusal} → refusal_of s ≡ some r
      → locate s segment element repeat component ≡ refused r
  pub locate_absent : (s : List ℕ) (segment element repeat component : ℕ) → refusal_of s ≡ none → located s segment element repeat component ≡ none
      → locate s segment element repeat component ≡ given []
  pub locate_found : (s : List ℕ) (segment element repeat component : ℕ) → refusal_of s ≡ none
      → (v : Value) → located s segment element repeat component ≡ some v
      → locate s segment element repeat component ≡ given (v.offset ∷ v.spelled ∷ [])
  -- the companion hands back the part of the input that Locate's two values name, and where it gives none, zero bytes at the start
  pub part_is : (s : List ℕ) (segment element repeat component offset size : ℕ)
      → locate s segment element repeat component ≡ given (offset ∷ size ∷ [])
      → (part_offset s segment element repeat component ≡ offset)
      × (part_length s segment element repeat component ≡ size)
      × (part s segment element repeat component ≡ take size (drop offset s))
  pub part_none : (s : List ℕ) (segment element repeat component : ℕ)
      → ((offset size : ℕ) → locate s segment element repeat component ≡ given (offset ∷ size ∷ []) → ⊥)
      → (part_offset s segment element repeat component ≡ 0)
      × (part_length s segment element repeat component ≡ 0)
      × (part s segment element repeat component ≡ [])
  -- of an accepted input that is the spelling of what stands there in the contents, or zero bytes where nothing does
  pub hands_back : (s : List ℕ) (segment element repeat component : ℕ) → refusal_of s ≡ none
      → part s segment element repeat component ≡ maybe [] (spell_value (characters_of s)) (standing_at (contents s) segment element repeat component)
  -- ---- 9. Compare and Keep

  -- "same" exactly when both are accepted and contents and marks are equal
  pub compares : (a b : List ℕ) → (compare a b ≡ given (1 ∷ [])) ↔ Same a b
  pub same_contents : (a b : List ℕ) → Same a b ↔ (Allowed a × Allowed b × (contents a ≡ contents b) × (mark_of a ≡ mark_of b))
  -- "different" exactly when both are accepted and they are not; else the first refusal, with its input
  pub tells_apart : (a b : List ℕ) → (compare a b ≡ given (0 ∷ [])) ↔ (Allowed a × Allowed b × (Same a b → ⊥))
  pub first_refused : (a b : List ℕ) {r : Refusal} → refusal_of a ≡ some r → compare a b ≡ refused_input 1 r
  pub second_refused : (a b : List ℕ) {r : Refusal} → refusal_of a ≡ none → refusal_of b ≡ some r → compare a b ≡ refused_input 2 r
  pub same_self : {a : List ℕ} → Allowed a → Same a a
  pub same_back : {a b : List ℕ} → Same a b → Same b a
  pub same_on : {a b c : List ℕ} → Same a b → Same b c → Same a c
  -- Keep hands back the whole of one of its two inputs, the shorter, the first where equally long; or nothing
  pub keeps : (a b : List ℕ) → Same a b
      → ((keep a b ≡ of_first 0 (length a)) × (length a ≤ length b)) ⊎ ((keep a b ≡ of_second 0 (length b)) × (length b < length a))
  pub kept_none : (a b : List ℕ) → (Same a b → ⊥) → keep a b ≡ of_first 0 0
  -- ---- 10. Value lists, which lose nothing

  -- the kinds give back the segments that were listed, and the segments the kinds
  pub listed_list_of : (list : SegmentList) → Shaped list → segments_listed (list_of list) ≡ list
  pub list_of_listed : (items : List Item) → Kinds items → list_of (segments_listed items) ≡ items
  -- the bytes and the table give back the values that were listed
  pub listed_table : (items : List Item) → listed_in (list_bytes items) (list_table items) ≡ items
  -- a list that was written with nothing to trim is read as it was, value by value
  pub written_unchanged : (service bytes table output : List ℕ) → (write service bytes table output).number ≡ 0
      → trim_list (segments_listed (listed_in bytes table)) ≡ segments_listed (listed_in bytes table)
      → let text = written_text service bytes table in
      (value_bytes text ≡ list_bytes (listed_in bytes table)) × (value_table text ≡ list_table (listed_in bytes table))
  -- ---- 11. Line breaks between segments (request 2026-01)

  -- two inputs that differ in nothing but breaks after the advice and after segments have the same contents, mark and normal form;
  pub but_for_breaks : (s t : List ℕ) → ButForBreaks s t
      → (contents s ≡ contents t) × (mark_of s ≡ mark_of t) × (normal_form s ≡ normal_form t)
  -- where neither is over 32,000 bytes, one is accepted exactly when the other is,
  pub accepted_alike : (s t : List ℕ) → ButForBreaks s t → length s ≤ most_bytes → length t ≤ most_bytes → Allowed s ↔ Allowed t
  -- and Compare then says "same"
  pub compared_alike : (s t : List ℕ) → ButForBreaks s t → length t ≤ most_bytes → Allowed s → compare s t ≡ given (1 ∷ [])
  -- such are an accepted input and the same with any breaks in the places of its own
  pub respaced_alike : (s : List ℕ) → Allowed s → (gap : Bytes) (between : List Bytes) → BreaksFor s gap between
      → ButForBreaks s (respaced s gap between)
  pub spaced_so : (s : List ℕ) → Allowed s
      → (gap : Bytes) × (between : List Bytes) × BreaksFor s gap between × (respaced s gap between ≡ s)
  -- "X and a line feed is now the same as X": so it is of every accepted input, and of any breaks behind it
  pub breaks_behind : (s : List ℕ) → Allowed s → (gap : Bytes) → all is_break gap ≡ true → ButForBreaks s (s ++ gap)
  -- "Contents and normal form hold no breaks"
  pub contents_unbroken : (s : List ℕ) → Allowed s → all (all (all (all (all (λ b. not (is_break b)))))) (contents s) ≡ true
  pub form_unbroken : (s : List ℕ) → Allowed s → all (λ b. not (is_break b)) (normal_form s) ≡ true
  -- "No segment of a list may begin with a break": where 15 is not met, none does; what Read gives is never refused so
  pub written_unbroken : (bytes table : List ℕ) → bad_list bytes table ≡ [] → Unbroken (segments_listed (listed_in bytes table))
  pub read_unbroken : (s : List ℕ) → Allowed s → bad_list (value_bytes s) (value_table s) ≡ []
  -- ---- 12. Syntax version 4 (request 2026-10), of which all of the above holds too

  -- "An element is now a list of repeats, one in the older versions": of an accepted input that does not name version 4
  pub one_repeat : (s : List ℕ) → Allowed s → has_version4 (contents s) ≡ false → all (all is_single) (contents s) ≡ true
  -- there is a repetition separator only in version 4
  pub suits : (s : List ℕ) → Allowed s → has_repetition (characters_of s) ≡ true → has_version4 (contents s) ≡ true
  -- "A version 4 normal form has `*` in the fifth place and releases `*` in values; older ones keep the space", and leave it bare
  pub form_fifth : (s : List ℕ) → (characters_of (normal_form s)).repetition ≡ (if has_version4 (contents s) then 42 else 32)
  pub form_star : (s : List ℕ) → spell_value (form_characters s) (42 ∷ []) ≡ (if has_version4 (contents s) then 63 ∷ 42 ∷ [] else 42 ∷ [])
