-- All of the statements hold. Assumes nothing.
use Prim.Native.Nat.{ℕ}
use mathlib.Core.Path.{◌≡◌, refl, sym, ap, subst, ◌∙◌}
use mathlib.Core.Logic.{◌⊎◌, inl, inr, ⊎_elim}
use mathlib.Core.List.{List, [], ◌∷◌, ◌++◌, Memᴰ}
use mathlib.Core.Option.{some, none-ne-some, some-injective}
use Rattle.lists.specs.Lists.{text, at, begins, same, member, is_empty, all, through, onto, cut, last_or, unless_idle, drop_end, trim_end, gather, maybe}
use Rattle.lists.proofs.Tests.{fails, decides}
use Rattle.characters.specs.declared.Characters.{Characters}
use Rattle.characters.specs.Characters.{has_release, has_repetition, is_service, is_break, six_bytes, advised, plus_characters, star_characters, begins_version4, characters_of, body_start, body, role}
use Rattle.characters.specs.Notions.{Usable}
use Rattle.characters.proofs.Words.{usable_says, service_says, six_are, plus_opening, control_opening, plain_opening}
use Rattle.refusals.specs.declared.Fault.TheVariants.{TooLong}
use Rattle.refusals.specs.declared.Refusal.{Refusal}
use Rattle.refusals.proofs.Words.{numbers_are}
use Rattle.values.specs.Tokens.{unreleased, reading, taken, tokens_from, tokens, ends, place_of, segments, start}
use Rattle.values.specs.Values.{byte_of, bytes_of, end_place, value_of, values_of, repeats_of, elements_of}
use Rattle.values.specs.Trimming.{is_idle, trim_repeat, trim_element, trim_segment, trimmed, contents_of}
use Rattle.values.specs.Spelling.{SegmentList, spell}
use Rattle.values.proofs.Words.{read_end, read_separators, read_value, read_released, read_stray, read_last, segment_ended, segment_unended, no_segment, start_is, bytes_are, spelled_value}
use Rattle.levels.specs.Levels.{has_version4}
use Rattle.levels.specs.Notions.{FourthVersion}
use Rattle.levels.proofs.Words.{level_a_says, level_b_says, fourth_says}
use Rattle.segments.specs.Kinds.{kind_named}
use Rattle.control_elements.proofs.Words.{decimal_digits}
use Rattle.stages.specs.Contents.{body_tokens, segments_of, contents, normal_repetition, normal_form}
use Rattle.stages.proofs.Words.{form_is, fifth_is}
use Rattle.answers.proofs.Words.{judged_are, stored_are, compared_are, located_are, listed_are}
use Rattle.operations.specs.Judge.{figures_of}
use Rattle.operations.proofs.Words as values
use Rattle.spelling_laws.specs.Bodies.{words_of}
use Rattle.trimming_laws.proofs.Tables.{list_table_length}
use Rattle.normal_form_laws.proofs.Trimmed.{contents_words}
use Rattle.normal_form_laws.proofs.Alike.{control_alike, references_by_contents, counts_by_contents}
use Rattle.paper_words.specs.PaperWords.{six, Fourth, ServiceCharacters, Reading, BytesToValues, ControlElements, NormalForm, Told, ValueLists, PaperWords}
use Rattle.paper_words.proofs.Opening.{with_advice, after_terminator}
use Rattle.paper_words.proofs.Tags.{other_kind}
use Rattle.paper_words.proofs.Values.{element_ends, repeat_ends, component_ends, tag_kind, spelled_on, listed_on}
use Rattle.paper_words.proofs.Judged.{judge_refuses}
use Rattle.paper_words.proofs.Written.{write_refuses}

with_star : (rest : List ℕ) (level : ℕ) → Memᴰ level (text "AB") → six (characters_of (text "UNB+UNO" ++ level ∷ text ":4" ++ rest)) ≡ text ":+.?*'"
with_star rest level (Memᴰ.head e) = ap six ((plus_opening (text "UNO" ++ level ∷ text ":4" ++ rest)).1 (rest, inl (ap (λ (l : ℕ). text "UNO" ++ l ∷ text ":4" ++ rest) e)))
with_star rest level (Memᴰ.tail (Memᴰ.tail m)) = elim m [ ]
with_star rest level (Memᴰ.tail (Memᴰ.head e)) =
    ap six ((plus_opening (text "UNO" ++ level ∷ text ":4" ++ rest)).1 (rest, inr (ap (λ (l : ℕ). text "UNO" ++ l ∷ text ":4" ++ rest) e)))

service_characters_lem : ServiceCharacters
service_characters_lem =
    record {
      usable_when = usable_says;
      service_character = service_says;
      with_advice = λ c gap rest passed. with_advice gap rest passed c;
      without_advice = λ s n. let plain = plain_opening s (λ rest e. n (rest, e)) in (plain.0, plain.1);
      with_plus = λ rest a b. ap six ((plus_opening rest).0 (λ h. ⊎_elim (λ e. a (h.0, e)) (λ e. b (h.0, e)) h.1));
      with_star = with_star;
      with_control = λ rest. ap six (control_opening rest).0;
    }

reads : (c : Characters) → Usable c → (place : ℕ) → Reading c place
reads c u place =
    record {
      nothing = read_end c u place;
      terminator = λ gap more passed. after_terminator gap more passed c u place;
      element = λ more. (read_separators c u place more).1;
      repetition = λ n more. (read_separators c u place more).2 n;
      component = λ more. (read_separators c u place more).3;
      plain = λ b more n. read_value c u place b more ((fails (is_service c b) (service_says c b)).1 n);
      release = λ r b more. (
        λ h. read_released c u place r b more ((service_says c b).1 h),
        λ n. read_stray c u place r b more ((fails (is_service c b) (service_says c b)).1 n),
        read_last c u place r,
      );
    }

no_words : words_of [] ≡ []
unfolding words_of elements_of cut
no_words = refl

body_tokens_lem : (s : List ℕ) → body_tokens s ≡ tokens (characters_of s) (body_start s) (body s)
unfolding body_tokens
body_tokens_lem s = refl

-- two segments
example : contents (text "UNB+UNOA:4+A::B:**C:*:+:*+D+*:+'*+'")
    ≡ (((text "UNB" ∷ []) ∷ []) ∷ ((text "UNOA" ∷ text "4" ∷ []) ∷ []) ∷ ((text "A" ∷ [] ∷ text "B" ∷ []) ∷ ([] ∷ []) ∷ (text "C" ∷ []) ∷ [])
    ∷ (([] ∷ []) ∷ []) ∷ ((text "D" ∷ []) ∷ []) ∷ []) ∷ ((([] ∷ []) ∷ []) ∷ []) ∷ []
unfolding begins same member is_empty all through onto cut last_or unless_idle drop_end trim_end gather maybe has_release has_repetition is_break six_bytes advised plus_characters star_characters begins_version4 characters_of body_start body role unreleased reading taken tokens_from tokens ends place_of segments start byte_of bytes_of end_place value_of values_of repeats_of elements_of is_idle trim_repeat trim_element trim_segment trimmed contents_of body_tokens segments_of contents
example = refl

bytes_to_values : BytesToValues
unfolding segments_of contents kind_named same
bytes_to_values =
    record {
      reading = reads;
      body_tokens_lem = body_tokens_lem;
      body_segments = λ s. (refl, refl);
      nothing = (no_segment, no_words, (bytes_are 0 0 0 0 []).0);
      segment_ended = segment_ended;
      segment_unended = segment_unended;
      starts = start_is;
      value_ended = λ u rank q rest none. (
        element_ends u q rest none rank,
        λ values repeats elements e. (repeat_ends u q rest none values repeats elements e, component_ends u q rest none values repeats elements e),
      );
      value_bytes_lem = λ b from place ts. (bytes_are b from place 0 ts).1;
      contents_trimmed = contents_words;
      trimmed = example;
      kind = tag_kind;
      service_kinds = refl;
      user_kind = other_kind;
      levels = λ b. (level_a_says b, level_b_says b);
    }

control_elements : ControlElements
control_elements =
    record {
      alike = λ past other g h p e. (control_alike g h e, references_by_contents past other g h p e, counts_by_contents past other g h p e);
      digits = decimal_digits;
    }

-- the fifth byte of a normal form, by the version that UNB names
fifth : (s : List ℕ) → (Fourth s × (normal_repetition (contents s) ≡ 42)) ⊎ ((Fourth s → ⊥) × (normal_repetition (contents s) ≡ 32))
unfolding at
fifth s = by (contents s) refl
  where
    by : (list : SegmentList) → contents s ≡ list
        → (Fourth s × (normal_repetition (contents s) ≡ 42)) ⊎ ((Fourth s → ⊥) × (normal_repetition (contents s) ≡ 32))
    by [] e = inr (
      λ h. none-ne-some h.0 (sym (ap (λ (l : SegmentList). at l 0) e) ∙ h.1),
      ap normal_repetition e ∙ (fifth_is [] []).2,
    )
    by (unb ∷ rest) e =
        let first : at (contents s) 0 ≡ some unb = ap (λ (l : SegmentList). at l 0) e in
        ⊎_elim
        (λ h. inl ((unb, first, h), ap normal_repetition e ∙ (fifth_is unb rest).0 h))
        (λ n. inr (
          λ h. n (subst FourthVersion (sym (some-injective unb h.0 (sym first ∙ h.1))) h.2),
          ap normal_repetition e ∙ (fifth_is unb rest).1 n,
        ))
        (decides (has_version4 (unb ∷ rest)) (fourth_says unb rest))

byte_by_byte : (c : Characters) (s : List ℕ)
    → ((Fourth s → ⊥) → six c ≡ text ":+" ++ (characters_of s).mark ∷ text "? '") → (Fourth s → six c ≡ text ":+" ++ (characters_of s).mark ∷ text "?*'")
    → normal_form s ≡ text "UNA" ++ six c ++ spell c (contents s)
byte_by_byte c s older fourth = form_is s ∙ ap (λ (d : Characters). text "UNA" ++ six d ++ spell d (contents s)) (sym own)
  where
    mark : ℕ
    mark = (characters_of s).mark

    spelled : (n : ℕ) → normal_repetition (contents s) ≡ n → six c ≡ 58 ∷ 43 ∷ mark ∷ 63 ∷ n ∷ 39 ∷ []
        → c ≡ record { component = 58; element = 43; mark = mark; release = 63; repetition = normal_repetition (contents s); terminator = 39 }
    spelled n e h =
        sym (six_are c.component c.element c.mark c.release c.repetition c.terminator)
        ∙ ap six_bytes h
        ∙ six_are 58 43 mark 63 n 39
        ∙ ap (λ (r : ℕ). record { component = 58; element = 43; mark = mark; release = 63; repetition = r; terminator = 39 }) (sym e)

    own : c ≡ record { component = 58; element = 43; mark = mark; release = 63; repetition = normal_repetition (contents s); terminator = 39 }
    own = ⊎_elim (λ h. spelled 42 h.1 (fourth h.0)) (λ h. spelled 32 h.1 (older h.0)) (fifth s)

normal_form_lem : (c : Characters) → NormalForm c
normal_form_lem c =
    record {
      spelled_value = λ b more.
          let value = spelled_value c b more in
          (value.0, λ h. value.1 ((service_says c b).1 h), λ n. value.2 ((fails (is_service c b) (service_says c b)).1 n));
      spelled = spelled_on c;
      byte_by_byte = byte_by_byte c;
    }

told : Told
told =
    record {
      given = λ i m n.
          let r : Refusal = record { fault = TooLong; place = 0 } in
          let found = located_are m n r in
          ((judged_are i r).0, (stored_are n r).0, (compared_are r).0, (compared_are r).1, found.0, found.1, (listed_are m n r).0);
      refused = λ r.
          let i = figures_of [] in
          ((judged_are i r).1, (stored_are 0 r).1, (located_are 0 0 r).2, (listed_are 0 0 r).1, (compared_are r).2, (compared_are r).3);
    }

value_lists : ValueLists
value_lists =
    record {
      kinds = listed_on;
      bytes = values.bytes_are;
      table = values.table_is;
      table_length = list_table_length;
      read_list_lem = values.read_list_lem;
      record_names = values.listed_at;
      text_is = λ c. values.text_is c.component c.element c.mark c.release c.repetition c.terminator;
    }

pub paper_words : PaperWords
paper_words = (
  service_characters_lem,
  bytes_to_values,
  control_elements,
  normal_form_lem,
  told,
  value_lists,
  record { judge_refuses = judge_refuses; write_refuses = write_refuses; numbers = numbers_are },
)
