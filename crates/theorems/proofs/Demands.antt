-- All that is demanded holds. Assumes nothing.
use Rattle.std.specs.Prelude.{if◌then◌else◌}
use Prim.Native.Nat.{ℕ, ◌≤◌}
use mathlib.Core.Path.{◌≡◌, refl, sym, ap, ◌∙◌}
use mathlib.Core.Logic.{◌↔◌, ◌⊎◌, ⊎_elim}
use mathlib.Core.Bool.{Bool, true, false}
use mathlib.Core.List.{List, [], ◌∷◌, ◌++◌, map}
use lib.ListN.{length}
use Rattle.lists.specs.Lists.{is_single, member, all, gather}
use Rattle.characters.specs.declared.Characters.{Characters}
use Rattle.characters.specs.Characters.{has_release, has_repetition, service_characters, is_service, usable, six_bytes, advised, advice_of, characters_of, body_start, body, opens}
use Rattle.levels.specs.Levels.{has_version4}
use Rattle.refusals.specs.Limits.{most_bytes}
use Rattle.refusals.proofs.Stages.{place_none_not}
use Rattle.values.specs.Spelling.{spell_byte, spell_value, spell, leads_break}
use Rattle.stages.specs.Contents.{body_tokens, segments_of, contents, normal_characters, normal_repetition, interchange, normal_form}
use Rattle.stages.specs.Places.{no_opening, stray_releases, unended_segment}
use Rattle.answers.specs.Answers.{given}
use Rattle.operations.specs.Compare.{compare}
use Rattle.operations.specs.ValueList.{listed_in, trim_list}
use Rattle.operations.proofs.Answered.{normalise_refused, normalises, form_short_lem, read_refused, bytes_short, table_short}
use Rattle.spelling_laws.specs.Bodies.{Spelled, words_of, listed, read_list}
use Rattle.spelling_laws.proofs.Laws.{passes_exactly, only_one, only_breaks_one, spell_read, read_spelling, read_apart, spelling_unique}
use Rattle.trimming_laws.proofs.Nesting.{listed_list_of, list_of_listed}
use Rattle.trimming_laws.proofs.Tables.{listed_table}
use Rattle.trimming_laws.proofs.Trimmed.{trim_list_trimmed, list_only, trim_list_again, same_trimmed}
use Rattle.normal_form_laws.specs.Forms.{mark_of, form_characters}
use Rattle.trimming_laws.proofs.Starts.{unbroken_listed}
use Rattle.normal_form_laws.proofs.Openings.{advice_characters, advised_leads, opened_leads}
use Rattle.normal_form_laws.proofs.Versions.{own_suits, form_repetition}
use Rattle.normal_form_laws.proofs.Normal.{normal_spellable}
use Rattle.normal_form_laws.proofs.Accepted.{accepted_exactly, passes_accepted}
use Rattle.normal_form_laws.proofs.Trimmed.{contents_read}
use Rattle.normal_form_laws.proofs.Theorems.{normal_form_lem, same_normal, cut_forms_lem, file_unique}
use Rattle.acceptance_laws.proofs.Judged.{judged_accepted, judged_refused, judged, not_both_lem, one_refusal, judged_number}
use Rattle.grammar_laws.proofs.Theorem.{input_order, input-interchange, group_counts, interchange_counts}
use Rattle.acceptance_laws.specs.Allowed.{Allowed}
use Rattle.acceptance_laws.specs.Same.{Same}
use Rattle.acceptance_laws.specs.Breaks.{ButForBreaks}
use Rattle.acceptance_laws.proofs.Opening.{opening_clear}
use Rattle.acceptance_laws.proofs.Tags.{tags_clear}
use Rattle.acceptance_laws.proofs.Acceptance.{allowed_exactly, list_read_lem}
use Rattle.acceptance_laws.proofs.Fakes.{x_allowed, empty_not_allowed}
use Rattle.acceptance_laws.proofs.Same.{compared_same, compared_different, same_self, same_back, same_on, keep_same, keep_other}
use Rattle.acceptance_laws.proofs.Breaks.{breaks_back, breaks_contents, breaks_mark, breaks_form, breaks_same}
use Rattle.acceptance_laws.proofs.Respaced.{respaced_breaks, spaced_so, breaks_behind}
use Rattle.acceptance_laws.proofs.Breakless.{contents_solid, normal_solid}
use Rattle.round_trip_laws.proofs.Placed.{one_placed}
use Rattle.round_trip_laws.proofs.Values.{kinds_sound, starts_sound}
use Rattle.round_trip_laws.proofs.Written.{list_sound}
use Rattle.round_trip_laws.proofs.Theorems.{written_unchanged, written_back, read_back, located_contents, located_placed, located_named, part_spelled}
use Rattle.theorems.specs.Demands.{Demands}
use Rattle.theorems.proofs.Buffers.{judged_first, reads_exactly, reads, writes_exactly, writes, as_judged, rewrites, write_none}
use Rattle.operations.proofs.Cases.{first_refused, second_refused, write_refused}
use Rattle.operations.proofs.Located.{locate_refused, locate_absent, locate_found, part_is, part_none}

-- an input's body passes exactly where 4 and 5 are not met
four_and_five : (s : List ℕ) → usable (characters_of s) ≡ true → leads_break (body s) ≡ false
    → ((stray_releases s ≡ []) × (unended_segment s ≡ [])) ↔ Spelled (characters_of s) (body s)
four_and_five s u n =
    let exactly = passes_exactly (characters_of s) u (body_start s) (body s) in
    (λ h. exactly.0 ((passes_accepted s).0 h, n), λ h. (passes_accepted s).1 (exactly.1 h).0)

body_begins : (s : List ℕ) → (advised s ≡ true) ⊎ (no_opening s ≡ []) → leads_break (body s) ≡ false
unfolding no_opening
body_begins s = ⊎_elim (advised_leads s) (λ h. opened_leads s ((place_none_not (opens s) (body_start s)).0 h))

list_is : (s : List ℕ) (a : Allowed s) → a.spelled.list ≡ map words_of (segments_of s)
unfolding read_list listed segments_of body_tokens
list_is s a = list_read_lem s a

contents_are : (s : List ℕ) (a : Allowed s) → contents s ≡ trim_list a.spelled.list
contents_are s a = contents_read s ∙ ap trim_list (sym (list_read_lem s a))

form_is : (s : List ℕ) → normal_form s ≡ advice_of (form_characters s) ++ spell (form_characters s) (contents s)
unfolding normal_form interchange
form_is s = refl

-- ---- version 4

one_repeat : (s : List ℕ) → Allowed s → has_version4 (contents s) ≡ false → all (all is_single) (contents s) ≡ true
one_repeat s a v =
    let accepted = (allowed_exactly s).1 a in
    (normal_spellable s accepted).repeated (form_repetition (mark_of s) (contents s) ∙ v)

form_fifth : (s : List ℕ) → (characters_of (normal_form s)).repetition ≡ (if has_version4 (contents s) then 42 else 32)
unfolding normal_form interchange normal_characters normal_repetition six_bytes
form_fifth s = ap (λ (c : Characters). c.repetition) (advice_characters (form_characters s) (spell (form_characters s) (contents s)))

form_star : (s : List ℕ) → spell_value (form_characters s) (42 ∷ []) ≡ (if has_version4 (contents s) then 63 ∷ 42 ∷ [] else 42 ∷ [])
unfolding spell_value spell_byte gather normal_characters normal_repetition six_bytes is_service service_characters has_release has_repetition member
form_star s = step (has_version4 (contents s))
  where
    step : (v : Bool) → spell_value (normal_characters (mark_of s) (if v then 42 else 32)) (42 ∷ []) ≡ (if v then 63 ∷ 42 ∷ [] else 42 ∷ [])
    step true = refl
    step false = refl

module _ (a b : List ℕ) where
  same_contents : Same a b ↔ (Allowed a × Allowed b × (contents a ≡ contents b) × (mark_of a ≡ mark_of b))
  same_contents = (
    λ h.
        let form = (same_normal a b ((allowed_exactly a).1 h.first) ((allowed_exactly b).1 h.second)).0 h.normal in
        (h.first, h.second, form.0, form.1),
    λ h.
        record {
          first = h.0;
          second = h.1;
          normal = (same_normal a b ((allowed_exactly a).1 h.0) ((allowed_exactly b).1 h.1)).1 (h.2, h.3);
        },
  )

  -- line breaks alone
  module _ (h : ButForBreaks a b) where
    accepted_alike : length a ≤ most_bytes → length b ≤ most_bytes → Allowed a ↔ Allowed b
    accepted_alike m n = (λ k. (breaks_same a b h k n).second, λ k. (breaks_same b a (breaks_back h) k m).second)

    compared_alike : length b ≤ most_bytes → Allowed a → compare a b ≡ given (1 ∷ [])
    compared_alike n k = (compared_same a b).1 (breaks_same a b h k n)

pub demands : Demands
demands =
    record {
      passes_exactly = λ c u. passes_exactly c u;
      only_one = λ c u body x y. (only_one c u body x y, only_breaks_one c u body x y);
      spelled_back = λ c u. spell_read c u;
      read_back = λ c u. read_spelling c u;
      read_apart = λ c u place list s r n between k. read_apart c u place list s r n between k.only_breaks;
      never_alike = λ c u. spelling_unique c u;
      four_and_five = four_and_five;
      body_begins = body_begins;
      trims = trim_list_trimmed;
      trims_only_so = list_only;
      trims_once = trim_list_again;
      differ_by_ends = same_trimmed;
      accepts_exactly = judged_number;
      tells = judged_accepted;
      list_is = list_is;
      contents_are = contents_are;
      une_counts = group_counts;
      unz_counts = interchange_counts;
      x_is_allowed = x_allowed;
      nothing_is_not = empty_not_allowed;
      two_and_three = opening_clear;
      six = tags_clear;
      nine = input_order;
      nine_to_twelve = input-interchange;
      refuses_exactly = judged_refused;
      one_of_them = judged;
      not_both_lem = not_both_lem;
      one_refusal = one_refusal;
      normal_form_lem = normal_form_lem;
      same_form = same_normal;
      form_is = form_is;
      normalises = normalises;
      normalise_refused = normalise_refused;
      form_short_lem = form_short_lem;
      cut_back = cut_forms_lem;
      one_way = file_unique;
      judged_first = judged_first;
      reads_exactly = reads_exactly;
      reads = reads;
      read_refused = read_refused;
      bytes_short = bytes_short;
      table_short = table_short;
      writes_exactly = writes_exactly;
      writes = writes;
      as_judged = as_judged;
      write_refused = write_refused;
      write_read = written_back;
      read_write = read_back;
      rewrites = rewrites;
      locates = located_contents;
      stands = located_placed;
      one_place = one_placed;
      names = located_named;
      locate_refused = locate_refused;
      locate_absent = locate_absent;
      locate_found = locate_found;
      part_is = part_is;
      part_none = part_none;
      hands_back = part_spelled;
      compares = compared_same;
      same_contents = same_contents;
      tells_apart = compared_different;
      first_refused = first_refused;
      second_refused = second_refused;
      same_self = same_self;
      same_back = same_back;
      same_on = same_on;
      keeps = keep_same;
      kept_none = keep_other;
      listed_list_of = listed_list_of;
      list_of_listed = list_of_listed;
      listed_table = listed_table;
      written_unchanged = λ service bytes table output n. written_unchanged service bytes table output ((write_none service bytes table output).0 n);
      but_for_breaks = λ s t h. (breaks_contents s t h, breaks_mark s t h, breaks_form s t h);
      accepted_alike = accepted_alike;
      compared_alike = compared_alike;
      respaced_alike = respaced_breaks;
      spaced_so = spaced_so;
      breaks_behind = breaks_behind;
      contents_unbroken = contents_solid;
      form_unbroken = normal_solid;
      written_unbroken = λ bytes table h.
          unbroken_listed (listed_in bytes table) (kinds_sound bytes table h) (starts_sound bytes table h);
      read_unbroken = λ s a. list_sound s ((allowed_exactly s).1 a);
      one_repeat = one_repeat;
      suits = λ s a. own_suits s ((accepted_exactly s).0 ((allowed_exactly s).1 a));
      form_fifth = form_fifth;
      form_star = form_star;
    }
