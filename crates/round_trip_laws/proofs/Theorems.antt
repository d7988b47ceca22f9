-- The theorems of this crate. Assumes nothing.
use Prim.Native.Nat.{ℕ, ◌≤◌}
use mathlib.Core.Path.{◌≡◌, refl, sym, ap, subst, ◌∙◌}
use mathlib.Core.Bool.{true, false, true≢false}
use mathlib.Core.List.{List, [], ◌∷◌, map, map-map}
use mathlib.Core.Option
use mathlib.Core.Option.{Option, none, some, map-eq-none_iff}
use mathlib.Core.Logic.{◌↔◌}
use lib.ListN.{length, take, drop}
use Rattle.lists.specs.Lists.{maybe}
use Rattle.characters.specs.declared.Characters.{Characters}
use Rattle.characters.specs.Characters.{six_bytes, has_release, has_repetition, characters_of, body_start, body}
use Rattle.values.specs.Values.{Value}
use Rattle.values.specs.Trimming.{trimmed, contents_of}
use Rattle.values.specs.Spelling.{SegmentList, spell_value}
use Rattle.stages.specs.Contents.{body_tokens, segments_of, contents, interchange}
use Rattle.stages.specs.Stages.{refusal_of}
use Rattle.operations.specs.Compare.{are_same, compare}
use Rattle.operations.specs.Read.{value_bytes, value_table, read_refusal, read}
use Rattle.operations.specs.ValueList.{list_of, list_bytes, list_table, listed_in, segments_listed, trim_list}
use Rattle.operations.specs.Locate.{located, part_offset, part_length, part}
use Rattle.operations.specs.Write.{written_text, write_refusal, write}
use Rattle.operations.proofs.Answered.{judge_by, read_given, read_passes}
use Rattle.spelling_laws.specs.Bodies.{Spellable}
use Rattle.trimming_laws.proofs.Nesting.{list_of_listed}
use Rattle.normal_form_laws.specs.Forms.{Suits}
use Rattle.normal_form_laws.proofs.Accepted.{accepted_exactly}
use Rattle.normal_form_laws.proofs.Versions.{own_suits}
use Rattle.normal_form_laws.proofs.Normal.{accepted_usable, accepted_passes, contents_spellable}
use Rattle.normal_form_laws.proofs.Theorems.{same_exactly}
use Rattle.round_trip_laws.specs.Trips.{list_given, standing_at, WrittenBack, Rewritable, ReadBack, NamesValue, Placed}
use Rattle.round_trip_laws.proofs.Values.{kinds_sound}
use Rattle.stages.proofs.Stages.{later_none}
use Rattle.round_trip_laws.proofs.Written.{write_passed, text_accepted, text_contents, text_characters, text_stored, list_read_lem, list_sound, list_spellable, list_text, six_usable, short_enough, read_accepted, bytes_stand, table_stands}
use Rattle.round_trip_laws.proofs.Positions.{standing_map, spot_at, standing_piece}
use Rattle.round_trip_laws.proofs.Places.{named_piece}
use Rattle.round_trip_laws.proofs.Placed.{standing_placed}
use Rattle.round_trip_laws.proofs.Respelled.{respelled_accepted}
use Rattle.round_trip_laws.proofs.Numbers.{unrefused}
use Rattle.refusals.specs.Limits.{most_bytes}

-- ---- Write, then Read

module _ (service bytes table output : List ℕ) (h : write_refusal service bytes table output ≡ none) where
  -- The text of a Write that is not refused is accepted,
  pub written_accepted : refusal_of (written_text service bytes table) ≡ none
  written_accepted = text_accepted service bytes table output ((write_passed service bytes table output).0 h)

  -- and its contents are the list that was written, with its empty ends trimmed.
  pub written_contents : contents (written_text service bytes table) ≡ trim_list (segments_listed (listed_in bytes table))
  unfolding list_given
  written_contents = text_contents service bytes table output ((write_passed service bytes table output).0 h)

  -- Read gives back the very values that were written, kind by kind, where there was no empty end to trim.
  pub written_unchanged : (untrimmed : trim_list (segments_listed (listed_in bytes table)) ≡ segments_listed (listed_in bytes table))
      → let text = written_text service bytes table in
      (value_bytes text ≡ list_bytes (listed_in bytes table)) × (value_table text ≡ list_table (listed_in bytes table))
  unfolding value_bytes value_table
  written_unchanged untrimmed =
      let kinds = kinds_sound bytes table ((write_passed service bytes table output).0 h).list in
      let values = ap list_of (written_contents ∙ untrimmed) ∙ list_of_listed (listed_in bytes table) kinds in
      (ap list_bytes values, ap list_table values)

-- Whoever gets the number 0 from Write can rely on this.
pub written_back : (service bytes table output : List ℕ) → (write service bytes table output).number ≡ 0
    → WrittenBack service bytes table output (written_text service bytes table)
unfolding write value_bytes value_table list_given maybe
written_back service bytes table output n =
    let text : List ℕ = written_text service bytes table in
    let h = unrefused (length text ∷ []) (write_refusal service bytes table output) n in
    let back : contents text ≡ list_given bytes table = written_contents service bytes table output h in
    let passes = written_accepted service bytes table output h in
    record {
      stored = text_stored service bytes table output h;
      accepts = judge_by text none passes;
      characters = text_characters service bytes table output;
      same_contents = back;
      bytes_back = ap (λ (list : SegmentList). list_bytes (list_of list)) back;
      table_back = ap (λ (list : SegmentList). list_table (list_of list)) back;
      reads = λ buffer numbers b t. read_given buffer numbers text (read_passes buffer numbers text passes b t);
    }

-- ---- Read, then Write

module _ (s service : List ℕ) (h : refusal_of s ≡ none) where
  abbrev rewritten : List ℕ
  rewritten = written_text service (value_bytes s) (value_table s)

  -- What Write makes of what Read gave is the contents, spelled with the new service characters,
  pub rewritten_text : rewritten ≡ interchange (six_bytes service) (contents s)
  rewritten_text = list_text s h service

  -- and it has the same contents, where Write is not refused.
  pub rewritten_contents : (output : List ℕ) → write_refusal service (value_bytes s) (value_table s) output ≡ none
      → contents rewritten ≡ contents s
  unfolding list_given
  rewritten_contents output w = written_contents service (value_bytes s) (value_table s) output w ∙ list_read_lem s h

  -- its fifth byte suits the version,
  text_suits : (output : List ℕ) → write_refusal service (value_bytes s) (value_table s) output ≡ none → Suits (six_bytes service) (contents s)
  text_suits output w =
      let own = own_suits rewritten ((accepted_exactly rewritten).0 (written_accepted service (value_bytes s) (value_table s) output w)) in
      subst (Suits (six_bytes service)) (rewritten_contents output w)
      (subst (λ (c : Characters). Suits c (contents rewritten)) (text_characters service (value_bytes s) (value_table s) output) own)

  -- Write is refused for nothing but its six bytes (2), a service character that they cannot release or a repeat that they cannot separate
  -- (16), a text over 32,000 bytes (1), a buffer that is too short for it (14), and a fifth byte that is no space where the version is not 4
  -- (7): never for the list (15), and the text is never refused by another of 3 to 13.
  pub rewritten_exactly : (output : List ℕ) → (write_refusal service (value_bytes s) (value_table s) output ≡ none) ↔ Rewritable s service output
  rewritten_exactly output =
      let c : Characters = six_bytes service in
      let passed = write_passed service (value_bytes s) (value_table s) output in (
        λ w.
            let p = passed.0 w in
            let six = (six_usable service).0 p.characters in
            record {
              six = six.0;
              usable_bytes = six.1;
              spellable = (list_spellable s h service).0 p.releases;
              suits = text_suits output w;
              short = rw (← rewritten_text) ((short_enough rewritten).0 p.short);
              fits = rw (← rewritten_text) p.fits;
            },
        λ k.
            let text-short : length rewritten ≤ most_bytes = rw rewritten_text k.short in
            let respelled = respelled_accepted s h c k.usable_bytes k.spellable k.suits k.short in
            let passes : refusal_of rewritten ≡ none = ap refusal_of rewritten_text ∙ respelled in
            passed.1 (record {
              list = list_sound s h;
              characters = (six_usable service).1 (k.six, k.usable_bytes);
              releases = (list_spellable s h service).1 k.spellable;
              short = (short_enough rewritten).1 text-short;
              fits = rw rewritten_text k.fits;
              later = later_none rewritten passes;
            }),
      )

  -- The contents can be spelled where there is a release character, and a repetition separator if s has one, so that 16 does not refuse
  -- either.
  pub rewritten_released : has_release (six_bytes service) ≡ true → (has_repetition (six_bytes service) ≡ false → has_repetition (characters_of s) ≡ false)
      → Spellable (six_bytes service) (contents s)
  rewritten_released r p = record {
    released = λ n. absurd (true≢false (sym r ∙ n));
    repeated = λ n. (contents_spellable s h).repeated (p n);
  }

-- Whoever gets the number 0 from Read, and then from Write, can rely on this.
pub read_back : (s buffer numbers service output : List ℕ) → (read buffer numbers s).number ≡ 0
    → (write service (value_bytes s) (value_table s) output).number ≡ 0
    → ReadBack s buffer numbers service (written_text service (value_bytes s) (value_table s))
unfolding read write compare maybe
read_back s buffer numbers service output n m =
    let bytes : List ℕ = value_bytes s in
    let table : List ℕ = value_table s in
    let text : List ℕ = written_text service bytes table in
    let r = unrefused (length bytes ∷ length table ∷ []) (read_refusal buffer numbers s) n in
    let w = unrefused (length text ∷ []) (write_refusal service bytes table output) m in
    let h = read_accepted buffer numbers s r in
    let k = written_accepted service bytes table output w in
    let back : contents text ≡ contents s = rewritten_contents s service h output w in
    record {
      bytes_stored = bytes_stand buffer numbers s r;
      table_stored = table_stands buffer numbers s r;
      spelled = rewritten_text s service h;
      accepts = judge_by text none k;
      same_contents = back;
      same = λ mark.
          let c : characters_of text ≡ six_bytes service = text_characters service bytes table output in
          let equal : are_same s text ≡ true = (same_exactly s text).1 (h, k, sym back, sym (ap (λ (c : Characters). c.mark) c ∙ mark)) in
          rw (h, k, equal) refl;
    }

-- ---- Locate, and what Read gives

module _ (s : List ℕ) (segment element repeat component : ℕ) where
  abbrev found : Option Value
  found = located s segment element repeat component

  -- What Locate finds at a position is what stands there in the contents, of any input:
  pub located_contents : standing_at (contents s) segment element repeat component ≡ Option.map (λ v. v.bytes) found
  unfolding contents contents_of located standing_at
  located_contents =
      ap (λ (list : SegmentList). standing_at list segment element repeat component)
      (sym (map-map (map (map (map (λ v. v.bytes)))) trimmed (segments_of s)))
      ∙ standing_map (λ v. v.bytes) (map trimmed (segments_of s)) segment element repeat component

  -- the same bytes,
  pub located_value : (v : Value) → found ≡ some v → standing_at (contents s) segment element repeat component ≡ some v.bytes
  located_value v e = located_contents ∙ ap (Option.map (λ v. v.bytes)) e

  -- and nothing exactly where the contents have no such position.
  pub located_none : (found ≡ none) ↔ (standing_at (contents s) segment element repeat component ≡ none)
  located_none =
      let nothing = map-eq-none_iff (λ (v : Value). v.bytes) found in
      (λ e. located_contents ∙ nothing.1 e, λ e. nothing.0 (sym located_contents ∙ e))

  -- It stands at that position in the body, of any input.
  pub located_placed : (v : Value) → found ≡ some v
      → Placed (body_tokens s) (record { segment = segment; element = element; repeat = repeat; component = component }) v
  unfolding located standing_at segments_of
  located_placed v e = standing_placed (body_tokens s) segment element repeat component v e

  module _ (h : refusal_of s ≡ none) where
    -- In an accepted input, the part that Locate names is the value's spelling, and read alone it is the value.
    pub located_named : (v : Value) → found ≡ some v → NamesValue (characters_of s) s v
    unfolding located standing_at segments_of body_tokens body
    located_named v e =
        let c : Characters = characters_of s in
        let u = accepted_usable s h in
        let q = standing_piece segment element repeat component (body_tokens s) v e in
        subst (NamesValue c s) q.2 (named_piece c u s (body_start s) (body s) (accepted_passes s h) refl (spot_at segment element repeat component) q.0 q.1)

    -- So Locate's companion hands back the spelling of what Read gives there, and zero bytes where there is nothing.
    pub part_spelled : part s segment element repeat component
        ≡ maybe [] (spell_value (characters_of s)) (standing_at (contents s) segment element repeat component)
    unfolding part part_length part_offset maybe
    part_spelled = rw (h, located_contents) (step found refl)
      where
        step : (o : Option Value) → found ≡ o
            → take (maybe 0 (λ v. v.spelled) o) (drop (maybe 0 (λ v. v.offset) o) s)
            ≡ maybe [] (spell_value (characters_of s)) (Option.map (λ v. v.bytes) o)
        step none e = refl
        step (some v) e = (located_named v e).spelling
