-- What a Write that is not refused has passed, and what of it holds for the value list of an accepted input. Assumes nothing.
use Prim.Native.Nat.{ℕ, ◌≤◌}
use mathlib.Core.Path.{◌≡◌, sym, ap, ap₂, subst, ◌∙◌}
use mathlib.Core.Bool.{Bool, true, ◌&&◌}
use mathlib.Core.List.{List, [], ◌∷◌}
use mathlib.Core.Option.{none}
use mathlib.Core.Logic.{◌↔◌}
use native.Mathlib.Omega.{arith}
use lib.ListN.{length, take, drop, length-append}
use lib.Seq.{take-append_seam}
use lib.Dec.{eqb, ltb}
use borrow.Author.Tests.{ltb-false, le-ltb, eqb-true, eq-eqb}
use Rattle.lists.proofs.Texts.{and_left, and_right, and_both}
use Rattle.characters.specs.declared.Characters.{Characters}
use Rattle.characters.specs.Characters.{usable, six_bytes, characters_of, advice_of, bad_advice}
use Rattle.refusals.specs.declared.Fault.TheVariants.{TooLong, UnusableAdvice, BadList, NeedsRelease, BufferShort}
use Rattle.refusals.specs.Refusals.{Stage, met, place_if, lowest, or_else, answering}
use Rattle.refusals.proofs.Lowest.{lowest_none}
use Rattle.refusals.proofs.Stages.{met_none, or_else_neither, answering_append, place_none, place_none_not}
use Rattle.values.specs.Spelling.{SegmentList, spell}
use Rattle.stages.specs.Contents.{contents, interchange, normal_form}
use Rattle.stages.specs.Places.{too_long, unusable_advice, normal_too_long}
use Rattle.stages.specs.Stages.{later_stages, stages, refusal_of}
use Rattle.stages.proofs.Stages.{later_answers}
use Rattle.stages.proofs.Over.{within}
use Rattle.operations.specs.Judge.{short_for}
use Rattle.operations.specs.Read.{value_bytes, value_table, read_refusal, read_bytes, read_table}
use Rattle.operations.specs.ValueList.{Item, list_of, list_bytes, list_table, listed_in, segments_listed, trim_list}
use Rattle.operations.specs.Write.{bad_list, unusable_bytes, needs_release, written_text, write_stages, write_refusal, write_output}
use Rattle.operations.proofs.Answered.{read_given}
use Rattle.operations.proofs.Cases.{write_given}
use Rattle.spelling_laws.specs.Bodies.{Shaped, Spellable}
use Rattle.trimming_laws.specs.Kinds.{Kinds}
use Rattle.trimming_laws.proofs.Nesting.{shaped_listed, kinds_list_of}
use Rattle.trimming_laws.proofs.Trimmed.{trim_list_again, trim_list_shaped}
use Rattle.trimming_laws.proofs.Starts.{unbroken_listed, trim_unbroken}
use Rattle.trimming_laws.proofs.Tables.{listed_table, segments_table, list_of_sound}
use Rattle.normal_form_laws.specs.Forms.{form_characters}
use Rattle.normal_form_laws.proofs.Trimmed.{contents_trimmed, trim_spellable}
use Rattle.normal_form_laws.proofs.Openings.{advice_characters, advice_good, interchange_contents}
use Rattle.normal_form_laws.proofs.Accepted.{accepted_exactly}
use Rattle.normal_form_laws.proofs.Normal.{contents_shaped, contents_unbroken}
use Rattle.round_trip_laws.specs.Trips.{list_given}
use Rattle.round_trip_laws.proofs.Values.{kinds_sound, starts_sound, release_exactly, values_bound}
use Rattle.refusals.specs.Limits.{most_bytes}

-- ---- stages that refuse nothing

-- where nothing is refused, nothing is met in the first stage and the others refuse nothing
pub first_none : (stage : Stage) (rest : List Stage) → answering (stage ∷ rest) ≡ none → (stage ≡ []) × (answering rest ≡ none)
unfolding answering
first_none stage rest h =
    let parts = or_else_neither (lowest stage) (answering rest) h in
    ((lowest_none stage).0 parts.0, parts.1)

-- and the other way round
pub none_first : (stage : Stage) (rest : List Stage) → stage ≡ [] → answering rest ≡ none → answering (stage ∷ rest) ≡ none
unfolding answering or_else
none_first stage rest e h = ap₂ or_else ((lowest_none stage).1 e) h

-- 14 is not met exactly where the buffer has room for what is stored
pub room : (new buffer : List ℕ) → (short_for new buffer ≡ []) ↔ (length new ≤ length buffer)
unfolding short_for
room new buffer =
    let short : Bool = ltb (length buffer) (length new) in
    let none = met_none BufferShort (place_if short (length new)) in
    let test = place_none short (length new) in (
      λ h. ltb-false (length buffer) (length new) (test.0 (none.0 h)),
      λ h. none.1 (test.1 (le-ltb (length buffer) (length new) h)),
    )

-- 2 is not met exactly by six usable bytes
pub six_usable : (service : List ℕ) → (unusable_bytes service ≡ []) ↔ ((length service ≡ 6) × (usable (six_bytes service) ≡ true))
unfolding unusable_bytes
six_usable service =
    let six : Bool = eqb (length service) 6 in
    let good : Bool = usable (six_bytes service) in
    let test = place_none_not (six && good) 0 in (
      λ h. (eqb-true (length service) 6 (and_left six good (test.0 h)), and_right six good (test.0 h)),
      λ h. test.1 (and_both six good (eq-eqb (length service) 6 h.0) h.1),
    )

-- 1 is not met exactly by 32,000 bytes or fewer
pub short_enough : (s : List ℕ) → (too_long s ≡ []) ↔ (length s ≤ most_bytes)
unfolding too_long
short_enough s = within s 0

-- ---- Write

module _ (service bytes table output : List ℕ) where
  abbrev t : List ℕ
  t = written_text service bytes table

  -- none of 15, 2, 16, 1, 14 and of the later stages is met
  pub record Passed : Type 0 where
    pub list : bad_list bytes table ≡ []
    pub characters : unusable_bytes service ≡ []
    pub releases : needs_release service bytes table ≡ []
    pub short : too_long t ≡ []
    pub fits : length t ≤ length output
    pub later : answering (later_stages t) ≡ none

  pub write_passed : (write_refusal service bytes table output ≡ none) ↔ Passed
  unfolding write_refusal write_stages
  write_passed = (there, back)
    where
      listed : Stage
      listed = met BadList (bad_list bytes table)

      usably : Stage
      usably = met UnusableAdvice (unusable_bytes service)

      released : Stage
      released = met NeedsRelease (needs_release service bytes table)

      shortly : Stage
      shortly = met TooLong (too_long t)

      fitting : Stage
      fitting = short_for t output

      there : write_refusal service bytes table output ≡ none → Passed
      there h =
          let a = first_none listed (usably ∷ released ∷ shortly ∷ fitting ∷ later_stages t) h in
          let b = first_none usably (released ∷ shortly ∷ fitting ∷ later_stages t) a.1 in
          let d = first_none released (shortly ∷ fitting ∷ later_stages t) b.1 in
          let e = first_none shortly (fitting ∷ later_stages t) d.1 in
          let f = first_none fitting (later_stages t) e.1 in
          record {
            list = (met_none BadList (bad_list bytes table)).0 a.0;
            characters = (met_none UnusableAdvice (unusable_bytes service)).0 b.0;
            releases = (met_none NeedsRelease (needs_release service bytes table)).0 d.0;
            short = (met_none TooLong (too_long t)).0 e.0;
            fits = (room t output).0 f.0;
            later = f.1;
          }

      back : Passed → write_refusal service bytes table output ≡ none
      back p =
          none_first listed (usably ∷ released ∷ shortly ∷ fitting ∷ later_stages t)
          ((met_none BadList (bad_list bytes table)).1 p.list)
          (none_first usably (released ∷ shortly ∷ fitting ∷ later_stages t)
          ((met_none UnusableAdvice (unusable_bytes service)).1 p.characters)
          (none_first released (shortly ∷ fitting ∷ later_stages t)
          ((met_none NeedsRelease (needs_release service bytes table)).1 p.releases)
          (none_first shortly (fitting ∷ later_stages t)
          ((met_none TooLong (too_long t)).1 p.short)
          (none_first fitting (later_stages t) ((room t output).1 p.fits) p.later))))

  -- its advice is good where 2 is not met
  pub text_advice : unusable_bytes service ≡ [] → unusable_advice t ≡ []
  unfolding unusable_advice written_text interchange list_given
  text_advice h =
      (place_none (bad_advice t) 0).1
      (advice_good (six_bytes service) (spell (six_bytes service) (list_given bytes table)) ((six_usable service).0 h).1)

  module _ (p : Passed) where
    -- the text is accepted
    pub text_accepted : refusal_of t ≡ none
    text_accepted = sym (later_answers t p.short (text_advice p.characters)) ∙ p.later

    -- its contents are the trimmed list
    pub text_contents : contents t ≡ list_given bytes table
    unfolding written_text list_given
    text_contents =
        let items : List Item = listed_in bytes table in
        let kinds : Kinds items = kinds_sound bytes table p.list in
        let list : SegmentList = segments_listed items in
        interchange_contents (six_bytes service) (trim_list list) ((six_usable service).0 p.characters).1
        (trim_list_shaped list (shaped_listed items kinds))
        (trim_spellable (six_bytes service) list ((release_exactly service bytes table kinds).0 p.releases))
        (trim_unbroken list (unbroken_listed items kinds (starts_sound bytes table p.list)))
        ∙ trim_list_again list

  -- its service characters are the six bytes
  pub text_characters : characters_of t ≡ six_bytes service
  unfolding written_text interchange
  text_characters = advice_characters (six_bytes service) (spell (six_bytes service) (trim_list (segments_listed (listed_in bytes table))))

  -- the text stands in the front of the output buffer
  pub text_stored : write_refusal service bytes table output ≡ none → take (length t) (write_output service bytes table output) ≡ t
  text_stored h = ap (take (length t)) (write_given service bytes table output h).1 ∙ take-append_seam t (drop (length t) output)

-- ---- the value list of an accepted input

module _ (s : List ℕ) (accepted : refusal_of s ≡ none) where
  -- it stands for the contents
  pub list_read_lem : list_given (value_bytes s) (value_table s) ≡ contents s
  unfolding list_given value_bytes value_table
  list_read_lem = ap trim_list (segments_table (contents s) (contents_shaped s accepted)) ∙ contents_trimmed s

  -- it has at most 32,000 values, since the normal form has a separator for each
  values_few : length (list_of (contents s)) ≤ most_bytes
  unfolding normal_too_long normal_form interchange
  values_few =
      let c : Characters = form_characters s in
      let list : SegmentList = contents s in
      omega (
        arith,
        (within (normal_form s) (length (normal_form s))).0 ((accepted_exactly s).0 accepted).normal,
        length-append (advice_of c) (spell c list),
        values_bound c list (contents_shaped s accepted),
      )

  -- 15 does not refuse it
  pub list_sound : bad_list (value_bytes s) (value_table s) ≡ []
  unfolding value_bytes value_table
  list_sound = list_of_sound (contents s) (contents_shaped s accepted) (contents_unbroken s accepted) values_few

  -- 16 is not met exactly where its contents can be spelled
  pub list_spellable : (service : List ℕ)
      → (needs_release service (value_bytes s) (value_table s) ≡ []) ↔ Spellable (six_bytes service) (contents s)
  unfolding value_bytes value_table
  list_spellable service =
      let items : List Item = list_of (contents s) in
      let shaped : Shaped (contents s) = contents_shaped s accepted in
      subst
      (λ (list : SegmentList).
      (needs_release service (list_bytes items) (list_table items) ≡ []) ↔ Spellable (six_bytes service) list)
      (segments_table (contents s) shaped)
      (release_exactly service (list_bytes items) (list_table items) (rw (listed_table items) (kinds_list_of (contents s) shaped)))

  -- Write's text for it is its contents, spelled with the six bytes
  pub list_text : (service : List ℕ) → written_text service (value_bytes s) (value_table s) ≡ interchange (six_bytes service) (contents s)
  unfolding written_text list_given
  list_text service = ap (interchange (six_bytes service)) list_read_lem

-- ---- Read

module _ (buffer numbers s : List ℕ) where
  -- a Read that is not refused had an accepted input
  pub read_accepted : read_refusal buffer numbers s ≡ none → refusal_of s ≡ none
  unfolding read_refusal refusal_of
  read_accepted h =
      let last : List Stage = short_for (value_bytes s) buffer ∷ short_for (value_table s) numbers ∷ [] in
      (or_else_neither (answering (stages s)) (answering last) (sym (answering_append (stages s) last) ∙ h)).0

  -- and room for both parts of the value list
  pub read_fits : read_refusal buffer numbers s ≡ none → (length (value_bytes s) ≤ length buffer) × (length (value_table s) ≤ length numbers)
  unfolding read_refusal
  read_fits h =
      let last : List Stage = short_for (value_bytes s) buffer ∷ short_for (value_table s) numbers ∷ [] in
      let rest = (or_else_neither (answering (stages s)) (answering last) (sym (answering_append (stages s) last) ∙ h)).1 in
      let b = first_none (short_for (value_bytes s) buffer) (short_for (value_table s) numbers ∷ []) rest in
      let n = first_none (short_for (value_table s) numbers) [] b.1 in
      ((room (value_bytes s) buffer).0 b.0, (room (value_table s) numbers).0 n.0)

  -- the value list stands in the fronts of the buffers
  pub bytes_stand : read_refusal buffer numbers s ≡ none → take (length (value_bytes s)) (read_bytes buffer numbers s) ≡ value_bytes s
  bytes_stand h =
      ap (take (length (value_bytes s))) (read_given buffer numbers s h).1 ∙ take-append_seam (value_bytes s) (drop (length (value_bytes s)) buffer)

  pub table_stands : read_refusal buffer numbers s ≡ none → take (length (value_table s)) (read_table buffer numbers s) ≡ value_table s
  table_stands h =
      ap (take (length (value_table s))) (read_given buffer numbers s h).2 ∙ take-append_seam (value_table s) (drop (length (value_table s)) numbers)
