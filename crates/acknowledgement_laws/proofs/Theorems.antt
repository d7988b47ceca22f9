-- The theorems of this crate. What holds of a text that Write wrote holds of an acknowledgement, which is such a text; what is left is
-- the list put together: it has the shape of a list of segments, its tags are known, and the received elements are trimmed already.
-- Assumes nothing.
use Rattle.std.specs.Prelude.{if◌then◌else◌}
use Prim.Native.Nat.{ℕ, ◌≤◌}
use Prim.Native.String.{String}
use mathlib.Core.Path.{◌≡◌, refl, sym, ap, subst, fun_ext, ◌∙◌}
use mathlib.Core.Bool.{Bool, true, false, ◌&&◌, ◌||◌}
use mathlib.Core.List.{List, [], ◌∷◌, map, map-map, reverse}
use mathlib.Core.Logic.{◌↔◌}
use mathlib.Core.Option.{Option, none, some, some-ne-none, some-injective}
use native.Mathlib.Omega.{arith}
use lib.ListN.{length, take, drop, replicate}
use lib.Seq.{take-append_seam}
use Rattle.lists.specs.Lists.{text, same, is_empty, all, those, at, trim_end, drop_end, unless_idle, maybe}
use Rattle.lists.proofs.Texts.{or_none_left, or_none_right, and_both}
use Rattle.lists.proofs.Cases.{trimmed_end}
use Rattle.lists.proofs.Tests.{fails}
use Rattle.nesting.specs.Nesting.{shaped}
use Rattle.nesting_laws.proofs.Positions.{at_trimmed}
use Rattle.characters.specs.declared.Characters.{Characters}
use Rattle.characters.specs.Characters.{spelled_out, six_bytes, characters_of}
use Rattle.refusals.specs.declared.Fault.TheVariants.{BadList, NoAcknowledgement}
use Rattle.refusals.specs.declared.Refusal.{Refusal}
use Rattle.refusals.specs.Refusals.{number, met, place_if}
use Rattle.refusals.proofs.Stages.{one_place}
use Rattle.values.specs.Tokens.{Segment}
use Rattle.values.specs.Trimming.{is_idle, trim_repeat, trim_element, trim_segment, contents_of}
use Rattle.values.specs.Spelling.{Bytes, SegmentList}
use Rattle.segments.specs.declared.Kind.{Kind}
use Rattle.segments.specs.declared.Kind.TheVariants.{Unb, Unh, Unt, Unz, User}
use Rattle.segments.specs.Kinds.{is, kind_named}
use Rattle.segments.specs.Tags.{kind_of}
use Rattle.segments.specs.Order.{segments_in, messages_in, groups_in}
use Rattle.stages.specs.Contents.{segments_of, contents, kinds_of, normal_form}
use Rattle.stages.specs.Stages.{refusal_of}
use Rattle.answers.specs.Answers.{Answer, given, refused}
use Rattle.operations.specs.Judge.{figures_of, unless_refused, stored_in}
use Rattle.operations.specs.Compare.{is_accepted}
use Rattle.operations.specs.ValueList.{list_of, list_bytes, list_table, trim_list}
use Rattle.operations.specs.Write.{written_text, write_stages, write_refusal, write, write_output}
use Rattle.spelling_laws.specs.Bodies.{shaped_segment, Shaped}
use Rattle.trimming_laws.proofs.Tables.{segments_table}
use Rattle.normal_form_laws.proofs.Tags.{foremost, first_value, tag_first}
use Rattle.round_trip_laws.specs.Trips.{list_given}
use Rattle.round_trip_laws.proofs.Numbers.{unrefused}
use Rattle.round_trip_laws.proofs.Written.{write_passed, text_accepted}
use Rattle.round_trip_laws.proofs.Theorems.{written_back}
use Rattle.acknowledgements.specs.Lent.{Lent, element_lent, is_bad_lent, any_bad_lent}
use Rattle.acknowledgements.specs.Received.{element_of, sender_of, recipient_of, reference_received, level_received, version_received, action_code, characters_to_write, cannot_be_acknowledged}
use Rattle.acknowledgements.specs.Acknowledgement.{only, word, acknowledgement, items_of, acknowledgement_text, acknowledge_stages, acknowledge_refusal, acknowledge, acknowledge_output}
use Rattle.acknowledgements.specs.Notions.{CannotBeAcknowledged, AnyBadLent}
use Rattle.acknowledgements.proofs.Words.{unreportable_says, any_lent_says, form_says, refused_zero}
use Rattle.acknowledgements.proofs.Cases.{written_given}
use Rattle.acknowledgement_laws.specs.Acknowledged.{Acknowledged, Acknowledgements}
use Rattle.acknowledgement_laws.proofs.Lent.{lent_shaped}
use Rattle.acknowledgement_laws.proofs.Received.{Reportable, reportable}
use Rattle.acknowledgement_laws.proofs.Opened.{has_reference, has_version, reference_stays, two_stay}
use Rattle.acknowledgement_laws.proofs.Numbers.{writer_number}

-- ---- the list put together

-- What holds where neither 23 nor 15 of a lent list is met.
pub record Ready (s : List ℕ) (l : Lent) : Type 0 where
  pub received : Reportable s
  pub date : is_bad_lent l.date ≡ false
  pub reference : is_bad_lent l.reference ≡ false
  pub message : is_bad_lent l.message ≡ false

pub ready : (s : List ℕ) (l : Lent) → cannot_be_acknowledged s ≡ false → any_bad_lent l ≡ false → Ready s l
unfolding any_bad_lent
ready s l h k =
    let two = or_none_left (is_bad_lent l.date || is_bad_lent l.reference) (is_bad_lent l.message) k in
    record {
      received = reportable s h;
      date = or_none_left (is_bad_lent l.date) (is_bad_lent l.reference) two;
      reference = or_none_right (is_bad_lent l.date) (is_bad_lent l.reference) two;
      message = or_none_right (is_bad_lent l.date || is_bad_lent l.reference) (is_bad_lent l.message) k;
    }

-- four pass a test, and five
module _ {A : Type 0} (t : A → Bool) where
  all_four : (a b c d : A) → t a ≡ true → t b ≡ true → t c ≡ true → t d ≡ true → all t (a ∷ b ∷ c ∷ d ∷ []) ≡ true
  unfolding all
  all_four a b c d p q r s =
      and_both (t a) (t b && (t c && (t d && true))) p (and_both (t b) (t c && (t d && true)) q (and_both (t c) (t d && true) r (and_both (t d) true s refl)))

  all_five : (a b c d e : A) → t a ≡ true → t b ≡ true → t c ≡ true → t d ≡ true → t e ≡ true → all t (a ∷ b ∷ c ∷ d ∷ e ∷ []) ≡ true
  unfolding all
  all_five a b c d e p q r s u = and_both (t a) (all t (b ∷ c ∷ d ∷ e ∷ [])) p (all_four b c d e q r s u)

module _ (s : List ℕ) (l : Lent) (r : Ready s l) where
  abbrev whole : List (List Bytes) → Bool
  whole e = shaped Bytes 2 e

  element : (position : ℕ) → position ≤ 5 → whole (element_of s position) ≡ true
  element position k = (r.received.taken position k).shape

  trimmed : (position : ℕ) → position ≤ 5 → trim_element is_empty (element_of s position) ≡ element_of s position
  trimmed position k = (r.received.taken position k).trimmed

  one : (value : Bytes) → whole (only value) ≡ true
  unfolding is_empty all
  one value = refl

  -- a segment of two elements of one value each and another one, and its last element alone
  lent_last : (tag : String) (value : Bytes) (e : List (List Bytes)) → whole e ≡ true → shaped Bytes 3 (word tag ∷ only value ∷ e ∷ []) ≡ true
  unfolding is_empty all
  lent_last tag value e h = and_both (whole e) true h refl

  header : shaped Bytes 3
      (word "UNB" ∷ ((level_received s ∷ version_received s ∷ []) ∷ []) ∷ recipient_of s ∷ sender_of s ∷ element_lent l.date ∷ element_lent l.reference ∷ [])
      ≡ true
  unfolding is_empty all
  header =
      all_four whole (recipient_of s) (sender_of s) (element_lent l.date) (element_lent l.reference)
      (element 3 (omega arith)) (element 2 (omega arith)) (lent_shaped l.date r.date) (lent_shaped l.reference r.reference)

  reported : shaped Bytes 3 (word "UCI" ∷ reference_received s ∷ sender_of s ∷ recipient_of s ∷ only (action_code s) ∷ []) ≡ true
  unfolding is_empty all
  reported =
      all_four whole (reference_received s) (sender_of s) (recipient_of s) (only (action_code s))
      (element 5 (omega arith)) (element 2 (omega arith)) (element 3 (omega arith)) refl

  -- it has the shape of a list of segments
  pub list_shaped : Shaped (acknowledgement s l)
  unfolding Shaped shaped_segment acknowledgement
  list_shaped =
      all_five (shaped Bytes 3) _ _ _ _ _ header (lent_last "UNH" (text "1") (element_lent l.message) (lent_shaped l.message r.message)) reported
      (lent_last "UNT" (text "3") (word "1") (one (text "1")))
      (lent_last "UNZ" (text "1") (element_lent l.reference) (lent_shaped l.reference r.reference))

  -- ---- trimmed

  -- the action code is not empty
  coded : is_idle (is_idle is_empty) (only (action_code s)) ≡ false
  unfolding is_idle is_empty action_code
  coded = step (is_accepted s)
    where
      step : (b : Bool) → is_empty (if b then text "7" else text "4") ≡ false
      step true = refl
      step false = refl

  -- so UCI is left as it is
  uci_trimmed : trim_segment is_empty (word "UCI" ∷ reference_received s ∷ sender_of s ∷ recipient_of s ∷ only (action_code s) ∷ [])
      ≡ word "UCI" ∷ reference_received s ∷ sender_of s ∷ recipient_of s ∷ only (action_code s) ∷ []
  unfolding trim_segment all trim_element trim_end trim_repeat drop_end
  uci_trimmed =
      rw (trimmed 5 (omega arith), trimmed 2 (omega arith), trimmed 3 (omega arith))
      (trimmed_end (is_idle (is_idle is_empty)) (word "UCI") (reference_received s ∷ sender_of s ∷ recipient_of s ∷ []) (only (action_code s)) [] coded refl)

  -- ---- where the text is accepted

  module _ (written : List ℕ) (h : refusal_of written ≡ none) (e : contents written ≡ trim_list (acknowledgement s l)) where
    abbrev syntax : List (List Bytes)
    syntax = (level_received s ∷ version_received s ∷ []) ∷ []

    abbrev shorn : List (List Bytes) → List (List Bytes)
    shorn element = trim_element is_empty element

    -- UNB's elements, each trimmed
    abbrev elements : List (List (List Bytes))
    elements =
        word "UNB" ∷ shorn syntax ∷ shorn (recipient_of s) ∷ shorn (sender_of s) ∷ shorn (element_lent l.date) ∷ shorn (element_lent l.reference) ∷ []

    unb_there : at (contents written) 0 ≡ some (trim_end (is_idle (is_idle is_empty)) elements)
    unfolding trim_list acknowledgement trim_segment trim_element trim_repeat trim_end drop_end at
    unb_there = ap (λ (list : SegmentList). at list 0) e

    -- the new reference is not one empty value
    reference_kept : is_idle (is_idle is_empty) (shorn (element_lent l.reference)) ≡ false
    unfolding at trim_end first_value foremost kind_named same
    reference_kept =
        let named = has_reference written h (trim_end (is_idle (is_idle is_empty)) elements) unb_there refl in
        reference_stays elements 5 (shorn (element_lent l.reference)) named refl

    -- nor is the version empty
    syntax_kept : shorn syntax ≡ syntax
    unfolding at
    syntax_kept =
        let v = has_version written h (trim_end (is_idle (is_idle is_empty)) elements) unb_there in
        let own = at_trimmed (is_idle (is_idle is_empty)) elements 1 (v.0 ∷ []) v.1 in
        two_stay (level_received s) (version_received s) v.0 v.2 (some-injective (shorn syntax) (v.0 ∷ []) own) v.3

    -- so UNB is left as it is, but for what was lent,
    unb_trimmed : at (contents written) 0
        ≡ some (word "UNB"
        ∷ syntax
        ∷ recipient_of s
        ∷ sender_of s
        ∷ shorn (element_lent l.date)
        ∷ shorn (element_lent l.reference)
        ∷ [])
    unfolding all
    unb_trimmed =
        let date = shorn (element_lent l.date) in
        let new = shorn (element_lent l.reference) in
        unb_there
        ∙ ap some
        (trimmed_end (is_idle (is_idle is_empty)) (word "UNB") (shorn syntax ∷ shorn (recipient_of s) ∷ shorn (sender_of s) ∷ date ∷ []) new [] reference_kept refl
        ∙ ap (λ (x : List (List Bytes)). word "UNB" ∷ x ∷ shorn (recipient_of s) ∷ shorn (sender_of s) ∷ date ∷ new ∷ []) syntax_kept
        ∙ ap (λ (x : List (List Bytes)). word "UNB" ∷ syntax ∷ x ∷ shorn (sender_of s) ∷ date ∷ new ∷ []) (trimmed 3 (omega arith))
        ∙ ap (λ (x : List (List Bytes)). word "UNB" ∷ syntax ∷ recipient_of s ∷ x ∷ date ∷ new ∷ []) (trimmed 2 (omega arith)))

    -- and UNZ too
    unz_trimmed : at (contents written) 4 ≡ some (word "UNZ" ∷ word "1" ∷ shorn (element_lent l.reference) ∷ [])
    unfolding trim_list acknowledgement trim_segment trim_element trim_repeat trim_end drop_end at all
    unz_trimmed =
        ap (λ (list : SegmentList). at list 4) e
        ∙ ap some (trimmed_end (is_idle (is_idle is_empty)) (word "UNZ") (word "1" ∷ []) (shorn (element_lent l.reference)) [] reference_kept refl)

-- ---- the kinds of segments

-- they are named by the first values of the contents
kinds_named : (s : List ℕ) → kinds_of s ≡ reverse (map (λ g. kind_named (first_value g)) (contents s))
unfolding kinds_of contents kind_of
kinds_named s =
    ap reverse
    (ap (λ (f : Segment → Kind). map f (segments_of s)) (fun_ext (λ g. ap kind_named (tag_first g)))
    ∙ sym (map-map (λ g. kind_named (first_value g)) contents_of (segments_of s)))

list_kinds : (s : List ℕ) (l : Lent) → reverse (map (λ g. kind_named (first_value g)) (trim_list (acknowledgement s l))) ≡ Unz ∷ Unt ∷ User ∷ Unh ∷ Unb ∷ []
unfolding trim_list acknowledgement trim_segment trim_element trim_repeat trim_end drop_end first_value foremost kind_named same
list_kinds s l = refl

-- UNT is left as it is
list_trailer : (s : List ℕ) (l : Lent) → at (trim_list (acknowledgement s l)) 3 ≡ some (word "UNT" ∷ word "3" ∷ word "1" ∷ [])
unfolding trim_list acknowledgement trim_segment trim_element trim_repeat trim_end drop_end unless_idle is_idle is_empty at
list_trailer s l = refl

-- six bytes, spelled out and read
six_back : (c : Characters) → six_bytes (spelled_out c) ≡ c
unfolding six_bytes spelled_out
six_back c = refl

-- ---- stage by stage

module _ (s : List ℕ) (l : Lent) (output : List ℕ) where
  abbrev service : List ℕ
  service = spelled_out (characters_to_write s)

  abbrev bytes : List ℕ
  bytes = list_bytes (items_of s l)

  abbrev table : List ℕ
  table = list_table (items_of s l)

  abbrev behind : Option Refusal
  behind = write_refusal service bytes table output

  -- 23, then 15, then the writer's
  pub stages_answer : {a b : Bool} → cannot_be_acknowledged s ≡ a → any_bad_lent l ≡ b
      → acknowledge_refusal s l output
      ≡ (if a then some (record { fault = NoAcknowledgement; place = 0 }) else (if b then some (record { fault = BadList; place = 0 }) else behind))
  unfolding acknowledge_refusal acknowledge_stages write_refusal
  stages_answer {a} {b} h k =
      one_place NoAcknowledgement 0 (met BadList (place_if (any_bad_lent l) 0) ∷ write_stages service bytes table output) h
      ∙ ap (λ (o : Option Refusal). if a then some (record { fault = NoAcknowledgement; place = 0 }) else o)
      (one_place BadList 0 (write_stages service bytes table output) k)

  -- neither of the two is met where nothing is refused
  passed : acknowledge_refusal s l output ≡ none → (cannot_be_acknowledged s ≡ false) × (any_bad_lent l ≡ false) × (behind ≡ none)
  passed h = step (cannot_be_acknowledged s) refl (any_bad_lent l) refl
    where
      step : (a : Bool) → cannot_be_acknowledged s ≡ a → (b : Bool) → any_bad_lent l ≡ b
          → (cannot_be_acknowledged s ≡ false) × (any_bad_lent l ≡ false) × (behind ≡ none)
      step true e b d = absurd (some-ne-none (record { fault = NoAcknowledgement; place = 0 }) (sym (stages_answer e d) ∙ h))
      step false e true d = absurd (some-ne-none (record { fault = BadList; place = 0 }) (sym (stages_answer e d) ∙ h))
      step false e false d = (e, d, sym (stages_answer e d) ∙ h)

  abbrev written : List ℕ
  written = acknowledgement_text s l

  acknowledged : (acknowledge s l output).number ≡ 0 → Acknowledged s l output (acknowledgement_text s l)
  unfolding acknowledge acknowledgement_text write list_given given refused maybe items_of figures_of segments_in messages_in groups_in those is at trim_list acknowledgement
  acknowledged n =
      let h : acknowledge_refusal s l output ≡ none = unrefused (length written ∷ []) (acknowledge_refusal s l output) n in
      let (reported, lent, quiet) = passed h in
      let r : Ready s l = ready s l reported lent in
      let back = written_back service bytes table output (ap (λ (o : Option Refusal). (maybe (given (length written ∷ [])) refused o).number) quiet) in
      let same : contents written ≡ trim_list (acknowledgement s l) = back.same_contents ∙ ap trim_list (segments_table (acknowledgement s l) (list_shaped s l r)) in
      let whole : refusal_of written ≡ none = text_accepted service bytes table output ((write_passed service bytes table output).0 quiet) in
      let kinds : kinds_of written ≡ Unz ∷ Unt ∷ User ∷ Unh ∷ Unb ∷ [] =
      kinds_named written ∙ ap (λ (list : SegmentList). reverse (map (λ g. kind_named (first_value g)) list)) same ∙ list_kinds s l in
      record {
        answers = (written_given s l output h).0;
        stored = ap (take (length written)) (written_given s l output h).1 ∙ take-append_seam written (drop (length written) output);
        left = (written_given s l output h).1;
        accepts = back.accepts;
        segments = ap segments_in kinds;
        messages = ap messages_in kinds;
        groups = ap groups_in kinds;
        characters = back.characters ∙ six_back (characters_to_write s) ∙ form_says s;
        same_contents = same;
        bytes_back = back.bytes_back ∙ ap (λ (list : SegmentList). list_bytes (list_of (trim_list list))) (segments_table (acknowledgement s l) (list_shaped s l r));
        table_back = back.table_back ∙ ap (λ (list : SegmentList). list_table (list_of (trim_list list))) (segments_table (acknowledgement s l) (list_shaped s l r));
        reads = back.reads;
        header = unb_trimmed s l r written whole same;
        message = ap (λ (list : SegmentList). at list 1) same;
        report = ap (λ (list : SegmentList). at list 2) same ∙ ap some (uci_trimmed s l r);
        trailer = ap (λ (list : SegmentList). at list 3) same ∙ list_trailer s l;
        end = unz_trimmed s l r written whole same;
      }

  -- ---- 23, 15 and the writer's

  -- by what answers
  acknowledge_by : {o : Option Refusal} → acknowledge_refusal s l output ≡ o → acknowledge s l output ≡ maybe (given (length written ∷ [])) refused o
  unfolding acknowledge
  acknowledge_by e = ap (maybe (given (length written ∷ [])) refused) e

  -- no other stage answers 23
  twenty_three_there : (acknowledge s l output).number ≡ 23 → cannot_be_acknowledged s ≡ true
  unfolding given refused maybe
  twenty_three_there n = step (cannot_be_acknowledged s) refl (any_bad_lent l) refl (write_refusal service bytes table output) refl
    where
      step : (a : Bool) → cannot_be_acknowledged s ≡ a → (b : Bool) → any_bad_lent l ≡ b → (o : Option Refusal) → write_refusal service bytes table output ≡ o
          → cannot_be_acknowledged s ≡ true
      step true e b d o k = e
      step false e true d o k = absurd (omega (arith, sym (ap (λ (a : Answer). a.number) (acknowledge_by (stages_answer e d))) ∙ n))
      step false e false d none k = absurd (omega (arith, sym (ap (λ (a : Answer). a.number) (acknowledge_by (stages_answer e d ∙ k))) ∙ n))
      step false e false d (some r) k =
          let told : number r.fault ≡ 23 = sym (ap (λ (a : Answer). a.number) (acknowledge_by (stages_answer e d ∙ k))) ∙ n in
          absurd (omega (arith, told, writer_number service bytes table output r k))

  twenty_three : (acknowledge s l output ≡ record { number = 23; values = 0 ∷ [] }) ↔ CannotBeAcknowledged s
  unfolding refused maybe
  twenty_three = (
    λ e. (unreportable_says s).0 (twenty_three_there (ap (λ (a : Answer). a.number) e)),
    λ h. acknowledge_by (stages_answer ((unreportable_says s).1 h) refl),
  )

  module _ (h : CannotBeAcknowledged s → ⊥) where
    unmet : cannot_be_acknowledged s ≡ false
    unmet = (fails (cannot_be_acknowledged s) (unreportable_says s)).1 h

    fifteen : AnyBadLent l → acknowledge s l output ≡ record { number = 15; values = 0 ∷ [] }
    unfolding refused maybe
    fifteen k = acknowledge_by (stages_answer unmet ((any_lent_says l).1 k))

    as_written : (AnyBadLent l → ⊥)
        → let six : List ℕ = spelled_out (characters_of (normal_form s)) in
        let values : List ℕ = list_bytes (list_of (acknowledgement s l)) in
        let records : List ℕ = list_table (list_of (acknowledgement s l)) in
        (acknowledge s l output ≡ write six values records output) × (acknowledge_output s l output ≡ write_output six values records output)
    unfolding items_of write write_output acknowledge_output acknowledgement_text acknowledge
    as_written k =
        let same : acknowledge_refusal s l output ≡ write_refusal service bytes table output =
        stages_answer unmet ((fails (any_bad_lent l) (any_lent_says l)).1 k) in
        subst
        (λ (c : Characters).
        (acknowledge s l output ≡ write (spelled_out c) bytes table output) × (acknowledge_output s l output ≡ write_output (spelled_out c) bytes table output))
        (form_says s) (
          acknowledge_by same,
          ap (λ (o : Option Refusal). unless_refused o (stored_in output (written_text service bytes table)) (replicate (length output) 0)) same,
        )

-- ---- all of them

pub acknowledgements : Acknowledgements
unfolding action_code is_accepted maybe acknowledge acknowledge_output unless_refused
acknowledgements =
    record {
      acknowledged = acknowledged;
      accepted_seven = λ s h. ap (λ (o : Option Refusal). if maybe true (λ r. false) o then text "7" else text "4") h;
      refused_four = λ s h. ap (λ (o : Option Refusal). if maybe true (λ r. false) o then text "7" else text "4") h;
      twenty_three = twenty_three;
      fifteen = fifteen;
      as_written = as_written;
      refused_zero = refused_zero;
    }
