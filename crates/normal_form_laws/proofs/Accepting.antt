-- The normal form of an accepted input is accepted: its contents are the input's, and the stages from 6 on ask of contents, the
-- tag rule's "no component separator may follow" being asked of what is left of the tag's element. Assumes nothing.
use Rattle.std.specs.Prelude.{if◌then◌else◌}
use Prim.Native.Nat.{ℕ}
use mathlib.Core.Path.{◌≡◌, refl, sym, ap, subst, ◌∙◌}
use mathlib.Core.Bool.{Bool, true, false, not, ◌&&◌, false≢true}
use mathlib.Core.List.{List, [], ◌∷◌, map, reverse, append-eq-nil_iff, cons≢nil}
use mathlib.Core.Option.{none}
use lib.ListN.{length}
use Rattle.lists.specs.Lists.{is_empty, is_single, text, same, begins, member, all, at, maybe, gather, each_led_by, joined}
use Rattle.lists.proofs.Texts.{and_left, and_right, same_eq, all_map}
use Rattle.characters.specs.declared.Characters.{Characters}
use Rattle.characters.specs.Characters.{upper, digit, between, has_release, has_repetition, service_characters, is_service, six_bytes, characters_of, body_start, bad_advice, opens}
use Rattle.refusals.specs.Refusals.{place_if}
use Rattle.refusals.proofs.Stages.{place_none, place_none_not}
use Rattle.values.specs.Tokens.{Segment, start}
use Rattle.values.specs.Trimming.{trim_segment, contents_of}
use Rattle.values.specs.Spelling.{Bytes, SegmentList, spell_byte, spell_value, spell_repeat, spell_element, spell_segment, spell}
use Rattle.levels.specs.Levels.{syntax_identifier, level_of, in_level, has_version4}
use Rattle.segments.specs.declared.Kind.{Kind}
use Rattle.segments.specs.declared.Kind.TheVariants.{Unb, Ung, Unh, Uns, Unt, Une, Unz, User}
use Rattle.segments.specs.Kinds.{is, kind_named}
use Rattle.segments.specs.Tags.{tag_of, kind_of, is_tag}
use Rattle.segments.specs.Order.{is_open, standing, allowed_at, allowed, is_complete}
use Rattle.control_elements.specs.Control.{reference_differs, count_wrong}
use Rattle.control_elements.specs.Sections.{section_rule}
use Rattle.stages.specs.Contents.{body_tokens, segments_of, contents, kinds_of, normal_characters, normal_repetition, interchange, normal_form}
use Rattle.stages.specs.Places.{is_over, starts_where, too_long, unusable_advice, no_opening, broken_tags, foreign_level, level, misplaced_segments, bad_controls, differing_references, wrong_counts, normal_too_long, misplaced, bad_control}
use Rattle.stages.specs.Stages.{refusal_of}
use Rattle.operations.specs.ValueList.{trim_list}
use Rattle.spelling_laws.specs.Bodies.{listed, read_list, Passes}
use Rattle.normal_form_laws.specs.Forms.{mark_of, form_characters, Suits, list_read}
use Rattle.normal_form_laws.proofs.Trimmed.{all_bytes, contents_read, trim_bytes}
use Rattle.normal_form_laws.proofs.Openings.{advice_characters, advice_good, interchange_body}
use Rattle.normal_form_laws.proofs.Accepted.{Accepted, accepted_exactly, passes_accepted, order_accepted}
use Rattle.normal_form_laws.proofs.Normal.{accepted_passes, contents_shaped, contents_unbroken, normal_spellable, normal_usable, normal_passes, normal_read, normal_contents, normal_characters_lem, normal_again}
use Rattle.normal_form_laws.proofs.Tags.{foremost, first_value, tag_stands, tag_trim, tag_first, tags_words, all_finished}
use Rattle.normal_form_laws.proofs.Alike.{Alike, ByContents, kinds_alike, starts_alike, order_by_contents, controls_by_contents, references_by_contents, counts_by_contents}
use Rattle.normal_form_laws.proofs.Versions.{same_named, same_level, form_suits}
use Rattle.normal_form_laws.proofs.LevelBytes.{level_bytes}

-- ---- inputs with equal contents

module _ (s t : List ℕ) (alike : Alike (segments_of s) (segments_of t)) where
  -- a test that goes by contents and refuses no segment of the one refuses none of the other
  pub same_starts : (fails : List Segment → Segment → Bool) → ByContents fails → starts_where fails [] (segments_of s) ≡ []
      → starts_where fails [] (segments_of t) ≡ []
  same_starts fails by = starts_alike fails by [] [] (segments_of s) (segments_of t) refl alike

  pub same_order : misplaced_segments s ≡ [] → misplaced_segments t ≡ []
  unfolding kinds_of
  same_order h =
      let order = (order_accepted s).0 h in
      (order_accepted t).1 (
        same_starts misplaced order_by_contents order.0,
        ap (λ (kinds : List Kind). is_complete (reverse kinds)) (sym (kinds_alike (segments_of s) (segments_of t) alike)) ∙ order.1,
      )

-- ---- the opening

-- only one tag names UNB
unb_tag : (tag : List ℕ) → is Unb (kind_named tag) ≡ true → tag ≡ text "UNB"
unfolding kind_named is
unb_tag tag h =
    same_eq tag (text "UNB")
    (step (same tag (text "UNB")) (same tag (text "UNG")) (same tag (text "UNH")) (same tag (text "UNS")) (same tag (text "UNT"))
    (same tag (text "UNE")) (same tag (text "UNZ")) h)
  where
    step : (b g h s t e z : Bool)
        → is Unb (if b then Unb else (if g then Ung else (if h then Unh else (if s then Uns else (if t then Unt
        else (if e then Une else (if z then Unz else User)))))))
        ≡ true
        → b ≡ true
    step true g h s t e z k = refl
    step false true h s t e z k = k
    step false false true s t e z k = k
    step false false false true t e z k = k
    step false false false false true e z k = k
    step false false false false false true z k = k
    step false false false false false false true k = k
    step false false false false false false false k = k

-- what names a level has an element after its tag
no_level : (c : Characters) (g : Segment) (tag : List (List Bytes)) → contents_of g ≡ tag ∷ [] → level_of c g ≡ none
unfolding level_of syntax_identifier at maybe
no_level c g tag e = rw e

-- a normal form's body begins with UNB alone and an element after it
module _ (c : Characters) (mark : ℕ) (fourth : Bool) where
  abbrev own : Characters
  own = normal_characters mark (if fourth then 42 else 32)

  spelled_opening : (rest : SegmentList) (g : Segment) (k : List (List (List Bytes))) → contents_of g ≡ k → first_value k ≡ text "UNB"
      → is_single (foremost k) ≡ true → is_single (foremost (foremost k)) ≡ true → maybe (start g ∷ []) (λ n. []) (level_of c g) ≡ []
      → begins (text "UNB+") (spell own (k ∷ rest)) ≡ true
  unfolding first_value foremost is_single is_empty maybe begins spell spell_segment spell_element spell_repeat spell_value spell_byte gather joined each_led_by is_service service_characters has_release has_repetition member normal_characters six_bytes
  spelled_opening rest g [] e v l m n = absurd (false≢true l)
  spelled_opening rest g ([] ∷ es) e v l m n = absurd (false≢true l)
  spelled_opening rest g ((r ∷ q ∷ rs) ∷ es) e v l m n = absurd (false≢true l)
  spelled_opening rest g (([] ∷ []) ∷ es) e v l m n = absurd (false≢true m)
  spelled_opening rest g (((x ∷ y ∷ ys) ∷ []) ∷ es) e v l m n = absurd (false≢true m)
  spelled_opening rest g (((x ∷ []) ∷ []) ∷ []) e v l m n =
      absurd (cons≢nil (sym (ap (maybe (start g ∷ []) (λ (m : ℕ). [])) (no_level c g ((x ∷ []) ∷ []) e)) ∙ n))
  spelled_opening rest g (((x ∷ []) ∷ []) ∷ z ∷ zs) e v l m n = rw v (step fourth)
    where
      step : (f : Bool)
          → begins (text "UNB+") (spell (normal_characters mark (if f then 42 else 32)) ((((text "UNB" ∷ []) ∷ []) ∷ z ∷ zs) ∷ rest)) ≡ true
      step true = refl
      step false = refl

  -- it does so where the first segment is allowed there, has a good tag, and names a level
  opening : (gs : List Segment) → starts_where misplaced [] gs ≡ []
      → is_complete (reverse (map kind_of gs)) ≡ true → all tag_stands (map contents_of gs) ≡ true
      → maybe [] (λ unb. maybe (start unb ∷ []) (λ n. []) (level_of c unb)) (at gs 0) ≡ []
      → begins (text "UNB+") (spell own (map contents_of gs)) ≡ true
  unfolding starts_where is_complete is_open standing allowed allowed_at all at maybe tag_stands begins is_tag is kind_named same upper digit between kind_of
  opening [] o k t n = absurd (false≢true k)
  opening (g ∷ gs) o k t n =
      let marks = section_rule [] g in
      let parts = (append-eq-nil_iff {p = place_if (not (is Unb (kind_of g) && marks)) (start g)}).0 o in
      let kind : is Unb (kind_of g) ≡ true =
      and_left (is Unb (kind_of g)) marks ((place_none_not (is Unb (kind_of g) && marks) (start g)).0 parts.0) in
      let unb : first_value (contents_of g) ≡ text "UNB" = sym (tag_first g) ∙ unb_tag (tag_of g) kind in
      let one : Bool = is_single (foremost (contents_of g)) in
      let alone : Bool = is_single (foremost (foremost (contents_of g))) in
      let stands : (one && alone) ≡ true = rw unb at (and_left (tag_stands (contents_of g)) (all tag_stands (map contents_of gs)) t) in
      spelled_opening (map contents_of gs) g (contents_of g) refl unb (and_left one alone stands) (and_right one alone stands) n

-- ---- the theorem

module _ (s : List ℕ) (accepted : refusal_of s ≡ none) where
  abbrev nowhere : Accepted s
  nowhere = (accepted_exactly s).0 accepted

  -- the segments of the two
  alike : Alike (segments_of s) (segments_of (normal_form s))
  unfolding contents
  alike = sym (normal_contents s accepted)

  -- the normal form's characters suit the contents
  suits : Suits (characters_of (normal_form s)) (contents s)
  suits = subst (λ (c : Characters). Suits c (contents s)) (sym (normal_characters_lem s accepted)) (form_suits (mark_of s) (contents s))

  -- the tags of the contents keep the rule
  contents_tags : all tag_stands (contents s) ≡ true
  unfolding broken_tags segments_of body_tokens read_list listed trim_list Passes
  contents_tags =
      rw (contents_read s)
      (all_map (trim_segment is_empty) tag_stands tag_stands tag_trim (list_read s)
      ((tags_words [] (segments_of s) (all_finished (body_tokens s) (accepted_passes s accepted))).0 nowhere.tags))

  -- every byte of the contents is in the level
  contents_level : all_bytes (in_level (level s)) (contents s) ≡ true
  contents_level = rw (contents_read s) (trim_bytes (in_level (level s)) (list_read s) ((level_bytes s).0 nowhere.bytes))

  -- each segment is allowed where it stands, and UNZ comes before the end
  order : (starts_where misplaced [] (segments_of s) ≡ []) × (is_complete (kinds_of s) ≡ true)
  order = (order_accepted s).0 nowhere.order

  normal_advice : bad_advice (normal_form s) ≡ false
  unfolding normal_form interchange
  normal_advice = advice_good (form_characters s) (spell (form_characters s) (contents s)) (normal_usable s accepted)

  normal_opens : opens (normal_form s) ≡ true
  unfolding opens normal_form interchange kinds_of foreign_level contents normal_characters normal_repetition six_bytes
  normal_opens =
      let c : Characters = form_characters s in
      let list : SegmentList = contents s in
      let shaped = contents_shaped s accepted in
      let spellable = normal_spellable s accepted in
      let unbroken = contents_unbroken s accepted in
      rw (advice_characters c (spell c list), interchange_body c list (normal_usable s accepted) shaped spellable unbroken)
      (opening (characters_of s) (mark_of s) (has_version4 list) (segments_of s) order.0 order.1 contents_tags nowhere.level)

  -- what is met nowhere in the input is met nowhere in its normal form
  normal_nowhere : Accepted (normal_form s)
  unfolding too_long unusable_advice no_opening broken_tags bad_controls differing_references wrong_counts normal_too_long segments_of read_list listed Passes body_tokens
  normal_nowhere =
      let n : List ℕ = normal_form s in
      let short : is_over n ≡ false = (place_none (is_over n) (length n)).0 nowhere.normal in
      let reading = (passes_accepted n).1 (normal_passes s accepted) in
      let finished = all_finished (body_tokens n) (normal_passes s accepted) in
      record {
        short = (place_none (is_over n) 0).1 short;
        advice = (place_none (bad_advice n) 0).1 normal_advice;
        opening = (place_none_not (opens n) (body_start n)).1 normal_opens;
        releases = reading.0;
        ending = reading.1;
        tags = (tags_words [] (segments_of n) finished).1 (rw (normal_read s accepted) contents_tags);
        level = same_named s n alike nowhere.level suits;
        bytes = (level_bytes n).1 (rw (normal_read s accepted, ← same_level s n alike nowhere.level suits) contents_level);
        order = same_order s n alike nowhere.order;
        controls = same_starts s n alike bad_control controls_by_contents nowhere.controls;
        references = same_starts s n alike reference_differs references_by_contents nowhere.references;
        counts = same_starts s n alike count_wrong counts_by_contents nowhere.counts;
        normal = (place_none (is_over (normal_form n)) (length (normal_form n))).1 (ap is_over (normal_again s accepted) ∙ short);
      }

  -- a normal form is accepted
  pub normal_accepted : refusal_of (normal_form s) ≡ none
  normal_accepted = (accepted_exactly (normal_form s)).1 normal_nowhere
