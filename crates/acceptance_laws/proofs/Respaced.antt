-- An accepted input with other line breaks: it differs from the input in nothing else, whatever breaks they are, and the input is itself
-- such a spacing of its segments. Assumes nothing.
use Rattle.std.specs.Prelude.{if◌then◌else◌}
use Prim.Native.Nat.{ℕ, suc, ◌≤◌}
use mathlib.Core.Path.{◌≡◌, refl, sym, ap, ap₂, subst, ◌∙◌}
use mathlib.Core.Bool.{Bool, true, false, ◌||◌, true≢false}
use mathlib.Core.List.{List, [], ◌∷◌, ◌++◌, map, append_assoc, append-nil, nil≢cons}
use mathlib.Core.Option.{none}
use mathlib.Core.Logic.{inl, inr}
use native.Mathlib.Omega.{arith}
use lib.Dec.{eqb}
use lib.ListN.{length}
use borrow.Author.Tests.{eqb-true, eq-eqb, ne_eqb}
use Rattle.lists.specs.Lists.{text, begins, member, is_empty, all, at, maybe, joined}
use Rattle.lists.proofs.Texts.{and_left, and_right, and_both, or_none_left, or_none_right, all_append, if_true, if_false}
use Rattle.lists.proofs.Tests.{says_begins}
use Rattle.characters.specs.declared.Characters.{Characters}
use Rattle.characters.specs.Characters.{usable, six_bytes, is_break, advised, advice_of, plus_characters, star_characters, begins_version4, control_characters, characters_of, body_start, body, opens}
use Rattle.characters.proofs.Words.{SeparatorByte, usable_says}
use Rattle.refusals.proofs.Stages.{place_none_not}
use Rattle.values.specs.Spelling.{Bytes, SegmentList, spell_element, spell_segment, leads_break, spell_apart}
use Rattle.stages.specs.Places.{no_opening}
use Rattle.stages.specs.Stages.{refusal_of}
use Rattle.spelling_laws.specs.Bodies.{Shaped, Spellable, Unbroken, Breaks}
use Rattle.spelling_laws.proofs.Laws.{apart_leads, spell_read, read_shaped, read_spellable, read_unbroken}
use Rattle.normal_form_laws.specs.Forms.{list_read}
use Rattle.normal_form_laws.proofs.Openings.{advice_advised, advice_characters, apart_body}
use Rattle.normal_form_laws.proofs.Normal.{accepted_usable, accepted_passes, accepted_leads}
use Rattle.acceptance_laws.specs.Allowed.{WellOpened, advice, plus, control, Allowed}
use Rattle.acceptance_laws.specs.Breaks.{ButForBreaks, BreaksFor, respaced}
use Rattle.acceptance_laws.proofs.Opening.{opening_clear}
use Rattle.acceptance_laws.proofs.Acceptance.{allowed_exactly, list_read_lem}

-- ---- what a body begins with, whatever stands after its segments

-- a word without the byte t that is a front of what has t in it is a front of what stands before t
same_front : (w front : Bytes) (t : ℕ) (more other : Bytes) → member t w ≡ false → begins w (front ++ t ∷ more) ≡ true
    → begins w (front ++ t ∷ other) ≡ true
unfolding begins member
same_front [] front t more other n h = refl
same_front (p ∷ w) [] t more other n h =
    absurd
    (true≢false
    (sym (eq-eqb t p (sym (eqb-true p t (and_left (eqb p t) (begins w more) h)))) ∙ or_none_left (eqb t p) (member t w) n))
same_front (p ∷ w) (x ∷ front) t more other n h =
    and_both (eqb p x) (begins w (front ++ t ∷ other)) (and_left (eqb p x) (begins w (front ++ t ∷ more)) h)
    (same_front w front t more other (or_none_right (eqb t p) (member t w) n) (and_right (eqb p x) (begins w (front ++ t ∷ more)) h))

-- so a word without the terminator stands in front of a list with any breaks, where it does with some
front_kept : (c : Characters) (w : Bytes) → member c.terminator w ≡ false → (list : SegmentList) (x y : List Bytes)
    → begins w (spell_apart c list x) ≡ true → begins w (spell_apart c list y) ≡ true
unfolding spell_apart spell_segment
front_kept c w n [] x y h = h
front_kept c w n (g ∷ list) x y h =
    ap (begins w) (is_front y) ∙ same_front w front c.terminator (rest x) (rest y) n (sym (ap (begins w) (is_front x)) ∙ h)
  where
    front : Bytes
    front = joined c.element (map (spell_element c) g)

    rest : List Bytes → Bytes
    rest [] = spell_apart c list []
    rest (gap ∷ between) = gap ++ spell_apart c list between

    is_front : (between : List Bytes) → spell_apart c (g ∷ list) between ≡ front ++ c.terminator ∷ rest between
    is_front [] = append_assoc front (c.terminator ∷ []) (spell_apart c list [])
    is_front (gap ∷ between) = append_assoc front (c.terminator ∷ []) (gap ++ spell_apart c list between)

-- the opening has no terminator in it
no_terminator : (c : Characters) → usable c ≡ true → member c.terminator (text "UNB" ++ c.element ∷ []) ≡ false
unfolding member
no_terminator c u =
    let says = (usable_says c).0 u in
    rw (
      ne_eqb c.terminator 85 (letter 85 (omega arith) (omega arith) says.3),
      ne_eqb c.terminator 78 (letter 78 (omega arith) (omega arith) says.3),
      ne_eqb c.terminator 66 (letter 66 (omega arith) (omega arith) says.3),
      ne_eqb c.terminator c.element (λ e. says.8 (inl (sym e))),
    )
  where
    letter : (n : ℕ) → 65 ≤ n → n ≤ 90 → {b : ℕ} → SeparatorByte b → b ≡ n → ⊥
    letter n low high (inl h) e = h.2 (omega arith, omega arith)
    letter n low high (inr (inl h)) e = omega arith
    letter n low high (inr (inr (inl h))) e = omega arith
    letter n low high (inr (inr (inr h))) e = omega arith

-- ---- how an input opens

-- without an advice it is its body
abbrev Plain : List ℕ → Type 0
Plain s = (advised s ≡ false) × (body s ≡ s)

-- the characters of input that begins `UNB+`, by whether it names version 4
abbrev plus_ones : Bool → Characters
plus_ones fourth = if fourth then star_characters else plus_characters

plus_element : (fourth : Bool) → (plus_ones fourth).element ≡ 43
unfolding star_characters plus_characters six_bytes
plus_element true = refl
plus_element false = refl

plus_terminator : (fourth : Bool) → (plus_ones fourth).terminator ≡ 39
unfolding star_characters plus_characters six_bytes
plus_terminator true = refl
plus_terminator false = refl

plus_plain : (rest : Bytes)
    → Plain (text "UNB+" ++ rest) × (characters_of (text "UNB+" ++ rest) ≡ plus_ones (begins_version4 (text "UNB+" ++ rest)))
unfolding advised begins body body_start characters_of
plus_plain rest = ((refl, refl), refl)

-- a list with any breaks begins `UNB+UNOA:4` or `UNB+UNOB:4` where it does with some
version_kept : (c : Characters) → c.terminator ≡ 39 → (list : SegmentList) (x y : List Bytes)
    → begins_version4 (spell_apart c list x) ≡ begins_version4 (spell_apart c list y)
unfolding begins_version4 member
version_kept c t list x y = ap₂ ◌||◌ (word (text "UNB+UNOA:4") (free (text "UNB+UNOA:4") refl)) (word (text "UNB+UNOB:4") (free (text "UNB+UNOB:4") refl))
  where
    free : (w : Bytes) → member 39 w ≡ false → member c.terminator w ≡ false
    free w n = ap (λ (b : ℕ). member b w) t ∙ n

    word : (w : Bytes) → member c.terminator w ≡ false → begins w (spell_apart c list x) ≡ begins w (spell_apart c list y)
    word w n =
        both (begins w (spell_apart c list x)) (begins w (spell_apart c list y)) (front_kept c w n list x y) (front_kept c w n list y x)
      where
        both : (a b : Bool) → (a ≡ true → b ≡ true) → (b ≡ true → a ≡ true) → a ≡ b
        both true b h k = sym (h refl)
        both false true h k = k refl
        both false false h k = refl

control_plain : (rest : Bytes) → Plain (text "UNB" ++ 29 ∷ rest) × (characters_of (text "UNB" ++ 29 ∷ rest) ≡ control_characters)
unfolding advised begins begins_version4 body body_start characters_of
control_plain rest = ((refl, refl), refl)

-- ---- an accepted input, with other breaks

module _ (s : List ℕ) (a : Allowed s) where
  abbrev accepted : refusal_of s ≡ none
  accepted = (allowed_exactly s).1 a

  abbrev c : Characters
  c = characters_of s

  abbrev opening : Bytes
  opening = text "UNB" ++ c.element ∷ []

  spelled_list : Shaped (list_read s) × Spellable c (list_read s) × Unbroken (list_read s)
  spelled_list =
      let u = accepted_usable s accepted in
      let passes = accepted_passes s accepted in (
        read_shaped c u (body_start s) (body s) passes,
        read_spellable c u (body_start s) (body s) passes,
        read_unbroken c u (body_start s) (body s) passes (accepted_leads s accepted),
      )

  -- the breaks that stand in it
  own_between : (between : List Bytes) × Breaks (list_read s) between × (spell_apart c (list_read s) between ≡ body s)
  own_between = spell_read c (accepted_usable s accepted) (body_start s) (body s) (accepted_passes s accepted)

  -- with any breaks it opens as it does
  opens_still : (between : List Bytes) → (rest : Bytes) × (spell_apart c (list_read s) between ≡ opening ++ rest)
  unfolding no_opening opens
  opens_still between =
      let own = own_between in
      let opened : begins opening (body s) ≡ true = (place_none_not (opens s) (body_start s)).0 ((opening_clear s).1 a.opening).1 in
      (says_begins opening (spell_apart c (list_read s) between)).0
      (front_kept c opening (no_terminator c (accepted_usable s accepted)) (list_read s) own.0 between (ap (begins opening) own.2 ∙ opened))

  -- it is itself spaced by its own breaks
  pub spaced_so : (gap : Bytes) × (between : List Bytes) × BreaksFor s gap between × (respaced s gap between ≡ s)
  unfolding respaced all leads_break at maybe is_break member
  spaced_so = step a.opening
    where
      Own : Type 0
      Own = (gap : Bytes) × (between : List Bytes) × BreaksFor s gap between × (respaced s gap between ≡ s)

      spelled : Bytes
      spelled = spell_apart c (list_read s) own_between.0

      with_gap : (gap : Bytes) → all is_break gap ≡ true → respaced s gap own_between.0 ≡ s → Own
      with_gap gap only e = (gap, own_between.0, record { after_advice = only; after_segments = own_between.1 }, e)

      -- an input without an advice is its body
      plain : Plain s → Own
      plain (n, whole) =
          with_gap [] refl (if_false (advised s) (advice_of c ++ ([] ++ spelled)) spelled n ∙ own_between.2 ∙ whole)

      step : WellOpened s → Own
      step (advice d gap rest v only e) =
          let opened : Bytes = text "UNB" ++ d.element ∷ rest in
          let same : characters_of s ≡ d = ap characters_of e ∙ advice_characters d (gap ++ opened) in
          let follows : body s ≡ opened = ap body e ∙ apart_body d gap opened only refl in
          with_gap gap only
          (if_true (advised s) (advice_of c ++ (gap ++ spelled)) spelled (ap advised e ∙ advice_advised d (gap ++ opened))
          ∙ ap₂ (λ (six : Characters) (bs : Bytes). advice_of six ++ (gap ++ bs)) same (own_between.2 ∙ follows)
          ∙ sym e)
      step (plus rest e) = plain (subst Plain (sym e) (plus_plain rest).0)
      step (control rest e) = plain (subst Plain (sym e) (control_plain rest).0)

  -- with any breaks it differs from itself in nothing else
  pub respaced_breaks : (gap : Bytes) (between : List Bytes) → BreaksFor s gap between → ButForBreaks s (respaced s gap between)
  unfolding respaced control_characters six_bytes
  respaced_breaks gap between k = done (step a.opening)
    where
      spelled : Bytes
      spelled = spell_apart c (list_read s) between

      -- how the other one opens
      Opens : List ℕ → Type 0
      Opens t = WellOpened t × (characters_of s ≡ characters_of t) × (body t ≡ spelled)

      still : (rest : Bytes) × (spelled ≡ opening ++ rest)
      still = opens_still between

      u : usable c ≡ true
      u = accepted_usable s accepted

      without : advised s ≡ false → (text : List ℕ) → spelled ≡ text → Opens text → Opens (respaced s gap between)
      without n text shape o =
          subst Opens (sym (if_false (advised s) (advice_of c ++ (gap ++ spelled)) spelled n ∙ shape)) o

      step : WellOpened s → Opens (respaced s gap between)
      step (advice d own rest v only e) =
          let text : List ℕ = advice_of c ++ (gap ++ spelled) in
          let given = ap advised e ∙ advice_advised d (own ++ (85 ∷ 78 ∷ 66 ∷ d.element ∷ rest)) in
          subst Opens (sym (if_true (advised s) text spelled given)) (
            advice c gap still.0 u k.after_advice (ap (λ (bs : Bytes). advice_of c ++ (gap ++ bs)) still.1),
            sym (advice_characters c (gap ++ spelled)),
            apart_body c gap spelled k.after_advice
                (apart_leads c u 0 (list_read s) spelled_list.0 spelled_list.1 spelled_list.2 between k.after_segments.only_breaks),
          )
      step (plus rest e) =
          let fourth : Bool = begins_version4 (85 ∷ 78 ∷ 66 ∷ 43 ∷ rest) in
          let same : c ≡ plus_ones fourth = ap characters_of e ∙ (plus_plain rest).1 in
          let text : List ℕ = 85 ∷ 78 ∷ 66 ∷ 43 ∷ still.0 in
          let shape : spelled ≡ text =
          still.1 ∙ ap (λ (b : ℕ). 85 ∷ 78 ∷ 66 ∷ b ∷ still.0) (ap (λ (d : Characters). d.element) same ∙ plus_element fourth) in
          let whole : body s ≡ 85 ∷ 78 ∷ 66 ∷ 43 ∷ rest = ap body e ∙ (plus_plain rest).0.1 in
          let kept : fourth ≡ begins_version4 text =
          sym (ap begins_version4 (own_between.2 ∙ whole))
          ∙ version_kept c (ap (λ (d : Characters). d.terminator) same ∙ plus_terminator fourth) (list_read s) own_between.0 between
          ∙ ap begins_version4 shape in
          without (ap advised e ∙ (plus_plain rest).0.0) text shape
          (plus still.0 refl, same ∙ ap plus_ones kept ∙ sym (plus_plain still.0).1, (plus_plain still.0).0.1 ∙ sym shape)
      step (control rest e) =
          let same : c ≡ control_characters = ap characters_of e ∙ (control_plain rest).1 in
          let text : List ℕ = 85 ∷ 78 ∷ 66 ∷ 29 ∷ still.0 in
          let shape : spelled ≡ text = still.1 ∙ ap (λ (d : Characters). 85 ∷ 78 ∷ 66 ∷ d.element ∷ still.0) same in
          without (ap advised e ∙ (control_plain rest).0.0) text shape
          (control still.0 refl, same ∙ sym (control_plain still.0).1, (control_plain still.0).0.1 ∙ sym shape)

      done : Opens (respaced s gap between) → ButForBreaks s (respaced s gap between)
      done (opened, same, follows) = record {
        first = a.opening;
        second = opened;
        characters = same;
        first_spelled = a.spelled;
        second_spelled =
            record {
              list = list_read s;
              shaped = spelled_list.0;
              spellable = subst (λ (d : Characters). Spellable d (list_read s)) same spelled_list.1;
              unbroken = spelled_list.2;
              between = between;
              breaks = k.after_segments;
              spelled = ap (λ (d : Characters). spell_apart d (list_read s) between) (sym same) ∙ sym follows;
            };
        same_list = list_read_lem s a;
      }

-- ---- breaks behind the last segment

-- more of them after the last segment
unfoldable extended : List Bytes → Bytes → List Bytes
extended [] more = []
extended (gap ∷ []) more = (gap ++ more) ∷ []
extended (gap ∷ next ∷ between) more = gap ∷ extended (next ∷ between) more

extended_breaks : (list : SegmentList) (between : List Bytes) (more : Bytes) → all is_break more ≡ true → Breaks list between
    → Breaks list (extended between more)
unfolding extended all
extended_breaks list between more m k = record { each = size between ∙ k.each; only_breaks = only between k.only_breaks }
  where
    size : (between : List Bytes) → length (extended between more) ≡ length between
    size [] = refl
    size (gap ∷ []) = refl
    size (gap ∷ next ∷ between) = ap suc (size (next ∷ between))

    only : (between : List Bytes) → all (all is_break) between ≡ true → all (all is_break) (extended between more) ≡ true
    only [] h = refl
    only (gap ∷ []) h =
        and_both (all is_break (gap ++ more)) true
        (all_append is_break gap more ∙ and_both (all is_break gap) (all is_break more) (and_left (all is_break gap) true h) m)
        refl
    only (gap ∷ next ∷ between) h =
        and_both (all is_break gap) (all (all is_break) (extended (next ∷ between) more))
        (and_left (all is_break gap) (all (all is_break) (next ∷ between)) h)
        (only (next ∷ between) (and_right (all is_break gap) (all (all is_break) (next ∷ between)) h))

-- they stand behind all that is spelled
spelled_behind : (c : Characters) (list : SegmentList) (between : List Bytes) (more : Bytes) → length between ≡ length list
    → is_empty list ≡ false → spell_apart c list (extended between more) ≡ spell_apart c list between ++ more
unfolding extended spell_apart is_empty
spelled_behind c [] between more e n = absurd (true≢false n)
spelled_behind c (g ∷ list) [] more e n = absurd (omega arith)
spelled_behind c (g ∷ []) (gap ∷ []) more e n = simp (append_assoc, append-nil)
spelled_behind c (g ∷ []) (gap ∷ next ∷ between) more e n = absurd (omega arith)
spelled_behind c (g ∷ h ∷ list) (gap ∷ []) more e n = absurd (omega arith)
spelled_behind c (g ∷ h ∷ list) (gap ∷ next ∷ between) more e n =
    ap (λ (bs : Bytes). spell_segment c g ++ (gap ++ bs)) (spelled_behind c (h ∷ list) (next ∷ between) more (omega arith) refl)
    ∙ sym (append_assoc (spell_segment c g) (gap ++ spell_apart c (h ∷ list) (next ∷ between)) more
    ∙ ap (λ (bs : Bytes). spell_segment c g ++ bs) (append_assoc gap (spell_apart c (h ∷ list) (next ∷ between)) more))

-- "X and a line feed is now the same as X": so it is with every accepted input, and any breaks behind it
pub breaks_behind : (s : List ℕ) → Allowed s → (more : Bytes) → all is_break more ≡ true → ButForBreaks s (s ++ more)
unfolding respaced spell_apart is_empty
breaks_behind s a more m =
    let own = spaced_so s a in
    let c : Characters = characters_of s in
    let list : SegmentList = list_read s in
    let behind : spell_apart c list (extended own.1 more) ≡ spell_apart c list own.1 ++ more =
    spelled_behind c list own.1 more own.2.after_segments.each (some list own.1 (opens_still s a own.1)) in
    subst (ButForBreaks s)
    (step (advised s) (advice_of c) own.0 (spell_apart c list own.1) (spell_apart c list (extended own.1 more)) behind ∙ ap (λ (t : List ℕ). t ++ more) own.3)
    (respaced_breaks s a own.0 (extended own.1 more) (record {
      after_advice = own.2.after_advice;
      after_segments = extended_breaks list own.1 more m own.2.after_segments;
    }))
  where
    some : (list : SegmentList) (between : List Bytes) → (rest : Bytes) × (spell_apart (characters_of s) list between ≡ opening s a ++ rest)
        → is_empty list ≡ false
    some [] between h = absurd (nil≢cons h.1)
    some (g ∷ list) between h = refl

    step : (t : Bool) (six gap short long : Bytes) → long ≡ short ++ more
        → (if t then six ++ (gap ++ long) else long) ≡ (if t then six ++ (gap ++ short) else short) ++ more
    step true six gap short long e = ap (λ (bs : Bytes). six ++ (gap ++ bs)) e ∙ simp append_assoc
    step false six gap short long e = e
