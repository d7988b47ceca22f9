-- What each stage of the code finds is what its stage of the paper answers. Assumes nothing.
use Rattle.std.specs.Prelude.{if◌then◌else◌, Ok, Err, Option as Perhaps, None, Some}
use Prim.Native.Nat.{ℕ, suc, ◌+◌, ◌<◌, ◌≤◌}
use mathlib.Core.Path.{◌≡◌, refl, sym, ap, ap₂, subst, ◌∙◌}
use mathlib.Core.Bool.{Bool, true, false}
use mathlib.Core.List.{List, [], ◌∷◌, ◌++◌, reverse}
use mathlib.Core.Option.{Option, none, some}
use native.Mathlib.Omega.{arith}
use lib.ListN.{length, drop}
use lib.Dec.{eqb, ltb, lit≤}
use borrow.Author.Tests.{lt-ltb, le-ltb, eqb-false, eq-eqb, ne_eqb}
use Rattle.lists.specs.Lists.{all, any, those, text, same, at, maybe, through}
use Rattle.lists.proofs.Pieces.{cut_first}
use Rattle.lists.proofs.Numbers.{at_map}
use Rattle.characters.specs.declared.Characters.{Characters}
use Rattle.characters.specs.Characters.{characters_of, body_start, body}
use Rattle.refusals.specs.declared.Fault.TheVariants.{TooLong, ForeignLevel, OutsideLevel, NormalTooLong}
use Rattle.refusals.specs.declared.Refusal.{Refusal}
use Rattle.refusals.specs.Refusals.{met, place_if, or_else, answering, outcome, Outcome}
use Rattle.refusals.proofs.Stages.{one_place, place_none}
use Rattle.values.specs.Tokens.{Token, Segment, ends, segments, start as start_of, tokens_at}
use Rattle.values.specs.Trimming.{contents_of}
use Rattle.levels.specs.Levels.{level_named, syntax_identifier, is_version4, is_our_version, level_in, level_of, has_version4}
use Rattle.segments.specs.declared.Walk.{Walk}
use Rattle.segments.specs.Order.{walk_over}
use Rattle.control_elements.specs.Sections.{last_section}
use Rattle.scanner.specs.Scan.{segment_at}
use Rattle.scanner.proofs.Segments.{stands, segment_start_lem}
use Rattle.stages.specs.Contents.{body_tokens, segments_of, contents, kinds_of, normal_characters, normal_repetition, normal_form}
use Rattle.stages.specs.Places.{is_over, too_long, foreign_level, level, outside_level, normal_too_long}
use Rattle.stages.specs.Stages.{places_of, brackets, brackets_in, bracketed, stages_in, stages, refusal_of}
use Rattle.stages.proofs.Stages.{unmet, run_on, run_none}
use Rattle.emission_laws.specs.Emission.{nothing, emitted}
use Rattle.verbatim.specs.Verbatim.{faultless, visible}
use Rattle.length_bound.specs.Bound.{most_contents}
use Rattle.length_bound.proofs.Bound.{contents_most}
use Rattle.stage_walks.specs.Walks.{ordered}
use Rattle.stage_walks.proofs.Walks.{ordered_answers}
use Rattle.stage_opening.specs.declared.Found.{Found}
use Rattle.stage_opening.specs.Runs.{found_by, progress, Progress}
use Rattle.stage_opening.proofs.Runs.{passed_is, asked_next}
use Rattle.stage_order.specs.Ordering.{ordered_by, ordered_as, Ordered}
use Rattle.answers.specs.Answers.{told_judged, accepted, refused, Judged}
use Rattle.operations.specs.Judge.{figures_of, judge}
use Rattle.judge.specs.Judging.{after, judged}
use Rattle.judge.proofs.Bodies.{none_outside, body_tokens_lem, short, begun, sound, form_length, measure_bound}
use Rattle.refusals.specs.Limits.{most_bytes}

-- ---- 1, before the others

module _ (s : List ℕ) where
  sized : {b : Bool} → ltb most_bytes (length s) ≡ b
      → maybe (Ok (found_by 6 s)) Err (if b then some (record { fault = TooLong; place = 0 }) else answering (stages_in s 2 6)) ≡ progress 1 6 s
  unfolding progress stages_in brackets_in brackets those all bracketed places_of too_long is_over
  sized e = sym (ap (maybe (Ok (found_by 6 s)) Err) (one_place TooLong 0 (stages_in s 2 6) e))

  pub too_long_lem : most_bytes < length s → Err (record { fault = TooLong; place = 0 }) ≡ progress 1 6 s
  unfolding maybe
  too_long_lem h = sized (lt-ltb most_bytes (length s) h)

  pub not_too_long : length s ≤ most_bytes → progress 2 6 s ≡ progress 1 6 s
  unfolding progress
  not_too_long h = sized (le-ltb most_bytes (length s) h)

-- what comes after it finds no more than 32,000 bytes
pub short_by : (s : List ℕ) (last : ℕ) → brackets_in 1 last ≡ brackets_in 1 6 ++ brackets_in 7 last → {before : Progress} {found : Found}
    → before ≡ progress 1 last s → before ≡ Ok found → length s ≤ most_bytes
short_by s last split e d = short s (run_none s 1 6 last split (passed_is s 1 last e d).0).0

-- ---- (4 5 6), 8 and (10 11 12): walks over the tokens

-- what is left after an outcome is what its answer leaves
after_outcome : (found : Found) (o : Option Refusal) → after found (outcome o) ≡ maybe (Ok found) Err o
unfolding after outcome maybe
after_outcome found none = refl
after_outcome found (some r) = refl

module _ (s : List ℕ) (first last next : ℕ) (split : brackets_in first next ≡ brackets_in first last ++ brackets_in (suc last) next)
    (walk : Found → List Token → Option Refusal) (answers : answering (stages_in s (suc last) next) ≡ walk (found_by last s) (body_tokens s))
    (same : found_by last s ≡ found_by next s) where
  pub walked : {before : Progress} {found : Found} {stage : Outcome} {r : Progress} → before ≡ progress first last s → before ≡ Ok found
      → stage ≡ outcome (walk found (tokens_at found.characters s found.start)) → r ≡ after found stage → r ≡ progress first next s
  walked {before} {found} e d w h =
      let f = (passed_is s first last e d).1 in
      h
      ∙ ap (after found) (w ∙ ap₂ (λ (g : Found) (ts : List Token). outcome (walk g ts)) f (body_tokens_lem s last f))
      ∙ after_outcome found (walk (found_by last s) (body_tokens s))
      ∙ ap (λ (g : Found). maybe (Ok g) Err (walk (found_by last s) (body_tokens s))) (f ∙ same)
      ∙ asked_next s first last e next split d answers

-- ---- 7

-- a level's number, 0 for none
abbrev number_of : Option ℕ → ℕ
number_of o = maybe 0 (λ l. l) o

-- a level has a number of its own
level_known : (c : Characters) (g : Segment) → number_of (level_of c g) ≡ 0 → level_of c g ≡ none
unfolding level_of level_in level_named maybe
level_known c g = by_identifier (syntax_identifier (contents_of g))
  where
    by_name : (a b : Bool) → number_of (if a then some 2 else (if b then some 1 else none)) ≡ 0
        → ◌≡◌ {A = Option ℕ} (if a then some 2 else (if b then some 1 else none)) none
    by_name true b e = absurd (omega arith)
    by_name false true e = absurd (omega arith)
    by_name false false e = refl

    by_version : (t : Bool) (v : Option (List ℕ)) → number_of (if t then maybe none level_named v else none) ≡ 0
        → (if t then maybe none level_named v else none) ≡ none
    by_version true none e = refl
    by_version true (some v) e = by_name (same v (text "UNOA")) (same v (text "UNOB")) e
    by_version false v e = refl

    by_identifier : (o : Option (List (List ℕ))) → number_of (maybe none (level_in c) o) ≡ 0 → maybe none (level_in c) o ≡ none
    by_identifier none e = refl
    by_identifier (some i) e = by_version (is_our_version c i) (at i 0) e

-- what is told of a level: none, or its number, which is not 0
level_told_by : {told : Perhaps ℕ} (o : Option ℕ) → told ≡ maybe None Some o
    → (told ≡ None → 0 ≡ number_of o) × ((l : ℕ) → told ≡ Some l → l ≡ number_of o)
unfolding maybe
level_told_by none e = (λ d. refl, λ l d. cc)
level_told_by (some k) e = (λ d. cc, λ l d. cc)

module _ (c : Characters) (g : Segment) {told : Perhaps ℕ} (h : told ≡ maybe None Some (level_of c g)) where
  pub level_told_none : told ≡ None → 0 ≡ number_of (level_of c g)
  level_told_none d = (level_told_by (level_of c g) h).0 d

  module _ {l : ℕ} (d : told ≡ Some l) where
    pub level_told : l ≡ number_of (level_of c g)
    level_told = (level_told_by (level_of c g) h).1 l d

    pub level_told_own : l ≡ 0 → ⊥
    unfolding maybe
    level_told_own z =
        let n : told ≡ None = h ∙ ap (maybe None Some) (level_known c g (sym level_told ∙ z)) in
        let y : ◌≡◌ {A = ℕ} 0 1 = cc in
        omega arith

module _ (s : List ℕ) (e : answering (stages_in s 1 6) ≡ none) where
  abbrev first : Segment
  first = segment_at (characters_of s) s (body_start s)

  inside : body_start s < length s
  inside = let h = begun s e in omega arith

  -- the first segment begins where the body begins
  first_segment : at (segments_of s) 0 ≡ some first
  unfolding segments_of segments segment_at at found_by
  first_segment =
      let (t, ts, d, q) = stands (characters_of s) s (body_start s) inside in
      ap (λ (l : List Token). at (segments l) 0) (sym (body_tokens_lem s 6 refl) ∙ d)
      ∙ ap (λ (l : List Segment). at l 0) (cut_first (ends 0) t ts)
      ∙ ap (λ (l : List Token). some (through (ends 0) l)) (sym d)

  -- the fifth byte of the normal form is that of the version which it names
  pub first_repetition : normal_repetition (contents_of first ∷ []) ≡ normal_repetition (contents s)
  unfolding normal_repetition has_version4 contents at maybe
  first_repetition =
      ap (λ (t : Bool). if t then 42 else 32)
      (sym
      (at_map false (λ unb. maybe false is_version4 (syntax_identifier unb)) contents_of (segments_of s) 0
      ∙ ap (maybe false (λ unb. maybe false is_version4 (syntax_identifier (contents_of unb)))) first_segment))

  -- the level is the one that it names
  level_named_lem : number_of (level_of (characters_of s) first) ≡ level s
  unfolding level maybe
  level_named_lem = sym (ap (maybe 0 (λ unb. number_of (level_of (characters_of s) unb))) first_segment)

  -- 7 is met at its start where that is none of ours
  foreign_is : foreign_level s ≡ place_if (eqb (level s) 0) (body_start s)
  unfolding foreign_level maybe place_if
  foreign_is =
      ap (maybe [] (λ unb. maybe (start_of unb ∷ []) (λ l. []) (level_of (characters_of s) unb))) first_segment
      ∙ step (level_of (characters_of s) first) (level_known (characters_of s) first)
      ∙ ap₂ (λ (l place : ℕ). place_if (eqb l 0) place) level_named_lem (segment_start_lem (characters_of s) s (body_start s) inside)
    where
      step : (o : Option ℕ) → (number_of o ≡ 0 → o ≡ none) → maybe (start_of first ∷ []) (λ l. []) o ≡ place_if (eqb (number_of o) 0) (start_of first)
      step none h = refl
      step (some k) h = sym (ap (λ (t : Bool). place_if t (start_of first)) (ne_eqb k 0 (λ z. absurd (none_some (h z)))))
        where
          none_some : ◌≡◌ {A = Option ℕ} (some k) none → ⊥
          none_some d = let z : ◌≡◌ {A = ℕ} 0 1 = cc in omega arith

  level_answers : {b : Bool} → eqb (level s) 0 ≡ b
      → answering (stages_in s 7 7) ≡ (if b then some (record { fault = ForeignLevel; place = body_start s }) else none)
  unfolding stages_in brackets_in brackets those all bracketed places_of answering
  level_answers d = ap (λ (ps : List ℕ). answering (met ForeignLevel ps ∷ [])) foreign_is ∙ one_place ForeignLevel (body_start s) [] d

module _ (s : List ℕ) {before : Progress} {found : Found} (e : before ≡ progress 1 6 s) (d : before ≡ Ok found)
    {l : ℕ} (h : l ≡ number_of (level_of found.characters (segment_at found.characters s found.start))) where
  level_is : l ≡ level s
  unfolding found_by
  level_is =
      let (passed, f) = passed_is s 1 6 e d in
      h ∙ ap (λ (g : Found). number_of (level_of g.characters (segment_at g.characters s g.start))) f ∙ level_named_lem s passed

  pub level_foreign : l ≡ 0 → Err (record { fault = ForeignLevel; place = found.start }) ≡ progress 1 7 s
  unfolding found_by brackets_in brackets those all maybe
  level_foreign z =
      let (passed, f) = passed_is s 1 6 e d in
      ap (λ (g : Found). Err (record { fault = ForeignLevel; place = g.start })) f
      ∙ asked_next s 1 6 e 7 refl d (level_answers s passed (eq-eqb (level s) 0 (sym level_is ∙ z)))

  pub level_ours : (l ≡ 0 → ⊥)
      → Ok (record { characters = found.characters; start = found.start; level = l; walk = found.walk }) ≡ progress 1 7 s
  unfolding found_by brackets_in brackets those all maybe
  level_ours z =
      let (passed, f) = passed_is s 1 6 e d in
      ap₂ (λ (g : Found) (k : ℕ). Ok (record { characters = g.characters; start = g.start; level = k; walk = g.walk })) f level_is
      ∙ asked_next s 1 6 e 7 refl d (level_answers s passed (ne_eqb (level s) 0 (λ k. z (level_is ∙ k))))

-- ---- 9, which also hands on the walk

order_failed_is : (walk : Walk) (o : Option Refusal) (r : Refusal) → ordered_by walk o ≡ Err r → o ≡ some r
order_failed_is walk none r e = cc
order_failed_is walk (some q) r e = cc

order_whole_is : (walk : Walk) (o : Option Refusal) (w : Walk) → ordered_by walk o ≡ Ok w → (o ≡ none) × (w ≡ walk)
order_whole_is walk none w e = (refl, cc)
order_whole_is walk (some q) w e = (cc, cc)

module _ (s : List ℕ) {before : Progress} {found : Found} (e : before ≡ progress 1 8 s) (d : before ≡ Ok found) {answer : Ordered}
    (h : answer ≡ ordered_as (length s) (tokens_at found.characters s found.start)) where
  -- the walk over all segments
  abbrev whole_walk : Walk
  whole_walk = walk_over (last_section (reverse (segments_of s))) (kinds_of s)

  order_is : answer ≡ ordered_by whole_walk (ordered (length s) (body_tokens s))
  unfolding ordered_as kinds_of segments_of
  order_is = h ∙ ap (ordered_as (length s)) (body_tokens_lem s 8 (passed_is s 1 8 e d).1)

  pub order_failed : {r : Refusal} → answer ≡ Err r → Err r ≡ progress 1 9 s
  unfolding brackets_in brackets those all maybe
  order_failed {r} k =
      asked_next s 1 8 e 9 refl d (ordered_answers s ∙ order_failed_is whole_walk (ordered (length s) (body_tokens s)) r (sym order_is ∙ k))

  pub order_whole : {w : Walk} → answer ≡ Ok w
      → Ok (record { characters = found.characters; start = found.start; level = found.level; walk = w }) ≡ progress 1 9 s
  unfolding found_by brackets_in brackets those all maybe
  order_whole {w} k =
      let (o, walk) = order_whole_is whole_walk (ordered (length s) (body_tokens s)) w (sym order_is ∙ k) in
      ap₂ (λ (g : Found) (v : Walk). Ok (record { characters = g.characters; start = g.start; level = g.level; walk = v })) (passed_is s 1 8 e d).1 walk
      ∙ asked_next s 1 8 e 9 refl d (ordered_answers s ∙ o)

-- ---- 7 and 8 pass

-- no byte of a value is below the space
module _ (s : List ℕ) where
  visible_body : answering (stages_in s 1 8) ≡ none → visible (body_tokens s) ≡ true
  unfolding brackets_in brackets those all any places_of outside_level
  visible_body e =
      let read = (run_none s 1 6 8 refl e).0 in
      let named = (place_none (eqb (level s) 0) (body_start s)).0 (sym (foreign_is s read) ∙ unmet s 1 8 e ForeignLevel refl) in
      none_outside s (eqb-false (level s) 0 named) (body_tokens s) (unmet s 1 8 e OutsideLevel refl)

  -- and so where all pass
  pub accepted_visible : refusal_of s ≡ none → visible (body_tokens s) ≡ true
  unfolding refusal_of stages stages_in brackets_in brackets those all
  accepted_visible a = visible_body (run_none s 1 8 13 refl a).0

-- ---- 13

module _ (s : List ℕ) (e : answering (stages_in s 1 12) ≡ none) {found : Found} (d : found ≡ found_by 12 s) where
  read : answering (stages_in s 1 6) ≡ none
  unfolding brackets_in brackets those all
  read = (run_none s 1 6 12 refl e).0

  -- it is not too long, and its body begins in it
  pub begins_in : (length s ≤ most_bytes) × (found.start ≤ length s)
  unfolding found_by
  begins_in = (short s read, omega (arith, begun s read, ap (λ (f : Found). f.start) d))

  -- the version that the header names gives the fifth byte of the normal form
  module _ {r : ℕ} (h : r ≡ normal_repetition (contents_of (segment_at found.characters s found.start) ∷ [])) where
    pub repetition_is : r ≡ normal_repetition (contents s)
    unfolding found_by
    repetition_is =
        h
        ∙ ap (λ (f : Found). normal_repetition (contents_of (segment_at f.characters s f.start) ∷ [])) d
        ∙ first_repetition s read

    repetition_visible : 32 ≤ r
    unfolding normal_repetition
    repetition_visible = subst (λ (n : ℕ). 32 ≤ n) (sym repetition_is) (either (has_version4 (contents s)))
      where
        either : (t : Bool) → 32 ≤ (if t then 42 else 32)
        either true = lit≤ tt
        either false = lit≤ tt

    -- what is found may be measured
    pub measurable : (length s ≤ most_bytes) × (faultless (tokens_at found.characters s found.start) ≡ true)
        × (visible (tokens_at found.characters s found.start) ≡ true) × (32 ≤ r)
    unfolding brackets_in brackets those all
    measurable = (
      short s read,
      ap faultless (body_tokens_lem s 12 d) ∙ sound s read,
      ap visible (body_tokens_lem s 12 d) ∙ visible_body s (run_none s 1 8 12 refl e).0,
      repetition_visible,
    )

    abbrev measure : ℕ
    measure = length (emitted (normal_characters found.characters.mark r) nothing (tokens_at found.characters s found.start))

    measure_is : measure ≡ length (emitted (normal_characters (characters_of s).mark (normal_repetition (contents s))) nothing (body_tokens s))
    unfolding found_by body_tokens body tokens_at
    measure_is =
        ap₂ (λ (f : Found) (k : ℕ). length (emitted (normal_characters f.characters.mark k) nothing (tokens_at f.characters s f.start))) d
        repetition_is

    pub measured_bound : measure ≤ 64000
    measured_bound = omega (arith, measure_is, measure_bound s read)

    -- its measure is that of the normal form
    pub measured_form : {n : ℕ} → n ≡ measure → n + 9 ≡ length (normal_form s)
    measured_form k = omega (arith, k, measure_is, form_length s read)

    -- the normal form is not longer than its bound
    pub form_most : length (normal_form s) ≤ most_contents found.characters r (drop found.start s) + 9
    form_most = omega (arith, measured_form {n = measure} refl, contents_most found.characters r s found.start)

module _ (s : List ℕ) (n : ℕ) (e : n ≡ length (normal_form s)) where
  length_answers : {b : Bool} → ltb most_bytes (length (normal_form s)) ≡ b
      → judged s (if b then some (record { fault = NormalTooLong; place = length (normal_form s) }) else none) ≡ judged s (answering (stages_in s 13 13))
  unfolding stages_in brackets_in brackets those all bracketed places_of normal_too_long is_over answering
  length_answers d = sym (ap (judged s) (one_place NormalTooLong (length (normal_form s)) [] d))

  pub length_refused : most_bytes < n → Err (record { fault = NormalTooLong; place = n }) ≡ judged s (answering (stages_in s 13 13))
  unfolding judged maybe
  length_refused h =
      ap (λ (p : ℕ). Err (record { fault = NormalTooLong; place = p })) e
      ∙ length_answers (lt-ltb most_bytes (length (normal_form s)) (omega arith))

  -- what is said of an accepted interchange, from what was found
  pub length_accepted : {f : Found} → f ≡ found_by 12 s → n ≤ most_bytes
      → Ok (record { characters = f.characters; segments = f.walk.segments; messages = f.walk.messages; groups = f.walk.groups; length = n })
      ≡ judged s (answering (stages_in s 13 13))
  unfolding judged maybe figures_of walk_over found_by
  length_accepted d h =
      ap₂ (λ (f : Found) (k : ℕ). Ok (record { characters = f.characters; segments = f.walk.segments; messages = f.walk.messages; groups = f.walk.groups; length = k })) d e
      ∙ length_answers (le-ltb most_bytes (length (normal_form s)) (omega arith))

-- ---- the whole

module _ (s : List ℕ) where
  -- the answer has the paper's number and values
  told : {r : Judged} {o : Option Refusal} → r ≡ judged s o → refusal_of s ≡ o → told_judged r ≡ judge s
  unfolding judge judged told_judged maybe
  told {r} {o} e d = ap told_judged e ∙ step o ∙ sym (ap (maybe (accepted (figures_of s)) refused) d)
    where
      step : (o : Option Refusal) → told_judged (judged s o) ≡ maybe (accepted (figures_of s)) refused o
      step none = refl
      step (some q) = refl

  whole : {o p : Option Refusal} → answering (stages_in s 1 12) ≡ o → answering (stages_in s 13 13) ≡ p → refusal_of s ≡ or_else o p
  unfolding refusal_of stages stages_in brackets_in brackets those all
  whole e d = run_on s 1 12 13 refl ∙ ap₂ or_else e d

  -- what one of 1 to 12 answers is the answer
  pub earlier_refuses : {r : Refusal} → answering (stages_in s 1 12) ≡ some r → refusal_of s ≡ some r
  unfolding or_else
  earlier_refuses e = whole e refl

  -- where none of them does and the normal form is not too long, nothing is refused
  pub short_accepted : answering (stages_in s 1 12) ≡ none → length (normal_form s) ≤ most_bytes → refusal_of s ≡ none
  unfolding stages_in brackets_in brackets those all bracketed places_of normal_too_long is_over answering or_else
  short_accepted e h = whole e (one_place NormalTooLong (length (normal_form s)) [] (le-ltb most_bytes (length (normal_form s)) h))

  -- one of 1 to 12 answers
  pub earlier_answers : {r : Refusal} → answering (stages_in s 1 12) ≡ some r → told_judged (Err r) ≡ judge s
  unfolding judged maybe or_else
  earlier_answers {r} e = told refl (earlier_refuses e)

  -- none of them does
  pub last_answers : {r : Judged} → answering (stages_in s 1 12) ≡ none → r ≡ judged s (answering (stages_in s 13 13)) → told_judged r ≡ judge s
  unfolding or_else
  last_answers e d = told d (whole e refl)
