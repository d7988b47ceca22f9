-- The laws of reading and spelling under usable service characters (paper 01, "From bytes to values"). Assumes nothing.
use Prim.Native.Nat.{ℕ, ◌+◌}
use mathlib.Core.Path.{◌≡◌, refl, sym, ap, ap₂, ◌∙◌, subst}
use mathlib.Core.Bool.{Bool, true, false, not, true≢false, false≢true}
use mathlib.Core.List.{List, [], ◌∷◌, ◌++◌, map, append-nil, nil≢cons, head-eq_of_cons-eq, tail-eq_of_cons-eq}
use mathlib.Core.Logic.{◌↔◌}
use native.Mathlib.Omega.{arith}
use lib.ListN.{length}
use Rattle.lists.specs.Lists.{is_empty, is_single, all, those, at, maybe, gather, joined, each_led_by}
use Rattle.lists.proofs.Texts.{and_left, and_right, and_both}
use Rattle.nesting.specs.Nesting.{every}
use Rattle.characters.specs.declared.Characters.{Characters}
use Rattle.characters.specs.Characters.{is_service, usable, is_break}
use Rattle.values.specs.Tokens.{Token, inside, tokens_from, tokens, ends}
use Rattle.values.specs.Values.{ends_inside}
use Rattle.values.specs.Trimming.{value_at}
use Rattle.values.specs.Spelling.{Bytes, SegmentList, spell_value, spell_repeat, spell_element, spell_segment, spell, leads_break, begins_broken, spell_apart}
use Rattle.spelling_laws.specs.Bodies.{listed, read_list, Sound, Passes, shaped_segment, Shaped, Spellable, Unbroken, Breaks, Spelled}
use Rattle.spelling_laws.proofs.Tokens.{reading_after, placeless, unbroken_from, unbroken_inside, unbroken_placeless, ended_placeless, after_all, spell_tokens, sayable, Lexed, Standing, lexed_tokens, lexed_said, lexed_unbroken, lexed_apart, lexed_alone, lexed_start, passing_inside, spelled_placeless, said_placeless, said_faultless, spelled_lexed, spelled_leads, read_lexed}
use Rattle.spelling_laws.proofs.Listing.{listed_placeless, listed_append, tokens_of, listed_tokens, tokens_ended, spellable_exactly, apart_tokens, ended_tokens_lem, unbroken_tokens, inside_placeless, tokens_listed}

-- where a list can be spelled, its first segment can, and the others
spellable_first : (c : Characters) (g : List (List (List Bytes))) (list : SegmentList) → Spellable c (g ∷ list) → Spellable c (g ∷ [])
unfolding all
spellable_first c g list h =
    record {
      released = λ e. first (every (all (λ b. not (is_service c b))) 3) (h.released e);
      repeated = λ e. first (all is_single) (h.repeated e);
    }
  where
    first : (t : List (List (List Bytes)) → Bool) → all t (g ∷ list) ≡ true → all t (g ∷ []) ≡ true
    first t e = and_both (t g) true (and_left (t g) (all t list) e) refl

pub spellable_rest : (c : Characters) (g : List (List (List Bytes))) (list : SegmentList) → Spellable c (g ∷ list) → Spellable c list
unfolding all
spellable_rest c g list h =
    record {
      released = λ e. rest (every (all (λ b. not (is_service c b))) 3) (h.released e);
      repeated = λ e. rest (all is_single) (h.repeated e);
    }
  where
    rest : (t : List (List (List Bytes)) → Bool) → all t (g ∷ list) ≡ true → all t list ≡ true
    rest t e = and_right (t g) (all t list) e

-- spelled with nothing between, a list is spelled
pub apart_nothing : (c : Characters) (list : SegmentList) → spell_apart c list [] ≡ spell c list
unfolding spell_apart spell gather
apart_nothing c [] = refl
apart_nothing c (g ∷ list) = ap (λ (bs : Bytes). spell_segment c g ++ bs) (apart_nothing c list)

-- what follows the same bytes
append_cancel : (xs : Bytes) {ys zs : Bytes} → xs ++ ys ≡ xs ++ zs → ys ≡ zs
append_cancel [] e = e
append_cancel (x ∷ xs) e = append_cancel xs (tail-eq_of_cons-eq e)

-- breaks and what follows them, which does not begin with one
breaks_apart : (x y more other : Bytes) → all is_break x ≡ true → all is_break y ≡ true → leads_break more ≡ false → leads_break other ≡ false
    → x ++ more ≡ y ++ other → (x ≡ y) × (more ≡ other)
unfolding all leads_break at maybe
breaks_apart [] [] more other h k l m e = (refl, e)
breaks_apart [] (b ∷ y) more other h k l m e =
    absurd (true≢false (sym (and_left (is_break b) (all is_break y) k) ∙ sym (ap leads_break e) ∙ l))
breaks_apart (b ∷ x) [] more other h k l m e =
    absurd (true≢false (sym (and_left (is_break b) (all is_break x) h) ∙ ap leads_break e ∙ m))
breaks_apart (b ∷ x) (d ∷ y) more other h k l m e =
    let parts = breaks_apart x y more other (and_right (is_break b) (all is_break x) h) (and_right (is_break d) (all is_break y) k) l m (tail-eq_of_cons-eq e) in
    (ap₂ ◌∷◌ (head-eq_of_cons-eq e) parts.0, parts.1)

-- what ends with a byte is not nothing
ended : (xs : Bytes) (t : ℕ) (ys : Bytes) → [] ≡ (xs ++ t ∷ []) ++ ys → ⊥
ended [] t ys e = nil≢cons e
ended (x ∷ xs) t ys e = nil≢cons e

module _ (c : Characters) (u : usable c ≡ true) where
  -- ---- reading what was spelled

  module _ (place : ℕ) (list : SegmentList) (s : Shaped list) (r : Spellable c list) (n : Unbroken list) where
    tokens_said : all (sayable c) (tokens_of list) ≡ true
    tokens_said = (spellable_exactly c list s).0 r

    tokens_unbroken : unbroken_from true (tokens_of list) ≡ true
    unfolding Unbroken
    tokens_unbroken = unbroken_tokens list s ∙ n

    module _ (between : List Bytes) (o : all (all is_break) between ≡ true) where
      -- the tokens of the spelling are those of the list, with their places
      apart_lexed : Standing c u false place (spell_apart c list between) (tokens_of list)
      apart_lexed =
          rw (← apart_tokens c list between s)
          (spelled_lexed c u false place (tokens_of list) between tokens_said (unbroken_inside (tokens_of list) tokens_unbroken) o)

      pub apart_passes : Passes c place (spell_apart c list between)
      unfolding Passes Sound tokens
      apart_passes =
          let l = apart_lexed in
          rw (lexed_alone c l.lexed) (
            said_faultless c l.own (lexed_said c l.lexed),
            sym (inside_placeless l.own) ∙ ap ends_inside l.alike ∙ inside_placeless (tokens_of list) ∙ tokens_ended list s,
          )

      pub read_apart : read_list c place (spell_apart c list between) ≡ list
      unfolding read_list tokens
      read_apart =
          let l = apart_lexed in
          ap listed (lexed_alone c l.lexed)
          ∙ sym (listed_placeless l.own)
          ∙ ap listed l.alike
          ∙ listed_placeless (tokens_of list)
          ∙ listed_tokens list s

      -- it does not begin with a break
      pub apart_leads : leads_break (spell_apart c list between) ≡ false
      apart_leads = rw (← apart_tokens c list between s) (spelled_leads c u (tokens_of list) between tokens_said tokens_unbroken)

    pub spelling_passes : Passes c place (spell c list)
    unfolding all
    spelling_passes = subst (Passes c place) (apart_nothing c list) (apart_passes [] refl)

    pub read_spelling : read_list c place (spell c list) ≡ list
    unfolding all
    read_spelling = ap (read_list c place) (sym (apart_nothing c list)) ∙ read_apart [] refl

    pub spelling_leads : leads_break (spell c list) ≡ false
    unfolding all
    spelling_leads = ap leads_break (sym (apart_nothing c list)) ∙ apart_leads [] refl

  -- ---- spelling what was read

  module _ (place : ℕ) (body : Bytes) (h : Passes c place body) where
    pub read_tokens : Lexed c false place body (tokens c place body)
    unfolding Passes Sound tokens
    read_tokens = read_lexed c u place body false h.0

    -- its tokens are those of the list that it is read as, which has the shape of one
    read_listed : (tokens_of (read_list c place body) ≡ map placeless (tokens c place body)) × Shaped (read_list c place body)
    unfolding Passes Sound read_list
    read_listed = tokens_listed c (tokens c place body) (lexed_said c read_tokens) h.1

    pub read_shaped : Shaped (read_list c place body)
    read_shaped = read_listed.1

    -- with the breaks that stood between, what was read spells the body
    pub spell_read : (between : List Bytes) × Breaks (read_list c place body) between × (spell_apart c (read_list c place body) between ≡ body)
    spell_read =
        let list : SegmentList = read_list c place body in
        let a = lexed_apart c read_tokens in (
          a.between,
          record {
            each =
                a.each
                ∙ sym (ended_placeless (tokens c place body))
                ∙ ap (λ (ts : List Token). length (those (ends 0) ts)) (sym read_listed.0)
                ∙ ended_tokens_lem list read_shaped;
            only_breaks = a.only_breaks;
          },
          sym (apart_tokens c list a.between read_shaped)
              ∙ ap (λ (ts : List Token). spell_tokens c ts a.between) read_listed.0
              ∙ spelled_placeless c (tokens c place body) a.between
              ∙ sym (ap (λ (front : Bytes). front ++ spell_tokens c (tokens c place body) a.between) (a.front_none refl))
              ∙ a.spelled,
        )

    pub read_spellable : Spellable c (read_list c place body)
    read_spellable =
        (spellable_exactly c (read_list c place body) read_shaped).1
        (ap (all (sayable c)) read_listed.0
        ∙ said_placeless c (tokens c place body)
        ∙ lexed_said c read_tokens)

    -- a body that does not begin with a break has no segment that does
    pub read_unbroken : leads_break body ≡ false → Unbroken (read_list c place body)
    unfolding Unbroken
    read_unbroken e =
        sym (unbroken_tokens (read_list c place body) read_shaped)
        ∙ ap (unbroken_from true) read_listed.0
        ∙ unbroken_placeless true (tokens c place body)
        ∙ lexed_unbroken c (lexed_start c u e read_tokens)

    -- the end of one body and the beginning of the next, which does not begin with a break
    pub tokens_append : (more : Bytes) → leads_break more ≡ false
        → tokens c place (body ++ more) ≡ tokens c place body ++ tokens c (place + length body) more
    unfolding tokens
    tokens_append more e =
        lexed_tokens c read_tokens more
        ∙ ap (λ (ts : List Token). tokens c place body ++ ts) (passing_inside c u (after_all false (tokens c place body)) (place + length body) more e)

  -- ---- "The body passes refusals 4 and 5 exactly when some list of segments is spelled by it .. there is then only one such list."

  -- of bodies that do not begin with a break
  pub passes_exactly : (place : ℕ) (body : Bytes) → (Passes c place body × (leads_break body ≡ false)) ↔ Spelled c body
  passes_exactly place body = (
    λ h.
        let back = spell_read place body h.0 in
        record {
          list = read_list c place body;
          shaped = read_shaped place body h.0;
          spellable = read_spellable place body h.0;
          unbroken = read_unbroken place body h.0 h.1;
          between = back.0;
          breaks = back.1;
          spelled = back.2;
        },
    λ s. (
      subst (Passes c place) s.spelled
          (apart_passes place s.list s.shaped s.spellable s.unbroken s.between s.breaks.only_breaks),
      sym (ap leads_break s.spelled)
          ∙ apart_leads place s.list s.shaped s.spellable s.unbroken s.between s.breaks.only_breaks,
    ),
  )

  -- the list is the one that the body is read as
  pub list_read_lem : (place : ℕ) (body : Bytes) (x : Spelled c body) → read_list c place body ≡ x.list
  list_read_lem place body x =
      ap (read_list c place) (sym x.spelled)
      ∙ read_apart place x.list x.shaped x.spellable x.unbroken x.between x.breaks.only_breaks

  pub only_one : (body : Bytes) (x y : Spelled c body) → x.list ≡ y.list
  only_one body x y = sym (list_read_lem 0 body x) ∙ list_read_lem 0 body y

  -- and so are the breaks after each segment
  between_one : (list : SegmentList) → Shaped list → Spellable c list → Unbroken list → (x y : List Bytes) → Breaks list x → Breaks list y
      → spell_apart c list x ≡ spell_apart c list y → x ≡ y
  unfolding Shaped Unbroken all spell_apart
  between_one [] s r n [] [] k l e = refl
  between_one [] s r n (gap ∷ x) y k l e = absurd (omega (arith, k.each))
  between_one [] s r n [] (gap ∷ y) k l e = absurd (omega (arith, l.each))
  between_one (g ∷ list) s r n [] y k l e = absurd (omega (arith, k.each))
  between_one (g ∷ list) s r n (gap ∷ x) [] k l e = absurd (omega (arith, l.each))
  between_one (g ∷ list) s r n (gap ∷ x) (hap ∷ y) k l e =
      let s' : Shaped list = and_right (shaped_segment g) (all shaped_segment list) s in
      let r' : Spellable c list = spellable_rest c g list r in
      let n' : Unbroken list = and_right (not (begins_broken g)) (all (λ segment. not (begins_broken segment)) list) n in
      let gaps = and_left (all is_break gap) (all (all is_break) x) k.only_breaks in
      let haps = and_left (all is_break hap) (all (all is_break) y) l.only_breaks in
      let xs = and_right (all is_break gap) (all (all is_break) x) k.only_breaks in
      let ys = and_right (all is_break hap) (all (all is_break) y) l.only_breaks in
      let parts = breaks_apart gap hap (spell_apart c list x) (spell_apart c list y) gaps haps (apart_leads 0 list s' r' n' x xs) (apart_leads 0 list s' r' n' y ys)
      (append_cancel (spell_segment c g) e) in
      ap₂ ◌∷◌ parts.0
      (between_one list s' r' n' x y (record { each = omega (arith, k.each); only_breaks = xs }) (record { each = omega (arith, l.each); only_breaks = ys })
      parts.1)

  pub only_breaks_one : (body : Bytes) (x y : Spelled c body) → x.between ≡ y.between
  only_breaks_one body x y =
      let same : x.list ≡ y.list = only_one body x y in
      between_one y.list y.shaped y.spellable y.unbroken x.between y.between
      (subst (λ (list : SegmentList). Breaks list x.between) same x.breaks)
      y.breaks
      (ap (λ (list : SegmentList). spell_apart c list x.between) (sym same) ∙ x.spelled ∙ sym y.spelled)

  -- ---- two different lists are never spelled alike, be there segments that begin with a break or not

  -- a segment, whatever follows it: behind an empty element it does not begin with a break, and is then the first that is read
  first_read : (g : List (List (List Bytes))) → Shaped (g ∷ []) → Spellable c (g ∷ []) → (more : Bytes)
      → (rest : SegmentList) × (read_list c 0 (c.element ∷ (spell_segment c g ++ more)) ≡ ((([] ∷ []) ∷ []) ∷ g) ∷ rest)
  unfolding Shaped shaped_segment Unbroken all is_empty is_single spell_apart spell_segment spell_element spell_repeat spell_value gather joined each_led_by begins_broken leads_break value_at at maybe read_list tokens
  first_read [] s r more = absurd (false≢true s)
  first_read (e ∷ es) s r more =
      let list : SegmentList = ((([] ∷ []) ∷ []) ∷ e ∷ es) ∷ [] in
      let l = apart_lexed 0 list s (record { released = r.released; repeated = r.repeated }) refl [] refl in
      let own : List Token = l.own in
      let after : List Token = tokens_from c (reading_after (after_all false own)) (0 + length (spell_apart c list [])) more in
      let whole : listed own ≡ list = sym (listed_placeless own) ∙ ap listed l.alike ∙ listed_placeless (tokens_of list) ∙ listed_tokens list s in
      let ended : ends_inside own ≡ false = sym (inside_placeless own) ∙ ap ends_inside l.alike ∙ inside_placeless (tokens_of list) ∙ tokens_ended list s in (
        listed after,
        ap (λ (bs : Bytes). listed (tokens_from c inside 0 (bs ++ more))) (sym (append-nil (c.element ∷ spell_segment c (e ∷ es))))
            ∙ ap listed (lexed_tokens c l.lexed more)
            ∙ listed_append own after ended
            ∙ ap (λ (front : SegmentList). front ++ listed after) whole,
      )

  pub spelling_unique : (a b : SegmentList) → Shaped a → Spellable c a → Shaped b → Spellable c b → spell c a ≡ spell c b → a ≡ b
  unfolding Shaped all spell spell_segment gather
  spelling_unique [] [] s r s' r' e = refl
  spelling_unique [] (h ∷ b) s r s' r' e = absurd (ended (joined c.element (map (spell_element c) h)) c.terminator (spell c b) e)
  spelling_unique (g ∷ a) [] s r s' r' e = absurd (ended (joined c.element (map (spell_element c) g)) c.terminator (spell c a) (sym e))
  spelling_unique (g ∷ a) (h ∷ b) s r s' r' e =
      let first = first_read g (and_both (shaped_segment g) true (and_left (shaped_segment g) (all shaped_segment a) s) refl) (spellable_first c g a r) (spell c a) in
      let other = first_read h (and_both (shaped_segment h) true (and_left (shaped_segment h) (all shaped_segment b) s') refl) (spellable_first c h b r') (spell c b) in
      let same : g ≡ h =
      tail-eq_of_cons-eq (head-eq_of_cons-eq (sym first.1 ∙ ap (λ (bs : Bytes). read_list c 0 (c.element ∷ bs)) e ∙ other.1)) in
      ap₂ ◌∷◌ same
      (spelling_unique a b (and_right (shaped_segment g) (all shaped_segment a) s) (spellable_rest c g a r) (and_right (shaped_segment h) (all shaped_segment b) s') (spellable_rest c h b r')
      (append_cancel (spell_segment c g) (e ∙ ap (λ (k : List (List (List Bytes))). spell_segment c k ++ spell c b) (sym same))))
