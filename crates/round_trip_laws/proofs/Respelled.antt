-- The contents of an accepted input, spelled with other usable service characters, are accepted: what is read is the list that the
-- normal form is read as, and the stages from 3 on ask only of that. Assumes nothing.
use Rattle.std.specs.Prelude.{if◌then◌else◌}
use Prim.Native.Nat.{ℕ, zero, suc, ◌-◌, ◌≤◌}
use mathlib.Core.Path.{◌≡◌, refl, sym, ap, ap₂, subst, ◌∙◌}
use mathlib.Core.Bool.{Bool, true, false, ◌&&◌, ◌||◌, false≢true, true≢false}
use mathlib.Core.List.{List, [], ◌∷◌, ◌++◌}
use mathlib.Core.Option.{none}
use mathlib.Core.Logic.{inl, inr}
use native.Mathlib.Omega.{arith}
use lib.ListN.{length}
use lib.Dec.{eqb, ltb}
use borrow.Author.Tests.{le-ltb, eqb-true, eq-eqb, ne_eqb}
use Rattle.lists.specs.Lists.{text, begins, member, all, all_differ, gather}
use Rattle.lists.proofs.Tests.{fails}
use Rattle.lists.proofs.Texts.{and_left, and_right, and_both, if_false}
use Rattle.characters.specs.declared.Characters.{Characters}
use Rattle.characters.specs.Characters.{between, upper, separates, has_release, has_repetition, service_characters, is_service, usable, six_bytes, advice_of, spelled_out, characters_of, body_start, bad_advice, opens}
use Rattle.characters.proofs.Words.{SeparatorByte, upper_says, separates_says}
use Rattle.values.specs.Tokens.{Token, byte, separator, fault}
use Rattle.values.specs.Spelling.{Bytes, SegmentList, separator_of, spell_byte, spell_value, spell_repeat, spell_element, spell_segment, spell}
use Rattle.stages.specs.Contents.{contents, normal_characters, normal_repetition, interchange, normal_form}
use Rattle.stages.specs.Places.{is_over, too_long, unusable_advice, no_opening, normal_too_long}
use Rattle.stages.specs.Stages.{refusal_of}
use Rattle.levels.specs.Levels.{has_version4}
use Rattle.spelling_laws.specs.Bodies.{Spellable}
use Rattle.spelling_laws.proofs.Tokens.{spell_token}
use Rattle.spelling_laws.proofs.Listing.{tokens_of, spelled_tokens}
use Rattle.normal_form_laws.specs.Forms.{mark_of, form_characters, Suits}
use Rattle.refusals.proofs.Stages.{place_none, place_none_not}
use Rattle.normal_form_laws.proofs.Trimmed.{contents_trimmed}
use Rattle.normal_form_laws.proofs.Openings.{advice_characters, advice_good, interchange_body, interchange_passes, interchange_read, interchange_contents}
use Rattle.normal_form_laws.proofs.Accepted.{Accepted, accepted_exactly}
use Rattle.normal_form_laws.proofs.Normal.{contents_shaped, contents_unbroken, normal_usable, normal_spellable, normal_contents, normal_read, normal_passes}
use Rattle.normal_form_laws.proofs.Accepting.{normal_accepted}
use Rattle.normal_form_laws.proofs.SameList.{same_nowhere}
use Rattle.refusals.specs.Limits.{most_bytes}

-- ---- the opening

-- a letter is none of the bytes that are no letters
apart : (x y : ℕ) → upper x ≡ true → upper y ≡ false → eqb x y ≡ false
apart x y n k = ne_eqb x y (λ e. true≢false (sym n ∙ ap upper e ∙ k))

-- what separates is no letter
separates_no_letter : (y : ℕ) → separates y ≡ true → upper y ≡ false
separates_no_letter y h = (fails (upper y) (upper_says y)).1 (never ((separates_says y).0 h))
  where
    never : SeparatorByte y → (65 ≤ y) × (y ≤ 90) → ⊥
    never (inl k) r = k.2 r
    never (inr (inl k)) r = omega (arith, k, r.0)
    never (inr (inr (inl k))) r = omega (arith, k, r.0)
    never (inr (inr (inr k))) r = omega (arith, k, r.0)

among : (x : ℕ) → upper x ≡ true → (ys : List ℕ) → all separates ys ≡ true → member x ys ≡ false
unfolding all member
among x n [] h = refl
among x n (y ∷ ys) h =
    ap₂ ◌||◌ (apart x y n (separates_no_letter y (and_left (separates y) (all separates ys) h)))
    (among x n ys (and_right (separates y) (all separates ys) h))

-- so it is no service character
no_service : (c : Characters) → usable c ≡ true → (x : ℕ) → upper x ≡ true → is_service c x ≡ false
unfolding is_service usable
no_service c u x n =
    let first : Bool = member c.mark (text ".,") in
    let separate : Bool = all separates (service_characters c) in
    among x n (service_characters c)
    (and_right first separate (and_left (first && separate) (all_differ (c.mark ∷ service_characters c)) u))

module _ (mark : ℕ) (fourth : Bool) (c : Characters) (u : usable c ≡ true) where
  abbrev normal : Characters
  normal = normal_characters mark (if fourth then 42 else 32)

  -- a body that begins otherwise than with x does not begin with x
  begins_not : (x y : ℕ) (w rest : Bytes) → eqb x y ≡ false → begins (x ∷ w) (y ∷ rest) ≡ true → ⊥
  unfolding begins
  begins_not x y w rest n h = false≢true (sym n ∙ and_left (eqb x y) (begins w rest) h)

  -- the first of a word of letters is a letter
  letter : (x : ℕ) (w : Bytes) → all upper (x ∷ w) ≡ true → upper x ≡ true
  unfolding all
  letter x w k = and_left (upper x) (all upper w) k

  -- what begins with a byte that does not release begins with a value's byte that is no service character
  first_byte : (x b : ℕ) (w rest : Bytes) → eqb x 63 ≡ false → begins (x ∷ w) (spell_byte normal b ++ rest) ≡ true
      → (is_service normal b ≡ false) × (x ≡ b) × (begins w rest ≡ true)
  unfolding begins spell_byte normal_characters six_bytes
  first_byte x b w rest n h = step (is_service normal b) refl h
    where
      step : (t : Bool) → is_service normal b ≡ t → begins (x ∷ w) ((if t then 63 ∷ b ∷ [] else b ∷ []) ++ rest) ≡ true
          → (is_service normal b ≡ false) × (x ≡ b) × (begins w rest ≡ true)
      step true e h = absurd (begins_not x 63 w (b ∷ rest) n h)
      step false e h = (e, eqb-true x b (and_left (eqb x b) (begins w rest) h), and_right (eqb x b) (begins w rest) h)

  -- the normal form's separators are no letters, and its element separator stands where c's does
  fifth_no_letter : (f : Bool) → upper (if f then 42 else 32) ≡ false
  unfolding upper between
  fifth_no_letter true = refl
  fifth_no_letter false = refl

  normal_no_letter : (depth : ℕ) → upper (separator_of normal depth) ≡ false
  unfolding normal_characters six_bytes upper between
  normal_no_letter zero = refl
  normal_no_letter (suc zero) = fifth_no_letter fourth
  normal_no_letter (suc (suc zero)) = refl
  normal_no_letter (suc (suc (suc depth))) = refl

  fifth_no_element : (f : Bool) → eqb 43 (if f then 42 else 32) ≡ false
  fifth_no_element true = refl
  fifth_no_element false = refl

  same_element : (depth : ℕ) → eqb 43 (separator_of normal depth) ≡ true → separator_of c depth ≡ c.element
  unfolding normal_characters six_bytes
  same_element zero h = absurd (false≢true h)
  same_element (suc zero) h = absurd (false≢true (sym (fifth_no_element fourth) ∙ h))
  same_element (suc (suc zero)) h = refl
  same_element (suc (suc (suc depth))) h = absurd (false≢true h)

  -- what begins a normal form's body, a word of letters and the element separator, begins every spelling of its tokens
  same_opening : (w : Bytes) → all upper w ≡ true → (ts : List Token)
      → begins (w ++ 43 ∷ []) (gather (spell_token normal) ts) ≡ true → begins (w ++ c.element ∷ []) (gather (spell_token c) ts) ≡ true
  unfolding all begins gather spell_token spell_byte normal_characters six_bytes is_service service_characters member upper between
  same_opening [] k [] h = absurd (false≢true h)
  same_opening (x ∷ w) k [] h = absurd (false≢true h)
  same_opening w k (fault place ∷ ts) h = same_opening w k ts h
  same_opening [] k (separator rank place ∷ ts) h =
      let e = same_element (3 - rank) (and_left (eqb 43 (separator_of normal (3 - rank))) true h) in
      and_both (eqb c.element (separator_of c (3 - rank))) true (eq-eqb c.element (separator_of c (3 - rank)) (sym e)) refl
  same_opening [] k (byte b from place ∷ ts) h =
      let f = first_byte 43 b [] (gather (spell_token normal) ts) refl h in absurd (true≢false (ap (is_service normal) f.1 ∙ f.0))
  same_opening (x ∷ w) k (separator rank place ∷ ts) h =
      let d : ℕ = separator_of normal (3 - rank) in
      absurd (begins_not x d (w ++ 43 ∷ []) (gather (spell_token normal) ts) (apart x d (letter x w k) (normal_no_letter (3 - rank))) h)
  same_opening (x ∷ w) k (byte b from place ∷ ts) h =
      let more : Bytes = gather (spell_token c) ts in
      let f = first_byte x b (w ++ 43 ∷ []) (gather (spell_token normal) ts) (apart x 63 (letter x w k) refl) h in
      let bare : spell_byte c b ≡ b ∷ [] =
      if_false (is_service c b) (c.release ∷ b ∷ []) (b ∷ []) (no_service c u b (ap upper (sym f.1) ∙ letter x w k)) in
      subst (λ (first : Bytes). begins (x ∷ (w ++ c.element ∷ [])) (first ++ more) ≡ true) (sym bare)
      (and_both (eqb x b) (begins (w ++ c.element ∷ []) more) (eq-eqb x b f.1)
      (same_opening w (and_right (upper x) (all upper w) k) ts f.2))

-- ---- other service characters

module _ (s : List ℕ) (accepted : refusal_of s ≡ none) (c : Characters) (u : usable c ≡ true) (r : Spellable c (contents s))
    (suits : Suits c (contents s)) where
  abbrev t : List ℕ
  t = interchange c (contents s)

  abbrev n : List ℕ
  n = normal_form s

  abbrev nowhere : Accepted n
  nowhere = (accepted_exactly n).0 (normal_accepted s accepted)

  pub respelled_contents : contents t ≡ contents s
  respelled_contents = interchange_contents c (contents s) u (contents_shaped s accepted) r (contents_unbroken s accepted) ∙ contents_trimmed s

  respelled_opens : opens t ≡ true
  unfolding opens no_opening interchange normal_form normal_characters normal_repetition six_bytes upper between all
  respelled_opens =
      let list : SegmentList = contents s in
      let form : Characters = form_characters s in
      let opened : opens n ≡ true = (place_none_not (opens n) (body_start n)).0 nowhere.opening in
      let shaped = contents_shaped s accepted in
      let unbroken = contents_unbroken s accepted in
      let body = interchange_body c list u shaped r unbroken in
      let form-body = interchange_body form list (normal_usable s accepted) shaped (normal_spellable s accepted) unbroken in
      rw (advice_characters c (spell c list), body, ← spelled_tokens c list shaped)
      (same_opening (mark_of s) (has_version4 list) c u (text "UNB") refl (tokens_of list)
      (rw (advice_characters form (spell form list), form-body, ← spelled_tokens form list shaped) at opened))

  -- its normal form is as long as that of s: the mark is one byte, and no spelling goes by it
  respelled_normal : length (normal_form t) ≡ length n
  unfolding normal_form interchange advice_of spelled_out normal_characters six_bytes spell spell_segment spell_element spell_repeat spell_value spell_byte is_service service_characters has_release has_repetition
  respelled_normal = ap (λ (list : SegmentList). length (interchange (normal_characters (mark_of s) (normal_repetition list)) list)) respelled_contents

  -- its characters suit the contents of the normal form, which are those of s
  respelled_suits : Suits (characters_of t) (contents n)
  unfolding interchange
  respelled_suits =
      subst (Suits (characters_of t)) (sym (normal_contents s accepted))
      (subst (λ (d : Characters). Suits d (contents s)) (sym (advice_characters c (spell c (contents s)))) suits)

  -- Where it is no longer than an input may be, it is accepted.
  pub respelled_accepted : length t ≤ most_bytes → refusal_of t ≡ none
  unfolding too_long unusable_advice no_opening normal_too_long is_over interchange
  respelled_accepted h =
      let list : SegmentList = contents s in
      let shaped = contents_shaped s accepted in
      let unbroken = contents_unbroken s accepted in
      let over : ℕ → Bool = ltb most_bytes in
      let short : over (length n) ≡ false = (place_none (over (length n)) 0).0 nowhere.short in
      (accepted_exactly t).1
      (same_nowhere n t nowhere (normal_passes s accepted) (interchange_passes c list u shaped r unbroken)
      (interchange_read c list u shaped r unbroken ∙ sym (normal_read s accepted))
      respelled_suits
      ((place_none (over (length t)) 0).1 (le-ltb most_bytes (length t) h))
      ((place_none (bad_advice t) 0).1 (advice_good c (spell c list) u))
      ((place_none_not (opens t) (body_start t)).1 respelled_opens)
      ((place_none (over (length (normal_form t))) (length (normal_form t))).1 (ap over respelled_normal ∙ short)))
