-- A text that begins with an advice: its service characters, its body, and what a spelled list is read as. Assumes nothing.
use Rattle.std.specs.Prelude.{if◌then◌else◌}
use Prim.Native.Nat.{ℕ, suc, ◌+◌}
use mathlib.Core.Path.{◌≡◌, refl, sym, ap, ap₂, ◌∙◌}
use mathlib.Core.Bool.{Bool, true, false, not, ◌||◌}
use mathlib.Core.List.{[], ◌∷◌, ◌++◌}
use native.Mathlib.Omega.{arith}
use lib.ListN.{length, drop}
use lib.Seq.{drop-drop, drop-append_seam}
use borrow.Author.Tests.{le-ltb}
use Rattle.lists.specs.Lists.{text, begins, member, all, at, maybe}
use Rattle.lists.proofs.Tests.{says_begins}
use Rattle.lists.proofs.Texts.{and_left, and_right, if_true, if_false}
use Rattle.characters.specs.declared.Characters.{Characters}
use Rattle.characters.specs.Characters.{usable, six_bytes, spelled_out, advised, advice_of, characters_of, is_break, breaks, after_breaks, body_start, body, bad_advice, opens}
use Rattle.values.specs.Spelling.{Bytes, SegmentList, spell, leads_break}
use Rattle.stages.specs.Contents.{contents, interchange}
use Rattle.operations.specs.ValueList.{trim_list}
use Rattle.spelling_laws.specs.Bodies.{Shaped, Spellable, Unbroken}
use Rattle.spelling_laws.proofs.Laws.{read_spelling, spelling_passes, spelling_leads}
use Rattle.normal_form_laws.specs.Forms.{BodyPasses, list_read}
use Rattle.normal_form_laws.proofs.Trimmed.{contents_read}

module _ (c : Characters) (more : Bytes) where
  pub advice_advised : advised (advice_of c ++ more) ≡ true
  unfolding advised advice_of spelled_out begins
  advice_advised = refl

  pub advice_characters : characters_of (advice_of c ++ more) ≡ c
  unfolding characters_of six_bytes advised advice_of spelled_out begins
  advice_characters = refl

  -- what follows the advice is its breaks and its body
  pub advice_start : body_start (advice_of c ++ more) ≡ 9 + breaks more
  unfolding body_start after_breaks advised advice_of spelled_out begins
  advice_start = refl

  pub advice_body : body (advice_of c ++ more) ≡ drop (breaks more) more
  unfolding body body_start after_breaks advised advice_of spelled_out begins
  advice_body = sym (drop-drop (breaks more) 9 (advice_of c ++ more))

  pub advice_good : usable c ≡ true → bad_advice (advice_of c ++ more) ≡ false
  unfolding bad_advice advised advice_of spelled_out begins
  advice_good u =
      ap₂ (λ (a b : Bool). a || not b)
      (le-ltb (length (advice_of c ++ more)) 9 (omega arith))
      (ap usable advice_characters ∙ u)

-- ---- breaks after the advice

-- as many as there are before what does not begin with one
pub breaks_before : (gap more : Bytes) → all is_break gap ≡ true → leads_break more ≡ false → breaks (gap ++ more) ≡ length gap
unfolding all breaks leads_break at maybe
breaks_before [] [] h n = refl
breaks_before [] (b ∷ bs) h n = if_false (is_break b) (suc (breaks bs)) 0 n
breaks_before (b ∷ gap) more h n =
    if_true (is_break b) (suc (breaks (gap ++ more))) 0 (and_left (is_break b) (all is_break gap) h)
    ∙ ap suc (breaks_before gap more (and_right (is_break b) (all is_break gap) h) n)

-- and what follows them does not begin with one
pub breaks_passed : (bs : Bytes) → leads_break (drop (breaks bs) bs) ≡ false
unfolding breaks leads_break at maybe
breaks_passed [] = refl
breaks_passed (b ∷ bs) = step (is_break b) refl (breaks_passed bs)
  where
    step : (t : Bool) → is_break b ≡ t → leads_break (drop (breaks bs) bs) ≡ false
        → leads_break (drop (if t then suc (breaks bs) else 0) (b ∷ bs)) ≡ false
    step true e h = h
    step false e h = e

module _ (c : Characters) (gap more : Bytes) (only : all is_break gap ≡ true) (n : leads_break more ≡ false) where
  pub apart_start : body_start (advice_of c ++ (gap ++ more)) ≡ 9 + length gap
  apart_start = advice_start c (gap ++ more) ∙ ap (λ (k : ℕ). 9 + k) (breaks_before gap more only n)

  pub apart_body : body (advice_of c ++ (gap ++ more)) ≡ more
  apart_body =
      advice_body c (gap ++ more)
      ∙ ap (λ (k : ℕ). drop k (gap ++ more)) (breaks_before gap more only n)
      ∙ drop-append_seam gap more

-- after an advice, and wherever an input opens, its body does not begin with a break
pub advised_leads : (s : Bytes) → advised s ≡ true → leads_break (body s) ≡ false
unfolding body body_start after_breaks
advised_leads s a =
    ap (λ (n : ℕ). leads_break (drop n s)) (if_true (advised s) (9 + breaks (drop 9 s)) 0 a)
    ∙ ap leads_break (sym (drop-drop (breaks (drop 9 s)) 9 s))
    ∙ breaks_passed (drop 9 s)

pub opened_leads : (s : Bytes) → opens s ≡ true → leads_break (body s) ≡ false
unfolding opens leads_break at maybe is_break member
opened_leads s o =
    let b = (says_begins (text "UNB" ++ (characters_of s).element ∷ []) (body s)).0 o in
    ap leads_break b.1

-- ---- a list that can be spelled, after its advice

module _ (c : Characters) (list : SegmentList) (u : usable c ≡ true) (shaped : Shaped list) (spellable : Spellable c list)
    (unbroken : Unbroken list) where
  -- its body is the list, spelled
  pub interchange_start : body_start (interchange c list) ≡ 9
  unfolding interchange all
  interchange_start = apart_start c [] (spell c list) refl (spelling_leads c u 9 list shaped spellable unbroken)

  pub interchange_body : body (interchange c list) ≡ spell c list
  unfolding interchange all
  interchange_body = apart_body c [] (spell c list) refl (spelling_leads c u 9 list shaped spellable unbroken)

  pub interchange_characters : characters_of (interchange c list) ≡ c
  unfolding interchange
  interchange_characters = advice_characters c (spell c list)

  -- its body passes and is read as the list
  pub interchange_passes : BodyPasses (interchange c list)
  interchange_passes =
      rw (interchange_characters, interchange_start, interchange_body) (spelling_passes c u 9 list shaped spellable unbroken)

  pub interchange_read : list_read (interchange c list) ≡ list
  interchange_read =
      rw (interchange_characters, interchange_start, interchange_body) (read_spelling c u 9 list shaped spellable unbroken)

  -- its contents are the list, trimmed
  pub interchange_contents : contents (interchange c list) ≡ trim_list list
  interchange_contents = contents_read (interchange c list) ∙ ap trim_list interchange_read
