-- An accepted input and its normal form: how they are read, the same contents and mark, and its own normal form. Assumes nothing.
use Rattle.std.specs.Prelude.{if◌then◌else◌}
use Prim.Native.Nat.{ℕ}
use mathlib.Core.Path.{◌≡◌, refl, sym, ap, ap₂, ◌∙◌}
use mathlib.Core.Bool.{Bool, true, false, ◌&&◌, ◌||◌, true≢false, or-false}
use mathlib.Core.List.{List, ◌∷◌}
use mathlib.Core.Option.{none}
use mathlib.Core.Logic.{◌⊎◌, inl, inr}
use lib.Dec.{eqb}
use borrow.Author.Tests.{eqb-true}
use Rattle.lists.specs.Lists.{text, member, all, all_differ}
use Rattle.lists.proofs.Texts.{and_left, or_cases}
use Rattle.characters.specs.declared.Characters.{Characters}
use Rattle.characters.specs.Characters.{between, upper, lower, digit, separates, has_release, has_repetition, service_characters, usable, six_bytes, characters_of, body_start, body, opens}
use Rattle.refusals.proofs.Stages.{place_none_not}
use Rattle.values.specs.Spelling.{SegmentList, spell, leads_break}
use Rattle.stages.specs.Contents.{contents, normal_characters, normal_repetition, interchange, normal_form}
use Rattle.stages.specs.Places.{no_opening}
use Rattle.stages.specs.Stages.{refusal_of}
use Rattle.operations.specs.ValueList.{trim_list}
use Rattle.spelling_laws.specs.Bodies.{Shaped, Spellable, Unbroken}
use Rattle.spelling_laws.proofs.Laws.{read_shaped, read_spellable, read_unbroken}
use Rattle.trimming_laws.proofs.Trimmed.{trim_list_shaped}
use Rattle.trimming_laws.proofs.Starts.{trim_unbroken}
use Rattle.normal_form_laws.specs.Forms.{mark_of, form_characters, Suits, BodyPasses, list_read}
use Rattle.normal_form_laws.proofs.Trimmed.{contents_read, contents_trimmed, trim_spellable}
use Rattle.normal_form_laws.proofs.Openings.{advice_characters, opened_leads, interchange_passes, interchange_read}
use Rattle.normal_form_laws.proofs.Accepted.{Accepted, accepted_exactly, passes_accepted, usable_accepted}
use Rattle.normal_form_laws.proofs.Versions.{own_suits, form_repetition}
use Rattle.levels.specs.Levels.{has_version4}

-- ---- the normal form's characters

-- usable characters have one of the two marks
pub usable_mark : (c : Characters) → usable c ≡ true → member c.mark (text ".,") ≡ true
unfolding usable
usable_mark c u =
    let marked : Bool = member c.mark (text ".,") in
    let separate : Bool = all separates (service_characters c) in
    and_left marked separate (and_left (marked && separate) (all_differ (c.mark ∷ service_characters c)) u)

-- with either of them the normal form's characters are usable, in each version
pub marked_usable : (mark : ℕ) → member mark (text ".,") ≡ true → (list : SegmentList) → usable (normal_characters mark (normal_repetition list)) ≡ true
unfolding member usable normal_characters normal_repetition six_bytes service_characters has_release has_repetition separates between upper lower digit all all_differ
marked_usable mark h list = step (or_cases (eqb mark 46) (eqb mark 44 || false) h) (has_version4 list)
  where
    step : (eqb mark 46 ≡ true) ⊎ ((eqb mark 44 || false) ≡ true) → (v : Bool) → usable (normal_characters mark (if v then 42 else 32)) ≡ true
    step (inl e) true = rw (eqb-true mark 46 e) refl
    step (inl e) false = rw (eqb-true mark 46 e) refl
    step (inr e) true = rw (eqb-true mark 44 (rw or-false at e)) refl
    step (inr e) false = rw (eqb-true mark 44 (rw or-false at e)) refl

-- ---- an input whose body passes

module _ (s : List ℕ) (fit : usable (characters_of s) ≡ true) (passes : BodyPasses s) where
  -- its contents can be spelled with its own characters,
  pub passing_spellable : Spellable (characters_of s) (contents s)
  passing_spellable =
      rw (contents_read s) (trim_spellable (characters_of s) (list_read s) (read_spellable (characters_of s) fit (body_start s) (body s) passes))

  -- and, where these suit them, with those of its normal form: they have a release character, and a repetition separator in version 4,
  -- before which each element has one repeat
  pub form_spellable : Suits (characters_of s) (contents s) → Spellable (form_characters s) (contents s)
  unfolding has_release normal_characters six_bytes
  form_spellable suits = record {
    released = λ r. absurd (true≢false r);
    repeated = λ r. passing_spellable.repeated (older (has_repetition (characters_of s)) refl (sym (form_repetition (mark_of s) (contents s)) ∙ r));
  }
    where
      older : (p : Bool) → has_repetition (characters_of s) ≡ p → has_version4 (contents s) ≡ false → p ≡ false
      older true e v = absurd (true≢false (sym (suits e) ∙ v))
      older false e v = refl

-- ---- an accepted input

module _ (s : List ℕ) (accepted : refusal_of s ≡ none) where
  abbrev nowhere : Accepted s
  nowhere = (accepted_exactly s).0 accepted

  -- the characters of an accepted input are usable, its body passes, and its mark is one of the two
  pub accepted_usable : usable (characters_of s) ≡ true
  accepted_usable = usable_accepted s nowhere.advice

  pub accepted_passes : BodyPasses s
  accepted_passes = (passes_accepted s).0 (nowhere.releases, nowhere.ending)

  pub accepted_mark : member (mark_of s) (text ".,") ≡ true
  accepted_mark = usable_mark (characters_of s) accepted_usable

  pub contents_shaped : Shaped (contents s)
  contents_shaped =
      rw (contents_read s)
      (trim_list_shaped (list_read s) (read_shaped (characters_of s) accepted_usable (body_start s) (body s) accepted_passes))

  -- no segment of it begins with a break
  pub accepted_leads : leads_break (body s) ≡ false
  unfolding no_opening
  accepted_leads = opened_leads s ((place_none_not (opens s) (body_start s)).0 nowhere.opening)

  pub contents_unbroken : Unbroken (contents s)
  contents_unbroken =
      rw (contents_read s)
      (trim_unbroken (list_read s)
      (read_unbroken (characters_of s) accepted_usable (body_start s) (body s) accepted_passes accepted_leads))

  -- what can be spelled with its own characters
  pub contents_spellable : Spellable (characters_of s) (contents s)
  contents_spellable = passing_spellable s accepted_usable accepted_passes

  -- ---- its normal form

  pub normal_spellable : Spellable (form_characters s) (contents s)
  normal_spellable = form_spellable s accepted_usable accepted_passes (own_suits s nowhere)

  -- its characters are usable; its body passes and is read as the contents
  pub normal_usable : usable (form_characters s) ≡ true
  normal_usable = marked_usable (mark_of s) accepted_mark (contents s)

  pub normal_passes : BodyPasses (normal_form s)
  unfolding normal_form
  normal_passes =
      let list : SegmentList = contents s in
      interchange_passes (form_characters s) list normal_usable contents_shaped normal_spellable contents_unbroken

  pub normal_read : list_read (normal_form s) ≡ contents s
  unfolding normal_form
  normal_read =
      let list : SegmentList = contents s in
      interchange_read (form_characters s) list normal_usable contents_shaped normal_spellable contents_unbroken

  -- it has the same contents, under its own characters with the same mark
  pub normal_contents : contents (normal_form s) ≡ contents s
  normal_contents = contents_read (normal_form s) ∙ ap trim_list normal_read ∙ contents_trimmed s

  pub normal_characters_lem : characters_of (normal_form s) ≡ form_characters s
  unfolding normal_form interchange
  normal_characters_lem = advice_characters (form_characters s) (spell (form_characters s) (contents s))

  pub normal_mark : mark_of (normal_form s) ≡ mark_of s
  unfolding normal_characters six_bytes
  normal_mark = ap (λ (c : Characters). c.mark) normal_characters_lem

  -- the normal form is its own normal form
  pub normal_again : normal_form (normal_form s) ≡ normal_form s
  unfolding normal_form
  normal_again = ap₂ (λ (mark : ℕ) (list : SegmentList). interchange (normal_characters mark (normal_repetition list)) list) normal_mark normal_contents
