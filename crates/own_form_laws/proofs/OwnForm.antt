-- When a text is its own normal form. Assumes nothing.
use Prim.Native.Nat.{ℕ, ◌≤◌}
use mathlib.Core.Path.{◌≡◌, refl, sym, ap, ap₂, subst, ◌∙◌}
use mathlib.Core.Bool.{true}
use mathlib.Core.List.{List, ◌++◌}
use mathlib.Core.Option.{none}
use native.Mathlib.Omega.{arith}
use lib.ListN.{length, length-append}
use Rattle.lists.proofs.Tests.{Says, says_as, says_begins}
use Rattle.characters.specs.declared.Characters.{Characters}
use Rattle.characters.specs.Characters.{spelled_out, advice_of, characters_of, breaks, body_start, body}
use Rattle.values.specs.Spelling.{SegmentList, spell, spell_apart}
use Rattle.stages.specs.Contents.{contents, interchange, normal_form}
use Rattle.stages.specs.Stages.{refusal_of}
use Rattle.operations.specs.ValueList.{trim_list}
use Rattle.spelling_laws.proofs.Laws.{spell_read}
use Rattle.normal_form_laws.specs.Forms.{form_characters, list_read}
use Rattle.normal_form_laws.proofs.Trimmed.{contents_read}
use Rattle.normal_form_laws.proofs.Openings.{advice_characters, advice_body}
use Rattle.normal_form_laws.proofs.Theorems.{normal_form_lem}
use Rattle.normal_form_laws.proofs.Normal.{accepted_usable, accepted_passes}
use Rattle.shelves.specs.Soundness.{is_normal_form}
use Rattle.shelves.proofs.Sound.{says_normal}
use Rattle.own_form_laws.specs.OwnForm.{begins_normal}
use Rattle.own_form_laws.proofs.Shortens.{spelling_shortens}
use Rattle.own_form_laws.proofs.Within.{Within, within_itself, within_within, within_behind, drop_within, spelling_within}

-- ---- an accepted input that begins with the advice of its own normal form

module _ (c : Characters) (more : List ℕ) where
  abbrev input : List ℕ
  input = advice_of c ++ more

  abbrev list : SegmentList
  list = list_read input

  module _ (own : form_characters input ≡ c) (accepted : refusal_of input ≡ none) where
    -- the list that its body is read as, spelled under the same characters, is what follows the advice but for line breaks
    body_spelled : Within (spell c list) more
    body_spelled =
        let read = spell_read (characters_of input) (accepted_usable input accepted) (body_start input) (body input) (accepted_passes input accepted) in
        within_within (spelling_within c list read.0)
        (within_within
        (within_itself
        (ap (λ (d : Characters). spell_apart d list read.0) (sym (advice_characters c more))
        ∙ read.2
        ∙ advice_body c more))
        (drop_within (breaks more) more))

    -- its normal form spells the list trimmed, after the same advice
    form_spelled : normal_form input ≡ advice_of c ++ spell c (trim_list list)
    unfolding normal_form interchange
    form_spelled = ap₂ interchange own (contents_read input)

    -- so it is at most as long as the input, and as long only where it is the input
    pub form_within : Within (normal_form input) input
    form_within =
        let shorter = spelling_shortens c list in
        within_within (within_itself form_spelled)
        (within_behind (advice_of c)
        (within_within (record { at_most = shorter.at_most; only_where = λ e. ap (spell c) (shorter.only_where e) }) body_spelled))

-- ---- how a normal form begins

begins_exactly : (s : List ℕ) → Says (begins_normal s) ((more : List ℕ) × (s ≡ advice_of (form_characters s) ++ more))
unfolding begins_normal
begins_exactly s = says_begins (advice_of (form_characters s)) s

-- The normal form of an accepted input that begins so is at most as long as the input, and as long only where it is the input.
pub own_form : (s : List ℕ) → begins_normal s ≡ true → refusal_of s ≡ none → Within (normal_form s) s
own_form s b =
    let (more, e) = (begins_exactly s).0 b in
    subst (λ (t : List ℕ). refusal_of t ≡ none → Within (normal_form t) t) (sym e)
    (form_within (form_characters s) more (ap form_characters (sym e)))

-- A text that is its own normal form begins so.
pub form_begins : (s : List ℕ) → normal_form s ≡ s → begins_normal s ≡ true
unfolding normal_form interchange
form_begins s e = (begins_exactly s).1 (spell (form_characters s) (contents s), sym e)

-- ---- the test

-- A text is a normal form exactly where it begins so, is accepted, and has the length of its normal form.
pub normal_by_length : (s : List ℕ)
    → Says (is_normal_form s) ((begins_normal s ≡ true) × (refusal_of s ≡ none) × (length (normal_form s) ≡ length s))
normal_by_length s =
    says_as (says_normal s)
    (λ h. (form_begins s h.1, h.0, ap length h.1))
    (λ h. (h.1, (own_form s h.0 h.1).only_where h.2))

-- A normal form is one.
pub form_normal : (s : List ℕ) → refusal_of s ≡ none → is_normal_form (normal_form s) ≡ true
form_normal s accepted =
    let n = normal_form_lem s accepted in
    (says_normal (normal_form s)).1 (n.accepted, n.own_form)

-- It has nine bytes or more.
advice_nine : (c : Characters) → length (advice_of c) ≡ 9
unfolding advice_of spelled_out
advice_nine c = refl

pub normal_nine : (s : List ℕ) → is_normal_form s ≡ true → 9 ≤ length s
normal_nine s h =
    let (more, e) = (begins_exactly s).0 ((normal_by_length s).0 h).0 in
    omega (arith, ap length e, length-append (advice_of (form_characters s)) more, advice_nine (form_characters s))
