-- The theorems of this crate. Assumes nothing.
use Prim.Native.Nat.{ℕ, ◌+◌, ◌*◌, ◌≤◌}
use mathlib.Core.Path.{◌≡◌, sym, ap, ap₂, ◌∙◌}
use mathlib.Core.Bool.{true}
use mathlib.Core.List.{List}
use mathlib.Core.Option.{none}
use mathlib.Core.Logic.{◌↔◌}
use native.Mathlib.Omega.{arith}
use lib.ListN.{length, length-drop}
use Rattle.characters.specs.declared.Characters.{Characters}
use Rattle.characters.specs.Characters.{six_bytes, spelled_out, advice_of, characters_of, body_start, body}
use Rattle.values.specs.Spelling.{SegmentList}
use Rattle.stages.specs.Contents.{body_tokens, segments_of, contents, normal_characters, normal_repetition, interchange, normal_form}
use Rattle.stages.specs.Stages.{refusal_of}
use Rattle.operations.specs.Compare.{are_same}
use Rattle.operations.proofs.Cases.{same_says}
use Rattle.spelling_laws.specs.Bodies.{Sound, Passes}
use Rattle.emission_laws.proofs.Theorems.{contents_bound}
use Rattle.normal_form_laws.specs.Forms.{mark_of, form_characters, Normalised, NormalForms, end_to_end, cut_forms}
use Rattle.normal_form_laws.proofs.Normal.{accepted_passes, normal_contents, normal_characters_lem, normal_mark, normal_again}
use Rattle.normal_form_laws.proofs.Accepting.{normal_accepted}
use Rattle.normal_form_laws.proofs.EndToEnd.{cut_enough, file_length}

-- "For n input bytes it has at most 2n + 9."
pub normal_length : (s : List ℕ) → refusal_of s ≡ none → length (normal_form s) ≤ 2 * length s + 9
unfolding normal_form interchange advice_of spelled_out contents segments_of body_tokens body Passes Sound
normal_length s h =
    omega (
      arith,
      contents_bound (form_characters s) (characters_of s) (body_start s) (body s) (accepted_passes s h).1,
      length-drop (body_start s) s,
    )

-- The normal form of an accepted input has all that is promised of it,
pub normal_form_lem : (s : List ℕ) → refusal_of s ≡ none → Normalised s (normal_form s)
normal_form_lem s h = record {
  accepted = normal_accepted s h;
  same_contents = normal_contents s h;
  characters = normal_characters_lem s h;
  own_form = normal_again s h;
  bounded = normal_length s h;
}

-- and no other text has.
pub only_normal : (s form : List ℕ) → Normalised s form → form ≡ normal_form s
unfolding normal_form normal_characters six_bytes
only_normal s form n =
    sym n.own_form
    ∙ ap₂ (λ (c : Characters) (list : SegmentList). interchange (normal_characters c.mark (normal_repetition list)) list) n.characters n.same_contents

-- Two accepted inputs have the same normal form exactly where their contents and their marks are equal.
pub same_normal : (a b : List ℕ) → refusal_of a ≡ none → refusal_of b ≡ none
    → (normal_form a ≡ normal_form b) ↔ ((contents a ≡ contents b) × (mark_of a ≡ mark_of b))
unfolding normal_form
same_normal a b h k = (
  λ e. (
    sym (normal_contents a h) ∙ ap contents e ∙ normal_contents b k,
    sym (normal_mark a h) ∙ ap mark_of e ∙ normal_mark b k,
  ),
  λ e. ap₂ (λ (mark : ℕ) (list : SegmentList). interchange (normal_characters mark (normal_repetition list)) list) e.1 e.0,
)

-- Compare's "same", in these words.
pub same_exactly : (a b : List ℕ)
    → (are_same a b ≡ true)
    ↔ ((refusal_of a ≡ none) × (refusal_of b ≡ none) × (contents a ≡ contents b) × (mark_of a ≡ mark_of b))
same_exactly a b = (
  λ e.
      let (first, second, form) = (same_says a b).0 e in
      let equal = (same_normal a b first second).0 form in
      (first, second, equal.0, equal.1),
  λ k. (same_says a b).1 (k.0, k.1, (same_normal a b k.0 k.1).1 (k.2, k.3)),
)

-- Normal forms end to end are found again by cutting.
pub cut_forms_lem : (forms : List (List ℕ)) → NormalForms forms → cut_forms (end_to_end forms) ≡ forms
unfolding cut_forms
cut_forms_lem forms f = cut_enough (length (end_to_end forms)) forms f (file_length forms f)

-- Two lists of normal forms that make the same file are the same.
pub file_unique : (forms others : List (List ℕ)) → NormalForms forms → NormalForms others
    → end_to_end forms ≡ end_to_end others → forms ≡ others
file_unique forms others f g e = sym (cut_forms_lem forms f) ∙ ap cut_forms e ∙ cut_forms_lem others g
