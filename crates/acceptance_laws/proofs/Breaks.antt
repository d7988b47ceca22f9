-- Inputs that differ in nothing but line breaks have the same contents, mark and normal form, and the one is accepted where the other is.
-- Assumes nothing.
use Prim.Native.Nat.{ℕ, ◌≤◌}
use mathlib.Core.Path.{◌≡◌, sym, ap, ap₂, subst, ◌∙◌}
use mathlib.Core.Bool.{true}
use mathlib.Core.List.{List}
use lib.ListN.{length}
use Rattle.characters.specs.declared.Characters.{Characters}
use Rattle.characters.specs.Characters.{usable, characters_of, body_start, body}
use Rattle.values.specs.Spelling.{SegmentList}
use Rattle.stages.specs.Contents.{contents, normal_characters, normal_repetition, interchange, normal_form}
use Rattle.stages.specs.Places.{too_long, normal_too_long}
use Rattle.stages.proofs.Over.{within}
use Rattle.operations.specs.ValueList.{trim_list}
use Rattle.spelling_laws.proofs.Laws.{passes_exactly, list_read_lem}
use Rattle.normal_form_laws.specs.Forms.{mark_of, BodyPasses, list_read, Suits}
use Rattle.normal_form_laws.proofs.Versions.{own_suits}
use Rattle.normal_form_laws.proofs.Trimmed.{contents_read}
use Rattle.normal_form_laws.proofs.Accepted.{accepted_exactly, usable_accepted}
use Rattle.normal_form_laws.proofs.SameList.{same_nowhere}
use Rattle.refusals.specs.Limits.{most_bytes}
use Rattle.acceptance_laws.specs.Allowed.{WellOpened, Allowed}
use Rattle.acceptance_laws.specs.Same.{Same}
use Rattle.acceptance_laws.specs.Breaks.{ButForBreaks}
use Rattle.acceptance_laws.proofs.Opening.{opening_clear}
use Rattle.acceptance_laws.proofs.Acceptance.{allowed_exactly}

-- the service characters of an input that opens so are usable
opened_usable : (s : List ℕ) → WellOpened s → usable (characters_of s) ≡ true
opened_usable s o = usable_accepted s ((opening_clear s).1 o).0

-- the relation is symmetric
pub breaks_back : {s t : List ℕ} → ButForBreaks s t → ButForBreaks t s
breaks_back h = record {
  first = h.second;
  second = h.first;
  characters = sym h.characters;
  first_spelled = h.second_spelled;
  second_spelled = h.first_spelled;
  same_list = sym h.same_list;
}

module _ (s t : List ℕ) (h : ButForBreaks s t) where
  -- both are read as the list
  read_alike : list_read t ≡ list_read s
  read_alike =
      list_read_lem (characters_of t) (opened_usable t h.second) (body_start t) (body t) h.second_spelled
      ∙ sym h.same_list
      ∙ sym (list_read_lem (characters_of s) (opened_usable s h.first) (body_start s) (body s) h.first_spelled)

  pub breaks_contents : contents s ≡ contents t
  breaks_contents = contents_read s ∙ ap trim_list (sym read_alike) ∙ sym (contents_read t)

  pub breaks_mark : mark_of s ≡ mark_of t
  breaks_mark = ap (λ (c : Characters). c.mark) h.characters

  pub breaks_form : normal_form s ≡ normal_form t
  unfolding normal_form
  breaks_form = ap₂ (λ (mark : ℕ) (list : SegmentList). interchange (normal_characters mark (normal_repetition list)) list) breaks_mark breaks_contents

  passes_first : BodyPasses s
  passes_first = ((passes_exactly (characters_of s) (opened_usable s h.first) (body_start s) (body s)).1 h.first_spelled).0

  passes_second : BodyPasses t
  passes_second = ((passes_exactly (characters_of t) (opened_usable t h.second) (body_start t) (body t)).1 h.second_spelled).0

  -- where one is accepted, the other is the same, if it is not too long
  pub breaks_same : Allowed s → length t ≤ most_bytes → Same s t
  unfolding too_long normal_too_long
  breaks_same a short =
      let opened = (opening_clear t).1 h.second in
      let size : length (normal_form t) ≤ most_bytes = subst (λ (form : List ℕ). length form ≤ most_bytes) breaks_form a.normal_size in
      let own = (accepted_exactly s).0 ((allowed_exactly s).1 a) in
      let clear =
      same_nowhere s t own passes_first passes_second read_alike (subst (λ (c : Characters). Suits c (contents s)) h.characters (own_suits s own))
      ((within t 0).1 short)
      opened.0
      opened.1
      ((within (normal_form t) (length (normal_form t))).1 size)
      in
      record { first = a; second = (allowed_exactly t).0 ((accepted_exactly t).1 clear); normal = breaks_form }
