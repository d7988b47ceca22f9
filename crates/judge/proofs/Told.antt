-- What a caller of Judge learns from its answer. Assumes nothing.
use Rattle.std.specs.Prelude.{Ok, Err}
use Prim.Native.Nat.{ℕ}
use mathlib.Core.Path.{◌≡◌, sym, ap, ◌∙◌}
use mathlib.Core.List.{List}
use mathlib.Core.Option.{none, some}
use lib.ListN.{length}
use Rattle.characters.specs.Characters.{characters_of}
use Rattle.refusals.specs.declared.Refusal.{Refusal}
use Rattle.answers.specs.declared.Figures.{Figures}
use Rattle.answers.specs.Answers.{given, accepted, told_judged, Judged}
use Rattle.stages.specs.Contents.{normal_form}
use Rattle.stages.specs.Stages.{refusal_of}
use Rattle.operations.specs.Judge.{figures_of, judge}
use Rattle.contracts.specs.Promises.{Judges}
use Rattle.contracts.proofs.Told.{accepted_tells, given_is, refused_is}

module _ (s : List ℕ) where
  -- it is accepted, and these are its figures
  pub told_accepted : {i : Figures} {answer : Judged} → Judges s answer → answer ≡ Ok i
      → (refusal_of s ≡ none) × (i ≡ figures_of s)
  unfolding told_judged judge accepted given
  told_accepted {i} e d =
      let (passed, said) = given_is (accepted (figures_of s)).values (accepted i).values (refusal_of s) (sym (ap told_judged d) ∙ e) in
      (passed, accepted_tells i (figures_of s) (ap given said))

  -- this refusal answers
  pub told_refused : {r : Refusal} {answer : Judged} → Judges s answer → answer ≡ Err r → refusal_of s ≡ some r
  unfolding told_judged judge accepted given
  told_refused {r} e d = refused_is (accepted (figures_of s)).values r (refusal_of s) (sym (ap told_judged d) ∙ e)

-- what is known of an interchange that was accepted
module _ (s : List ℕ) {i : Figures} (e : i ≡ figures_of s) where
  pub length_of_lem : i.length ≡ length (normal_form s)
  unfolding figures_of
  length_of_lem = ap (λ (x : Figures). x.length) e

  pub characters_of_lem : i.characters ≡ characters_of s
  unfolding figures_of
  characters_of_lem = ap (λ (x : Figures). x.characters) e
