-- What the contract allows, case by case: which answer, and which bytes of the output at exit. Assumes nothing.
use Rattle.std.specs.Prelude.{Ok, Err}
use Prim.Native.Nat.{ℕ}
use mathlib.Core.Path.{◌≡◌, ap, ◌∙◌}
use mathlib.Core.List.{List, [], ◌∷◌, ◌++◌}
use mathlib.Core.Option.{Option, none, some}
use lib.ListN.{length, drop, replicate}
use Rattle.lists.specs.Lists.{maybe}
use Rattle.refusals.specs.declared.Refusal.{Refusal}
use Rattle.answers.specs.Answers.{given, refused, told_stored, Stored}
use Rattle.operations.specs.Judge.{stored_in, unless_refused}
use Rattle.contracts.proofs.Told.{stored_tells}
use Rattle.acknowledgements.specs.Lent.{Lent}
use Rattle.acknowledgements.specs.Acknowledgement.{acknowledgement_text, acknowledge_refusal, acknowledge, acknowledge_output}
use Rattle.acknowledgements.specs.Promises.{Acknowledges}
use Rattle.acknowledgements.proofs.Words.{refused_zero}

module _ (s : List ℕ) (l : Lent) (output : List ℕ) where
  -- the text in the front of the output, of which the rest keeps its values
  pub written_given : acknowledge_refusal s l output ≡ none
      → let text : List ℕ = acknowledgement_text s l in
      (acknowledge s l output ≡ given (length text ∷ [])) × (acknowledge_output s l output ≡ text ++ drop (length text) output)
  unfolding acknowledge acknowledge_output maybe unless_refused stored_in
  written_given e = (
    ap (maybe (given (length (acknowledgement_text s l) ∷ [])) refused) e,
    ap (λ (o : Option Refusal). unless_refused o (stored_in output (acknowledgement_text s l)) (replicate (length output) 0)) e,
  )

  -- the text and its length; or the refusal, and zeros
  pub acknowledges : (r : Stored) (after : List ℕ) → Acknowledges s l output r after
      → (acknowledge_refusal s l output ≡ none
      → let text : List ℕ = acknowledgement_text s l in
      (r ≡ Ok (length text)) × (after ≡ text ++ drop (length text) output))
      × ((q : Refusal) → acknowledge_refusal s l output ≡ some q → (r ≡ Err q) × (after ≡ replicate (length output) 0))
  unfolding told_stored
  acknowledges r after h = (
    λ e.
        let told = written_given e in
        (stored_tells r (Ok (length (acknowledgement_text s l))) (h.0 ∙ told.0), h.1 ∙ told.1),
    λ q e. let told = refused_zero s l output e in (stored_tells r (Err q) (h.0 ∙ told.0), h.1 ∙ told.1),
  )
