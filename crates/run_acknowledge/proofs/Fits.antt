-- The text that an acknowledgement says it stored stands in the front of the buffer, and so lies within it. Assumes nothing.
use Rattle.std.specs.Prelude.{Ok, Err}
use Prim.Native.Nat.{ℕ, ◌≤◌}
use mathlib.Core.Path.{◌≡◌, sym, ap, subst, ◌∙◌}
use mathlib.Core.List.{List, [], ◌∷◌}
use native.Mathlib.Omega.{arith}
use lib.ListN.{length, take, length-take}
use Rattle.answers.specs.Answers.{Answer, given, told_stored, Stored}
use Rattle.contracts.proofs.Told.{given_is}
use Rattle.acknowledgements.specs.Lent.{Lent}
use Rattle.acknowledgements.specs.Acknowledgement.{acknowledgement_text, acknowledge_refusal, acknowledge}
use Rattle.acknowledgements.specs.Promises.{Acknowledges}
use Rattle.acknowledgement_laws.proofs.Theorems.{acknowledgements}
use Rattle.run_acknowledge.specs.Told.{Fitting}

pub text_fits : (s : List ℕ) (l : Lent) (output : List ℕ) (r : Stored) (after : List ℕ) → Acknowledges s l output r after → Fitting r after
unfolding acknowledge told_stored given
text_fits s l output (Ok n) after (says, left) =
    let text = acknowledgement_text s l in
    let size : n ∷ [] ≡ length text ∷ [] = (given_is (length text ∷ []) (n ∷ []) (acknowledge_refusal s l output) says).1 in
    let stands = ap (take (length text)) left ∙ (acknowledgements.acknowledged s l output (sym (ap (λ (a : Answer). a.number) says))).stored in
    omega (arith, head size, ap length stands, length-take (length text) after)
  where
    head : {a b : ℕ} → a ∷ [] ≡ b ∷ [] → a ≡ b
    head e = cc
text_fits s l output (Err q) after w = tt

-- for whoever prints it
pub within : (r : Stored) (buffer : List ℕ) (n : ℕ) → r ≡ Ok n → Fitting r buffer → n ≤ length buffer
within r buffer n is fitting = subst (λ (x : Stored). Fitting x buffer) is fitting
