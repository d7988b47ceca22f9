-- What the test of soundness passes or refuses, as an outcome. Assumes nothing.
use Rattle.std.specs.Prelude.{Ok, Err}
use Prim.Native.Nat.{ℕ}
use mathlib.Core.Path.{◌≡◌, sym, ap, ◌∙◌}
use mathlib.Core.Bool.{true, false}
use mathlib.Core.List.{List, [], ◌∷◌}
use mathlib.Core.Logic.{⊎_elim}
use native.Mathlib.Omega.{arith}
use Rattle.lists.proofs.Texts.{decided}
use Rattle.refusals.specs.declared.Refusal.{Refusal}
use Rattle.refusals.specs.Refusals.{Outcome, answering, outcome}
use Rattle.shelves.specs.Layout.{Layout}
use Rattle.shelves.specs.Soundness.{sound}
use Rattle.shelves.specs.Operations.{unsound}
use Rattle.shelves.proofs.Answered.{nineteen, unsound_answers, sound_answers}

module _ (l : Layout) (s : List ℕ) where
  pub asked_sound : sound l s ≡ true → Ok tt ≡ outcome (answering (unsound l s ∷ []))
  unfolding answering outcome
  asked_sound e = sym (ap outcome (sound_answers l s [] e))

  pub asked_unsound : sound l s ≡ false → Err nineteen ≡ outcome (answering (unsound l s ∷ []))
  unfolding outcome
  asked_unsound e = sym (ap outcome (unsound_answers l s [] e))

  -- of a layout that is this one
  module _ {m : Layout} (same : m ≡ l) {r : Outcome} (said : r ≡ outcome (answering (unsound m s ∷ []))) where
    is : r ≡ outcome (answering (unsound l s ∷ []))
    is = said ∙ ap (λ (k : Layout). outcome (answering (unsound k s ∷ []))) same

    -- what passed is sound
    pub passed_sound : r ≡ Ok tt → sound l s ≡ true
    passed_sound e =
        ⊎_elim
        (λ (t : sound l s ≡ true). t)
        (λ (t : sound l s ≡ false). absurd (no_error (asked_unsound t ∙ sym is ∙ e)))
        (decided (sound l s))
      where
        no_error : ◌≡◌ {A = Outcome} (Err nineteen) (Ok tt) → ⊥
        no_error e = let z : ◌≡◌ {A = ℕ} 0 1 = cc in omega arith

    -- what was refused is not, and is refused by 19
    pub failed_sound : {q : Refusal} → r ≡ Err q → (sound l s ≡ false) × (q ≡ nineteen)
    failed_sound {q} e =
        ⊎_elim
        (λ (t : sound l s ≡ true). absurd (no_pass (asked_sound t ∙ sym is ∙ e)))
        (λ (t : sound l s ≡ false). (t, same_error (sym e ∙ is ∙ sym (asked_unsound t))))
        (decided (sound l s))
      where
        no_pass : ◌≡◌ {A = Outcome} (Ok tt) (Err q) → ⊥
        no_pass e = let z : ◌≡◌ {A = ℕ} 0 1 = cc in omega arith

        same_error : ◌≡◌ {A = Outcome} (Err q) (Err nineteen) → q ≡ nineteen
        same_error e = cc
