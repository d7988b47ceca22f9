-- Whether a text is a normal form, from what Judge says and from how it begins. Assumes nothing.
use Prim.Native.Nat.{ℕ}
use mathlib.Core.Path.{◌≡◌, sym, ◌∙◌}
use mathlib.Core.Bool.{false}
use mathlib.Core.List.{List}
use mathlib.Core.Option.{none, some, none-ne-some}
use lib.ListN.{length}
use Rattle.lists.proofs.Tests.{fails}
use Rattle.refusals.specs.declared.Refusal.{Refusal}
use Rattle.stages.specs.Contents.{normal_form}
use Rattle.stages.specs.Stages.{refusal_of}
use Rattle.own_form_laws.specs.OwnForm.{begins_normal}
use Rattle.own_form_laws.proofs.OwnForm.{normal_by_length}
use Rattle.shelves.specs.Soundness.{is_normal_form}
use Rattle.shelf_soundness.proofs.Whole.{says_unique}

module _ (s : List ℕ) where
  pub is_refused : {q : Refusal} → refusal_of s ≡ some q → false ≡ is_normal_form s
  is_refused {q} e = sym ((fails (is_normal_form s) (normal_by_length s)).1 (λ h. none-ne-some q (sym h.1 ∙ e)))

  module _ {n : ℕ} (d : n ≡ length (normal_form s)) where
    pub otherwise_long : (n ≡ length s → ⊥) → false ≡ is_normal_form s
    otherwise_long k = sym ((fails (is_normal_form s) (normal_by_length s)).1 (λ h. k (d ∙ h.2)))

    -- one that is accepted and has its normal form's length is told by how it begins
    pub by_its_advice : refusal_of s ≡ none → n ≡ length s → begins_normal s ≡ is_normal_form s
    by_its_advice a k = says_unique (begins_normal s) (is_normal_form s) (λ b. (b, a, sym d ∙ k), λ h. h.0) (normal_by_length s)
