-- Two results that a contract allows are equal. Assumes nothing.
use mathlib.Core.Path.{◌≡◌, sym, ◌∙◌}
use Rattle.shelf_contracts.proofs.Told.{outcome_tells}
use Rattle.carrying.specs.Tight.{Tight}

-- two things that are equal to a third are equal
alike : {A : Type 0} {x y z : A} → x ≡ z → y ≡ z → x ≡ y
alike e d = e ∙ sym d

pub tight : Tight
tight =
    record {
      carry = λ s r q x y h k. (outcome_tells r q (alike h.0 k.0), alike h.1 k.1);
      carry_back = λ s r q x y h k. (outcome_tells r q (alike h.0 k.0), alike h.1 k.1);
    }
