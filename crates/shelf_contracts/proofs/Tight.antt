-- Two results that a contract allows are equal. Assumes nothing.
use mathlib.Core.Path.{◌≡◌, sym, ◌∙◌}
use Rattle.contracts.proofs.Told.{stored_tells}
use Rattle.shelves.specs.Layout.{Layout}
use Rattle.shelf_contracts.specs.Tight.{Tight}
use Rattle.shelf_contracts.proofs.Told.{outcome_tells, shelved_tells, slots_tells, sums_tells}

-- two things that are equal to a third are equal
alike : {A : Type 0} {x y z : A} → x ≡ z → y ≡ z → x ≡ y
alike e d = e ∙ sym d

pub tight : (l : Layout) → Tight l
tight l =
    record {
      start = λ buffer r q x y h k. (outcome_tells r q (alike h.0 k.0), alike h.1 k.1);
      put = λ s input r q x y h k. (shelved_tells r q (alike h.0 k.0), alike h.1 k.1);
      get = λ s slot r q h k. (alike h.place k.place, alike h.bytes k.bytes);
      measure = λ s slot r q h k. stored_tells r q (alike h k);
      remove = λ s slot r q x y h k. (stored_tells r q (alike h.0 k.0), alike h.1 k.1);
      count = λ s r q h k. slots_tells r q (alike h k);
      sums = λ s r q h k. sums_tells r q (alike h k);
    }
