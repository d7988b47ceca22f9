-- Two results that a contract allows are equal: their numbers and values are the same, and determine them. Assumes nothing.
use Prim.Native.Nat.{ℕ}
use mathlib.Core.Path.{◌≡◌, sym, ◌∙◌}
use mathlib.Core.List.{List}
use denote.Ref.{Bor}
use Rattle.operations.specs.Compare.{Part, of_first, of_second, keep}
use Rattle.contracts.specs.Promises.{IsPart, Handed}
use Rattle.contracts.specs.Tight.{SameSlice, Tight}
use Rattle.contracts.proofs.Told.{judged_tells, stored_tells, compared_tells, located_tells, listed_tells}

-- two things that are equal to a third are equal
alike : {A : Type 0} {x y z : A} → x ≡ z → y ≡ z → x ≡ y
alike e d = e ∙ sym d

one_part : (lent : Bor (List ℕ)) (offset size : ℕ) (r q : Bor (List ℕ)) → IsPart lent offset size r → IsPart lent offset size q → SameSlice r q
one_part lent offset size r q h k = (alike h.place k.place, alike h.bytes k.bytes)

one_handed : (part : Part) (first second r q : Bor (List ℕ)) → Handed part first second r → Handed part first second q → SameSlice r q
one_handed (of_first offset size) first second r q h k = one_part first offset size r q h k
one_handed (of_second offset size) first second r q h k = one_part second offset size r q h k

pub tight : Tight
tight =
    record {
      judge = λ s r q h k. judged_tells r q (alike h k);
      normalise = λ buffer s r q x y h k. (stored_tells r q (alike h.0 k.0), alike h.1 k.1);
      compare = λ first second r q h k. compared_tells r q (alike h k);
      keep = λ first second. one_handed (keep first.now second.now) first second;
      locate = λ s segment element repeat component r q h k. located_tells r q (alike h k);
      part = λ s segment element repeat component r q h k. one_part s _ _ r q h k;
      read = λ buffer table s r q x y t u h k. (listed_tells r q (alike h.0 k.0), alike h.1 k.1, alike h.2 k.2);
      write = λ service bytes table output r q x y h k. (stored_tells r q (alike h.0 k.0), alike h.1 k.1);
    }
