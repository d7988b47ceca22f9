-- `segment_ends::up_to_either` meets its contract: none of the bytes before the one that is found is either. Assumes nothing.
use Rattle.std.proofs.Common.{rules, ℕ, ◌≡◌, ◌||◌, true, false, Bool}
use Rattle.std.proofs.lemmas.Iterator.{first_from_Range}
use lib.Dec.{eqb}
use lib.ListN.{get_or}
use Rattle.first_found.proofs.Firsts.{told_found}
use Rattle.segment_ends.proofs.up_to_either.Goals as goal

pub returns : goal.returns
returns c =
    let x = c.args in
    let either : ℕ → Bool = λ k. eqb (get_or x.s.now k 0) x.a || eqb (get_or x.s.now k 0) x.b in
    told_found (λ k. either k ≡ false) (λ k. either k ≡ true) c.find.result
    (first_from_Range _ _ _ _ (λ k. either k ≡ true) (λ k. either k ≡ false) c.find.ensures.ran (λ k q r. search rules) (λ k q r. search rules))
    c.unwrap_or.ensures (search rules)
