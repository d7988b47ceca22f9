-- `stretches::past_last` meets its contract: the stretch goes on at each byte before the one that is found. Assumes nothing.
use Rattle.std.proofs.Common.{rules, arith, ℕ, ◌+◌, ◌≡◌, true, false, Bool}
use Rattle.std.proofs.lemmas.Iterator.{first_from_Range}
use lib.ListN.{get_or}
use Rattle.first_found.proofs.Firsts.{told_found}
use Rattle.stretches.specs.Stretches.{halts}
use Rattle.stretches.proofs.past_last.Goals as goal

pub returns : goal.returns
returns c =
    let x = c.args in
    let there : ℕ → Bool = λ k. halts x.c x.n (get_or x.s.now k 0) (get_or x.s.now (k + 1) 0) in
    let (first, goes) =
    told_found (λ k. there k ≡ false) (λ k. there k ≡ true) c.find.result
    (first_from_Range _ _ _ _ (λ k. there k ≡ true) (λ k. there k ≡ false) c.find.ensures.ran (λ k q r. search rules) (λ k q r. search rules))
    c.unwrap_or.ensures (omega arith) in
    (first, λ k l m. let on = goes k l m in (omega (arith, on.0), on.1))
