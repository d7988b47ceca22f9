-- `compare::compare_in` meets its contract: the first's refusal answers, or the second is held against its normal form. Assumes nothing.
use Rattle.std.proofs.Common.{◌≡◌, Ok, Err, rules, subst, sym}
use Rattle.refusals.specs.declared.Refusal.{Refusal}
use Rattle.answers.specs.declared.Unaccepted.TheVariants.{First}
use Rattle.contracts.specs.Promises.{Compares}
use Rattle.compare.proofs.Compared.{form_is, form_stored, form_refused, first_refused, text_compared}
use Rattle.compare.proofs.compare_in.Goals as goal

pub slice_bounds-compare_with-end : goal.slice_bounds-compare_with-end
slice_bounds-compare_with-end c =
    let x = c.args in
    let e : c.store_found.result ≡ Ok c.in_ok-n.n = search rules in
    (form_stored x.a.now x.first.now c.store_found.ensures e).1

pub slice_bounds-compare_with-end-2 : goal.slice_bounds-compare_with-end-2
slice_bounds-compare_with-end-2 c =
    let x = c.args in
    let e : c.store_found.result ≡ Ok c.in_ok-n.n = search rules in
    (form_stored x.a.now x.first.now c.store_found.ensures e).2

pub compare_with-requires : goal.compare_with-requires
compare_with-requires c =
    let first = c.args.first.now in
    let e : c.store_found.result ≡ Ok c.in_ok-n.n = search rules in
    let (accepted, fits, long, form) = form_stored c.args.a.now first c.store_found.ensures e in
    (form_is first accepted form, c.requires.2)

pub returns-in_err-n : goal.returns-in_err-n
returns-in_err-n c =
    let first = c.args.first.now in
    let e : (r : Refusal) × (c.store_found.result ≡ Err r) × (c.from_residual.result ≡ Err (First r)) = search rules in
    subst (Compares first c.args.second.now) (sym e.2) (first_refused first c.args.second.now (form_refused c.args.a.now first c.store_found.ensures c.requires.1 e.1))

pub returns : goal.returns
returns c =
    let x = c.args in
    let e : c.store_found.result ≡ Ok c.in_ok-n.n = search rules in
    let (accepted, fits, long, form) = form_stored x.a.now x.first.now c.store_found.ensures e in
    text_compared x.first.now x.second.now accepted form c.compare_with.result c.compare_with.ensures
