-- `run_respell::compare_in_place` is safe and ends: the normal form that was stored lies within the buffer. Assumes nothing.
use Rattle.std.proofs.Common.{◌≡◌, Ok, rules, sym}
use Rattle.std.proofs.lemmas.List.{length-take-le}
use Rattle.run_respell.proofs.Fits.{form_within}
use Rattle.run_respell.proofs.compare_in_place.Goals as goal

pub slice_bounds-compare_text-end : goal.slice_bounds-compare_text-end
slice_bounds-compare_text-end c =
    let e : c.normalise.result ≡ Ok c.in_ok-n.n = search rules in
    form_within _ _ c.normalise.ensures.0 e c.normalise.ensures.1

pub slice_bounds-compare_text-end-2 : goal.slice_bounds-compare_text-end-2
slice_bounds-compare_text-end-2 c =
    let e : c.normalise.result ≡ Ok c.in_ok-n.n = search rules in
    sym (length-take-le _ _ (form_within _ _ c.normalise.ensures.0 e c.normalise.ensures.1))
