-- `run_respell::compare_text` is safe and ends: the normal form that was stored lies within the buffer. Assumes nothing.
use Rattle.std.proofs.Common.{◌≡◌, Ok, rules, sym}
use Rattle.std.proofs.lemmas.List.{length-take-le}
use Rattle.run_respell.proofs.Fits.{form_within}
use Rattle.run_respell.proofs.compare_text.Goals as goal

pub slice_bounds-equal-end : goal.slice_bounds-equal-end
slice_bounds-equal-end c =
    let e : c.normalise.result ≡ Ok c.in_ok-n.n = search rules in
    form_within _ _ c.normalise.ensures.0 e c.normalise.ensures.1

pub slice_bounds-equal-end-2 : goal.slice_bounds-equal-end-2
slice_bounds-equal-end-2 c =
    let e : c.normalise.result ≡ Ok c.in_ok-n.n = search rules in
    sym (length-take-le _ _ (form_within _ _ c.normalise.ensures.0 e c.normalise.ensures.1))
