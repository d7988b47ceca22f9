-- `run_respell::respell_into` meets its contract: the bytes and the numbers that Read says it stored lie within the two buffers. Assumes nothing.
use Rattle.std.proofs.Common.{◌≡◌, Ok, rules, sym}
use Rattle.std.proofs.lemmas.List.{length-take-le}
use Rattle.run_respell.proofs.Fits.{bytes_within, numbers_within}
use Rattle.run_respell.proofs.respell_into.Goals as goal

pub slice_bounds-write_values-end : goal.slice_bounds-write_values-end
slice_bounds-write_values-end c =
    let e : c.read.result ≡ Ok c.in_ok-listed.listed = search rules in
    bytes_within _ _ _ c.read.ensures.0 e c.read.ensures.1

pub slice_bounds-write_values-end-2 : goal.slice_bounds-write_values-end-2
slice_bounds-write_values-end-2 c =
    let e : c.read.result ≡ Ok c.in_ok-listed.listed = search rules in
    sym (length-take-le _ _ (bytes_within _ _ _ c.read.ensures.0 e c.read.ensures.1))

pub slice_bounds-table-end : goal.slice_bounds-table-end
slice_bounds-table-end c =
    let e : c.read.result ≡ Ok c.in_ok-listed.listed = search rules in
    numbers_within _ _ _ c.read.ensures.0 e c.read.ensures.2

pub slice_bounds-write_values-end-3 : goal.slice_bounds-write_values-end-3
slice_bounds-write_values-end-3 c =
    let e : c.read.result ≡ Ok c.in_ok-listed.listed = search rules in
    sym (length-take-le _ _ (numbers_within _ _ _ c.read.ensures.0 e c.read.ensures.2))
