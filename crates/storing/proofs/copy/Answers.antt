-- `storing::copy` meets its contract: the part that is stored over holds the other text's rest. Assumes nothing.
use Rattle.std.proofs.Common.{◌≡◌, ◌∙◌, ap, arith, length, drop, take, length-drop, ◌-◌, ◌+◌}
use Rattle.std.proofs.lemmas.List.{drop_min}
use Rattle.std.proofs.lemmas.List.Edits.{sets}
use Rattle.std.proofs.Math.Seq.{take_all}
use Rattle.storing.proofs.Stores.{part_stored}
use Rattle.storing.proofs.copy.Goals as goal

pub returns : goal.returns
returns c =
    let x = c.args in
    let s = x.s.now in
    let first = c.min.result in
    let rest : take (length s - first) (drop first s) ≡ drop x.start s =
    take_all (length s - first) (drop first s) (omega (arith, length-drop first s))
    ∙ ap (λ n. drop n s) c.min.ensures ∙ drop_min x.start s in
    let copied : c.copy_from_slice.new.self ≡ drop x.start s = c.copy_from_slice.ensures.after ∙ rest in
    let size = length (take (length s - first) (drop first s)) in
    part_stored x.buffer.now c.copy_from_slice.new.self x.from (x.from + size - x.from) (omega (arith, ap length copied, ap length rest)) (omega (arith, ap length rest, c.requires))
    ∙ ap (sets x.buffer.now x.from) copied
