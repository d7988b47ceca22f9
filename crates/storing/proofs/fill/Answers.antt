-- `storing::fill` meets its contract: the part that is filled holds the run. Assumes nothing.
use Rattle.std.proofs.Common.{◌≡◌, ◌∙◌, ap, arith, rules, length, drop, take, replicate, length-take-le, length-drop, ◌-◌, ◌+◌}
use Rattle.std.proofs.lemmas.List.{length-replicate}
use Rattle.std.proofs.lemmas.List.Edits.{sets}
use Rattle.storing.proofs.Stores.{part_stored}
use Rattle.storing.proofs.fill.Goals as goal

pub returns : goal.returns
returns c =
    let x = c.args in
    let part = x.from + x.count - x.from in
    let size : length (take part (drop x.from x.buffer.now)) ≡ x.count =
    length-take-le part (drop x.from x.buffer.now) (omega (arith, length-drop x.from x.buffer.now)) ∙ omega arith in
    let run : c.fill.new.self ≡ replicate x.count x.b =
    c.fill.ensures.after (search rules) ∙ ap (λ n. replicate n x.b) size in
    part_stored x.buffer.now c.fill.new.self x.from part (omega (arith, ap length run, length-replicate x.count x.b)) (omega arith)
    ∙ ap (sets x.buffer.now x.from) run
