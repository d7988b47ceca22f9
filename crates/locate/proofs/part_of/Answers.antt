-- `locate::part_of` meets its contract: the part that was found, or zero bytes at the input's start. Assumes nothing.
use Rattle.std.specs.Option.{unwrap_or}
use mathlib.Core.Path.{ap, ◌∙◌}
use Rattle.locate.proofs.Locating.{part_named}
use Rattle.locate.proofs.part_of.Goals as goal

pub returns-clause-value : goal.returns-clause-value
returns-clause-value c =
    let x = c.args in
    c.unwrap_or.ensures
    ∙ ap (λ found. unwrap_or found (record { offset = 0; length = 0 })) c.unwrap_or-found.ensures
    ∙ part_named x.s.now x.segment x.element x.repeat x.component c.locate.result c.locate.ensures.locates
