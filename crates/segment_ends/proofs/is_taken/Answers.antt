-- `segment_ends::is_taken` meets its contract. Assumes nothing.
use Rattle.std.proofs.Common.{sym, ◌∙◌, []}
use borrow.Author.Tests.{eq-eqb}
use Rattle.segment_ends.proofs.Passing.{release_serves}
use Rattle.segment_ends.proofs.is_taken.Goals as goal

pub returns-then-b-c : goal.returns-then-b-c
returns-then-b-c c =
    let x = c.args in
    eq-eqb x.b x.c.release c.if-b-c.true ∙ sym (release_serves x.c [] c.requires c.if-b-c.true)
