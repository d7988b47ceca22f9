-- `segment_ends::pass_token` meets its contract: by the byte, and the one after it. Assumes nothing.
use borrow.Author.Rules.{rules}
use mathlib.Core.Path.{sym, ◌∙◌}
use Rattle.segment_ends.proofs.Passing.{ends_here, goes_past, goes_over}
use Rattle.segment_ends.proofs.pass_token.Goals as goal

pub returns-then-s-at : goal.returns-then-s-at
returns-then-s-at c = tt

pub returns-then-s-at-2 : goal.returns-then-s-at-2
returns-then-s-at-2 c =
    let x = c.args in
    ends_here x.c x.s.now x.at (search rules) c.if-s-at-2.true c.after_breaks.ensures

pub returns-then-s-at-3 : goal.returns-then-s-at-3
returns-then-s-at-3 c =
    let x = c.args in
    goes_past x.c x.s.now x.at c.requires (search rules) c.if-s-at-2.false c.if-s-at-3.true

pub returns-then-s-next : goal.returns-then-s-next
returns-then-s-next c = tt

pub returns-then-is_service : goal.returns-then-is_service
returns-then-is_service c =
    let x = c.args in
    goes_over x.c x.s.now x.at c.requires (search rules) c.if-s-at-2.false c.if-s-at-3.false
    (sym c.is_service.ensures ∙ c.if-is_service.true)

pub returns : goal.returns
returns c = tt
