-- `parties::is_kept` meets its contract: a plain byte stands in front, or a byte is looked for. Assumes nothing.
use mathlib.Core.Path.{sym, ◌∙◌}
use borrow.Author.Tests.{lt-ltb}
use Rattle.parties.proofs.Finding.{run_kept}
use Rattle.parties.proofs.is_kept.Goals as goal

pub returns-then-from-at : goal.returns-then-from-at
returns-then-from-at c =
    let x = c.args in
    lt-ltb _ _ c.if-from-at.true ∙ sym (run_kept x.c x.s.now x.from x.at c.requires c.if-from-at.true)
