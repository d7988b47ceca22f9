-- `judge::quickly` meets its contract: the opening passes, and what is asked after it promises the rest. Assumes nothing.
use mathlib.Core.Path.{◌≡◌, sym, ◌∙◌}
use Rattle.std.specs.Prelude.{Ok}
use native.Mathlib.Omega.{arith}
use borrow.Author.Rules.{rules}
use Rattle.judge.proofs.quickly.Goals as goal

pub quickly_after-requires : goal.quickly_after-requires
quickly_after-requires c =
    let e : c.opening_of.result ≡ Ok c.in_ok-found.found = search rules in
    (omega arith, sym e ∙ c.opening_of.ensures)
