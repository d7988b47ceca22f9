-- `shelf::remove_on` meets its contract: with the summary stored back at the head, what was taken from the lent summary is Remove. Assumes nothing.
use Rattle.std.proofs.Common.{ℕ, List, sym, subst, arith}
use Rattle.shelves.specs.Layout.{version_two}
use Rattle.shelves.proofs.Sound.{says_sound}
use Rattle.shelf_contracts.specs.Promises.{Removes}
use Rattle.shelf.proofs.remove_on.Goals as goal

pub store_head-requires : goal.store_head-requires
store_head-requires c = omega (arith, ((says_sound version_two c.args.s.now).0 c.requires.0).least)

pub returns : goal.returns
returns c = subst (λ (ys : List ℕ). Removes version_two c.args.s.now c.args.slot c.remove_lent-taken.result ys) (sym c.store_head.ensures) c.remove_lent-taken.ensures.0
