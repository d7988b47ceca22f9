-- `shelf::put_on` meets its contract: with the summary stored back at the head, what was put on the lent summary is Put. Assumes nothing.
use Rattle.std.proofs.Common.{ℕ, List, sym, subst, arith}
use Rattle.shelves.specs.Layout.{version_two}
use Rattle.shelves.proofs.Sound.{says_sound}
use Rattle.shelf_contracts.specs.Promises.{Puts}
use Rattle.shelf_summary.specs.Steps.{shelved_of}
use Rattle.shelf.proofs.put_on.Goals as goal

pub store_head-requires : goal.store_head-requires
store_head-requires c = omega (arith, ((says_sound version_two c.args.s.now).0 c.requires.0).least)

pub returns : goal.returns
returns c = subst (λ (ys : List ℕ). Puts version_two c.args.s.now c.args.input.now (shelved_of c.put_lent-placed.result) ys) (sym c.store_head.ensures) c.put_lent-placed.ensures.0
