-- `storing::put_advice` meets its contract: the nine stores are the advice's nine bytes. Assumes nothing.
use mathlib.Core.Path.{refl}
use native.Mathlib.Omega.{arith}
use lib.ListN.{length-set}
use Rattle.characters.specs.Characters.{advice_of, spelled_out}
use Rattle.storing.proofs.put_advice.Goals as goal

pub bounds-buffer-1 : goal.bounds-buffer-1
bounds-buffer-1 c = simp length-set (omega arith)

pub bounds-buffer-2 : goal.bounds-buffer-2
bounds-buffer-2 c = simp length-set (omega arith)

pub bounds-buffer-3 : goal.bounds-buffer-3
bounds-buffer-3 c = simp length-set (omega arith)

pub bounds-buffer-4 : goal.bounds-buffer-4
bounds-buffer-4 c = simp length-set (omega arith)

pub bounds-buffer-5 : goal.bounds-buffer-5
bounds-buffer-5 c = simp length-set (omega arith)

pub bounds-buffer-6 : goal.bounds-buffer-6
bounds-buffer-6 c = simp length-set (omega arith)

pub bounds-buffer-7 : goal.bounds-buffer-7
bounds-buffer-7 c = simp length-set (omega arith)

pub returns : goal.returns
unfolding advice_of spelled_out
returns c = refl
