-- Two results that the contract allows are equal. Assumes nothing.
use mathlib.Core.Path.{sym, ◌∙◌}
use Rattle.contracts.proofs.Told.{judged_tells}
use Rattle.structure_contracts.specs.Tight.{Tight}

pub tight : Tight
tight = record { judge_by_table_lem = λ table s r q h k. judged_tells r q (h ∙ sym k) }
