-- Two results that the contract allows are equal. The field is a theorem; `proofs/Tight.antt` proves the record. Assumes nothing.
use Rattle.answers.specs.Answers.{Judged}
use Rattle.std.specs.Prelude.{ℕ, ◌≡◌, List}
use Rattle.structure_contracts.specs.Promises.{JudgesByTable}

pub record Tight : Type 0 where
  pub judge_by_table_lem : (table s : List ℕ) (r q : Judged) → JudgesByTable table s r → JudgesByTable table s q → r ≡ q
