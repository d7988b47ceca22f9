-- Request 2026-08: what the second Judge promises of its answer, for any bytes lent as a table and any input. Both are lent to be read: no
-- byte of them changes. Assumes nothing.
use Rattle.std.specs.Prelude.{ℕ, ◌≡◌, List}
use Rattle.answers.specs.Answers.{told_judged, Judged}
use Rattle.message_structures.specs.Judging.{judge_by_table}

abbrev pub JudgesByTable : (table s : List ℕ) → Judged → Type 0
JudgesByTable table s r = told_judged r ≡ judge_by_table table s
