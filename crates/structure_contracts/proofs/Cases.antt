-- What the contract allows, case by case. Assumes nothing.
use Rattle.std.specs.Prelude.{Ok, Err}
use Prim.Native.Nat.{ℕ, ◌≤◌}
use mathlib.Core.Path.{◌≡◌, ◌∙◌}
use mathlib.Core.List.{List, [], Memᴰ}
use mathlib.Core.Option.{none}
use Rattle.refusals.specs.declared.Fault.TheVariants.{UnsoundTable, UnmatchedBody}
use Rattle.refusals.specs.Refusals.{answering}
use Rattle.stages.specs.Stages.{stages_in, refusal_of}
use Rattle.answers.specs.Answers.{told_judged, Judged}
use Rattle.operations.specs.Judge.{figures_of}
use Rattle.operations.proofs.Cases.{judge_is}
use Rattle.contracts.proofs.Told.{judged_tells}
use Rattle.message_tables.specs.Soundness.{table_faults}
use Rattle.message_structures.specs.Bodies.{unmatched_bodies}
use Rattle.message_structures.proofs.Answered.{unsound_answers, unmatched_answers, matched_answers}
use Rattle.structure_contracts.specs.Promises.{JudgesByTable}

-- 21, 22, and Judge's figures
pub judges_by_table : (table s : List ℕ) (r : Judged) → JudgesByTable table s r
    → ((n : ℕ) → Memᴰ n (table_faults table) → ((q : ℕ) → Memᴰ q (table_faults table) → n ≤ q)
    → r ≡ Err (record { fault = UnsoundTable; place = n }))
    × ((p : ℕ) → table_faults table ≡ [] → answering (stages_in s 1 12) ≡ none → Memᴰ p (unmatched_bodies table s)
    → ((q : ℕ) → Memᴰ q (unmatched_bodies table s) → p ≤ q) → r ≡ Err (record { fault = UnmatchedBody; place = p }))
    × (table_faults table ≡ [] → ((p : ℕ) → Memᴰ p (unmatched_bodies table s) → ⊥) → refusal_of s ≡ none → r ≡ Ok (figures_of s))
unfolding told_judged
judges_by_table table s r h = (
  λ n m low. judged_tells r (Err (record { fault = UnsoundTable; place = n })) (h ∙ unsound_answers table s n m low),
  λ p sound e m low.
      judged_tells r (Err (record { fault = UnmatchedBody; place = p })) (h ∙ unmatched_answers table s p sound e m low),
  λ sound matched e. judged_tells r (Ok (figures_of s)) (h ∙ matched_answers table s sound matched ∙ (judge_is s).0 e),
)
