-- Request 2026-08: "A second Judge is lent it". Assumes nothing.
use Rattle.std.specs.Prelude.{ℕ, List, ◌∷◌, ◌++◌}
use Rattle.std.proofs.Math.Option.{Option}
use Rattle.lists.specs.Lists.{maybe}
use Rattle.refusals.specs.declared.Fault.TheVariants.{UnsoundTable, UnmatchedBody}
use Rattle.refusals.specs.declared.Refusal.{Refusal}
use Rattle.refusals.specs.Refusals.{Stage, met, answering}
use Rattle.stages.specs.Stages.{stages_in}
use Rattle.answers.specs.Answers.{Answer, refused, accepted}
use Rattle.operations.specs.Judge.{figures_of}
use Rattle.message_tables.specs.Soundness.{table_faults}
use Rattle.message_structures.specs.Bodies.{unmatched_bodies}

module _ (table s : List ℕ) where
  -- "before all else 21 ..; after 12 and before 13, 22"
  unfoldable pub structure_stages : List Stage
  structure_stages =
      met UnsoundTable (table_faults table) ∷ (stages_in s 1 12 ++ met UnmatchedBody (unmatched_bodies table s) ∷ stages_in s 13 13)

  unfoldable pub structure_refusal : Option Refusal
  structure_refusal = answering structure_stages

  -- it answers as Judge does where nothing is refused
  unfoldable pub judge_by_table : Answer
  judge_by_table = maybe (accepted (figures_of s)) refused structure_refusal
