-- What a stage leaves of what was found before it, what the quick way promises, and what Judge answers. Assumes nothing.
use Rattle.refusals.specs.Refusals.{answering, Outcome}
use Rattle.answers.specs.Answers.{Judged}
use Rattle.std.specs.Prelude.{ℕ, ◌≡◌, List, Option as Perhaps, Some, None, Ok, Err}
use Rattle.std.proofs.Math.Option.{Option, none}
use Rattle.lists.specs.Lists.{maybe}
use Rattle.refusals.specs.declared.Refusal.{Refusal}
use Rattle.stage_opening.specs.declared.Found.{Found}
use Rattle.stages.specs.Stages.{stages_in}
use Rattle.stage_opening.specs.Runs.{found_by, progress as run_of, Progress}
use Rattle.operations.specs.Judge.{figures_of}

-- what was found before a stage that passes, or its refusal
unfoldable pub after : Found → Outcome → Progress
after found (Ok _) = Ok found
after found (Err r) = Err r

-- 1 to 12 pass the input, and find this of it
abbrev pub Passed : List ℕ → Found → Type 0
Passed s found = (answering (stages_in s 1 12) ≡ none) × (found ≡ found_by 12 s)

-- the interchange is accepted, or the refusal answers
unfoldable pub judged : List ℕ → Option Refusal → Judged
judged s refusal = maybe (Ok (figures_of s)) Err refusal

-- what the quick way promises: where it tells something, that is what the stages 1 to 12 find, or their refusal
abbrev pub Quickly : List ℕ → Perhaps Progress → Type 0
Quickly s (Some told) = told ≡ run_of 1 12 s
Quickly s None = Unit {0}
