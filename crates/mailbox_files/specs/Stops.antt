-- Request 2026-02: what stops the cutting before a UNZ. Assumes nothing.
use Rattle.std.specs.Prelude.{ℕ, List, if◌then◌else◌}
use Rattle.std.proofs.Math.Option.{Option, none}
use Rattle.lists.specs.Lists.{is_empty, maybe}
use Rattle.refusals.specs.declared.Refusal.{Refusal}
use Rattle.refusals.specs.Refusals.{answering}
use Rattle.stages.specs.Stages.{stages_in}
use Rattle.mailbox_files.specs.Pieces.{unz_of}

-- "Where the cutting meets a fault 2 to 6 .. before a UNZ": the one that answers for the rest. None where a UNZ ends the piece, or "the
-- file's end" comes first; none where there is no byte: "A file of no bytes has no pieces."
unfoldable pub stop_of : List ℕ → Option Refusal
stop_of rest = if is_empty rest then none else maybe (answering (stages_in rest 2 6)) (λ unz. none) (unz_of rest)
