-- Request 2026-02, a file gone through piece by piece: what is promised of where its first piece ends and why there, for all files. Each
-- field is a theorem; `proofs/Theorems.antt` proves the record. Assumes nothing.
use Rattle.std.specs.Prelude.{ℕ, ◌≤◌, ◌<◌, ◌≡◌, false, List, [], ◌∷◌, length, take, drop}
use Rattle.std.proofs.Math.Option.{none, some}
use Rattle.refusals.specs.declared.Refusal.{Refusal}
use Rattle.refusals.specs.Refusals.{number, answering}
use Rattle.values.specs.Tokens.{Segment}
use Rattle.stages.specs.Stages.{stages_in, refusal_of}
use Rattle.operations.specs.Compare.{is_accepted}
use Rattle.mailbox_files.specs.Pieces.{unz_of, piece_end, pieces}
use Rattle.mailbox_files.specs.Stops.{stop_of}

pub record PieceEnds : Type 0 where
  -- the first piece lies in the file, and is not empty where the file is not: a walk from piece to piece ends
  pub within : (file : List ℕ) → piece_end file ≤ length file
  pub moves_on : (file : List ℕ) → 0 < length file → 0 < piece_end file
  -- and it goes through the list of pieces: the first, and then those of what is left
  pub first : (file : List ℕ) → 0 < length file → pieces file ≡ take (piece_end file) file ∷ pieces (drop (piece_end file) file)
  -- what no UNZ ends is "the rest": all of the file, and refused
  pub rest_whole : (file : List ℕ) → unz_of file ≡ none → piece_end file ≡ length file
  pub rest_refused : (file : List ℕ) → unz_of file ≡ none → is_accepted file ≡ false
  -- nothing stops the cutting of a file of no bytes, or where a UNZ ends the piece
  pub nothing_unstopped : stop_of [] ≡ none
  pub unz_unstopped : (file : List ℕ) (unz : Segment) → unz_of file ≡ some unz → stop_of file ≡ none
  -- what stops it is "a fault 2 to 6"
  pub stop_numbered : (file : List ℕ) (r : Refusal) → stop_of file ≡ some r → (2 ≤ number r.fault) × (number r.fault ≤ 6)
  -- Judge says the same of the rest, with its place, unless the rest is too long for Judge
  pub stop_judged : (file : List ℕ) (r : Refusal) → stop_of file ≡ some r → length file ≤ 32000 → refusal_of file ≡ some r
  -- where neither ends it, the rest meets none of 2 to 6: "the file's end"
  pub ends_file : (file : List ℕ) → 0 < length file → unz_of file ≡ none → stop_of file ≡ none → answering (stages_in file 2 6) ≡ none
