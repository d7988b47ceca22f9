-- How the morning figures of a mailbox file are laid out in the struct that crosses to C: a number 0 and the figures; or the refusal's number
-- and place, and figures that are all 0. And how the first piece of a file ends. Assumes nothing.
use Rattle.std.specs.Prelude.{ℕ, ◌+◌, List, take, drop, eqb, if◌then◌else◌}
use Rattle.lists.specs.Lists.{maybe}
use Rattle.refusals.specs.Refusals.{number}
use Rattle.answers.specs.Answers.{Answer}
use Rattle.surface.specs.Verdicts.{value}
use Rattle.mailbox_files.specs.Pieces.{unz_of, piece_end}
use Rattle.mailbox_files.specs.Stops.{stop_of}
use Rattle.mailbox_files.specs.declared.Report.{Report}
use Rattle.pieces.specs.declared.Ending.{Ending}
use Rattle.pieces.specs.declared.Ending.TheVariants.{AfterUnz, Stopped, FileEnd}
use Rattle.surface.specs.declared.MorningFigures.{MorningFigures}
use Rattle.surface.specs.declared.PieceEnd.{PieceEnd}

-- the figures, of which the first is the answer's value at a number: "refusals indexed by their number"
unfoldable pub figures_from : ℕ → (place : ℕ) → Answer → MorningFigures
figures_from first place a =
    record {
      number = a.number;
      accepted = value first a;
      refused = take 14 (drop (first + 1) a.values);
      segments = value (first + 15) a;
      messages = value (first + 16) a;
      place = place;
      total = value (first + 17) a;
      longest = value (first + 18) a;
    }

-- what the report is in a struct
unfoldable pub morning_of : Answer → MorningFigures
morning_of a = if eqb a.number 0 then figures_from 0 0 a else figures_from 1 (value 0 a) a

-- the figures of a report, beside a number and a place
unfoldable pub beside : (number place : ℕ) → Report → MorningFigures
beside number place r =
    record {
      number = number;
      accepted = r.accepted;
      refused = r.refused;
      segments = r.segments.0;
      messages = r.messages.0;
      place = place;
      total = r.total;
      longest = r.longest;
    }

-- ---- the first piece

-- 1 where "its first UNZ segment" ends it; what stops the cutting before a UNZ, or 0 and 0; and where the piece ends
unfoldable pub piece_end_of : List ℕ → PieceEnd
piece_end_of file =
    record {
      number = maybe 0 (λ r. number r.fault) (stop_of file);
      ended = maybe 0 (λ unz. 1) (unz_of file);
      place = maybe 0 (λ r. r.place) (stop_of file);
      end = piece_end file;
    }

-- how a piece of a file of so many bytes ends, laid out
unfoldable pub laid_ending : ℕ → Ending → PieceEnd
laid_ending size (AfterUnz end) = record { number = 0; ended = 1; place = 0; end = end }
laid_ending size (Stopped r) = record { number = number r.fault; ended = 0; place = r.place; end = size }
laid_ending size FileEnd = record { number = 0; ended = 0; place = 0; end = size }
