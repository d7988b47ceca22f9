-- The theorems on how the first piece of a file ends. Assumes nothing.
use Prim.Native.Nat.{ℕ}
use mathlib.Core.Path.{◌≡◌, ap}
use mathlib.Core.List.{List}
use mathlib.Core.Option.{none}
use lib.ListN.{length}
use Rattle.lists.specs.Lists.{maybe}
use Rattle.mailbox_files.specs.Pieces.{end_behind, unz_of, piece_end}
use Rattle.mailbox_files.proofs.Pieces.{end_within, pieces_first}
use Rattle.mailbox_files.proofs.Stops.{no_byte, stop_answers, unz_none, none_answers, judged, cut_number}
use Rattle.mailbox_file_laws.proofs.Cuts.{unending}
use Rattle.mailbox_file_laws.proofs.Theorems as files
use Rattle.piece_laws.specs.PieceEnds.{PieceEnds}

all_of_it : (file : List ℕ) → unz_of file ≡ none → piece_end file ≡ length file
unfolding piece_end maybe
all_of_it file h = ap (maybe (length file) (end_behind file)) h

pub piece_ends : PieceEnds
piece_ends =
    record {
      within = λ file. (end_within file).0;
      moves_on = λ file. (end_within file).1;
      first = pieces_first;
      rest_whole = all_of_it;
      rest_refused = λ file h. (files.mailbox_files).rest_refused file (unending file h);
      nothing_unstopped = no_byte;
      unz_unstopped = unz_none;
      stop_numbered = λ file r h. cut_number file r (stop_answers file r h);
      stop_judged = λ file r h l. judged file r l (stop_answers file r h);
      ends_file = none_answers;
    }
