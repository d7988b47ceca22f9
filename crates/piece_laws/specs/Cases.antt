-- Files written out, with what ends their first piece. Assumes nothing.
use Rattle.std.specs.Prelude.{ℕ, Bool, ◌&&◌, List, [], ◌∷◌, ◌++◌, take, eqb}
use Rattle.lists.specs.Lists.{text, same, maybe}
use Rattle.refusals.specs.Refusals.{number}
use Rattle.starred_cases.specs.Cases.{x, respelled}
use Rattle.mailbox_files.specs.Pieces.{unz_of, piece_end}
use Rattle.mailbox_files.specs.Stops.{stop_of}

pub record Row : Type 0 where
  pub file : List ℕ
  -- where the first piece ends; 1 where a UNZ ends it; the number and the place of what stops the cutting
  pub end : ℕ
  pub ended : ℕ
  pub stop : List ℕ

abbrev row : List ℕ → ℕ → ℕ → List ℕ → Row
row file end ended stop = record { file = file; end = end; ended = ended; stop = stop }

-- a carriage return and a line feed
abbrev new_line : List ℕ
new_line = 13 ∷ 10 ∷ []

unfoldable pub rows : List Row
rows =
    -- "A file of no bytes has no pieces."
    row [] 0 0 []
    -- an interchange, two end to end, breaks between them and behind: UNZ and its breaks end the first
    ∷ row x 84 1 []
    ∷ row (x ++ x) 84 1 []
    ∷ row (x ++ new_line ++ new_line ++ x ++ new_line) 88 1 []
    ∷ row (respelled "UNA;*.! ~" ++ x) 92 1 []
    -- whatever Judge says of it
    ∷ row (text "UNB+UNOC'UNZ'" ++ x) 13 1 []
    -- a fault behind the UNZ is not met
    ∷ row (x ++ text "?") 84 1 []
    -- a stray byte in front: all that follows with it
    ∷ row (text "?" ++ x) 85 0 (3 ∷ 0 ∷ [])
    ∷ row (new_line ++ x) 86 0 (3 ∷ 0 ∷ [])
    -- a bad advice, and one that is cut short; an advice and breaks with no UNB behind
    ∷ row (text "UNA:+.?A'" ++ x) 93 0 (2 ∷ 0 ∷ [])
    ∷ row (text "UNA:+.") 6 0 (2 ∷ 0 ∷ [])
    ∷ row (text "UNA:+.? '" ++ new_line ++ text "UNH'") 15 0 (3 ∷ 11 ∷ [])
    -- a stray release character, a broken tag, a segment with no end: the first in the file, before a UNZ or in it
    ∷ row (text "UNB+UNOA:1+A?A'" ++ x) 99 0 (4 ∷ 12 ∷ [])
    ∷ row (text "UNB+UNOA:1'bgm'" ++ x) 99 0 (6 ∷ 11 ∷ [])
    ∷ row (text "UNB+UNOA:1'bgm'BGM+?A'" ++ x) 106 0 (6 ∷ 11 ∷ [])
    ∷ row (take 83 x) 83 0 (5 ∷ 83 ∷ [])
    ∷ row (text "UNB+UNOA:1'UNZ:1'" ++ x) 101 0 (6 ∷ 11 ∷ [])
    -- the file's end, at which none of them is met
    ∷ row (take 75 x) 75 0 []
    ∷ row (text "UNB+UNOC'" ++ new_line) 11 0 []
    ∷ []

-- the number and the place, if anything stops it
unfoldable pub told : List ℕ → List ℕ
told file = maybe [] (λ r. number r.fault ∷ r.place ∷ []) (stop_of file)

unfoldable pub right : Row → Bool
right r = eqb (piece_end r.file) r.end && eqb (maybe 0 (λ unz. 1) (unz_of r.file)) r.ended && same (told r.file) r.stop
