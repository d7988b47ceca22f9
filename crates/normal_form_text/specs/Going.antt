-- How a part of a body is put with one spelling, step by step. Assumes nothing.
use Rattle.std.specs.Prelude.{ℕ, ◌+◌, ◌*◌, ◌≤◌, ◌≡◌, ◌&&◌, List, length}
use Rattle.refusals.specs.Limits.{most_bytes}
use Rattle.ordinary_runs.specs.Runs.{quiet}
use Rattle.stretches.specs.declared.Reached.{Reached}
use Rattle.normal_form_text.specs.declared.Spelling.{Spelling}
use Rattle.normal_form_text.specs.Measured.{Further}
use Rattle.normal_form_text.specs.Put.{Fits, Put}

-- From a place on it may be put: the input is short; the text so far has two bytes at most for each byte passed, and those of the advice;
-- `calm` tells what it is to tell; and there is room.
abbrev pub Starts : (room : List ℕ → ℕ) → Spelling → List ℕ → List ℕ → Reached → Type 0
Starts room by s buffer from =
    (length s ≤ most_bytes)
    × (from.at ≤ length s)
    × (from.total ≤ 9 + 2 * from.at)
    × (by.calm ≡ (quiet by.c && quiet by.n))
    × Fits room by.c by.n s buffer from

-- up to a place it is put, and something is passed, unless nothing is left
abbrev pub Goes : (holds : List ℕ → ℕ → List ℕ → List ℕ) (room : List ℕ → ℕ) → Spelling → (s buffer put : List ℕ) (from r : Reached) → Type 0
Goes holds room by s buffer put from r = Put holds room by.c by.n s buffer put from r × Further s from r
