-- What an acknowledgement promises to whoever prints it. Assumes nothing.
use Rattle.answers.specs.Answers.{Stored}
use Rattle.std.specs.Prelude.{ℕ, ◌≤◌, List, length, Ok, Err}

-- the text lies within the buffer
abbrev pub Fitting : Stored → List ℕ → Type 0
Fitting (Ok n) buffer = n ≤ length buffer
Fitting (Err refusal) buffer = Unit {0}
