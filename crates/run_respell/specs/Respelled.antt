-- What the respelling of an input promises. Assumes nothing.
use Rattle.std.specs.Prelude.{ℕ, ◌≤◌, List, length, Result, Ok, Err}
use Rattle.run_respell.specs.declared.Unwritten.{Unwritten}

-- how long the text is that was written, or what refused
abbrev pub Respelled : Type 0
Respelled = Result ℕ Unwritten

-- the text that was written lies within the buffer
abbrev pub Fitting : Respelled → List ℕ → Type 0
Fitting (Ok n) buffer = n ≤ length buffer
Fitting (Err refused) buffer = Unit {0}
