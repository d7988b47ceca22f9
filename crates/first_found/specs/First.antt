-- What holds of each byte before the first at which something is found. Assumes nothing.
use Rattle.std.specs.Prelude.{ℕ, ◌+◌, ◌≤◌, ◌<◌}

-- of each place from one on and before another, unless so many come before it
abbrev pub Upto : (holds : ℕ → Type 0) (from at first : ℕ) → Type 0
Upto holds from at first = (k : ℕ) → from ≤ k → k < at → k < from + first → holds k
