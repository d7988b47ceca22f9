-- A text has no more tokens than bytes, but for a stray release character at its end. Assumes nothing.
use Prim.Native.Nat.{ℕ, ◌+◌, ◌≤◌}
use mathlib.Core.List.{List}
use native.Mathlib.Omega.{arith}
use lib.ListN.{length, drop, length-drop}
use Rattle.characters.specs.declared.Characters.{Characters}
use Rattle.values.specs.Tokens.{inside, tokens, tokens_at}
use Rattle.emission_laws.proofs.Cases.{of_reading}

pub tokens_few : (c : Characters) (s : List ℕ) (start : ℕ) → length (tokens_at c s start) ≤ length s + 1
unfolding tokens_at tokens
tokens_few c s start =
    omega (
      arith,
      of_reading (λ n ts. length ts ≤ n + 1) (omega arith) (λ from. omega arith) (λ n t ts h p. omega (arith, p)) (λ n ts p. omega (arith, p)) c inside start
          (drop start s),
      length-drop start s,
    )
