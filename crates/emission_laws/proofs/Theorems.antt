-- The theorems, for a body that was read with some characters and is spelled with others. Assumes nothing.
use Prim.Native.Nat.{ℕ, ◌*◌, ◌≤◌}
use native.Mathlib.Omega.{arith}
use mathlib.Core.Path.{◌≡◌, ap}
use mathlib.Core.Bool.{false}
use mathlib.Core.List.{List, map}
use lib.ListN.{length}
use Rattle.characters.specs.declared.Characters.{Characters}
use Rattle.values.specs.Tokens.{tokens, segments}
use Rattle.values.specs.Values.{ends_inside}
use Rattle.values.specs.Trimming.{contents_of}
use Rattle.values.specs.Spelling.{spell}
use Rattle.emission_laws.specs.Emission.{nothing, emitted}
use Rattle.emission_laws.proofs.Cases.{reading_known}
use Rattle.emission_laws.proofs.Steps.{at_most_twice}
use Rattle.emission_laws.proofs.Spelled.{spelled_emitted}

module _ (c d : Characters) (place : ℕ) (body : List ℕ) (whole : ends_inside (tokens d place body) ≡ false) where
  -- the contents, spelled, are what the machine emits
  pub contents_emitted : spell c (map contents_of (segments (tokens d place body))) ≡ emitted c nothing (tokens d place body)
  contents_emitted = spelled_emitted c (tokens d place body) whole (reading_known d place body)

  -- "For n input bytes it has at most 2n + 9", of which 9 are the advice's
  pub contents_bound : length (spell c (map contents_of (segments (tokens d place body)))) ≤ 2 * length body
  contents_bound = omega (arith, ap length contents_emitted, at_most_twice c d place body)
