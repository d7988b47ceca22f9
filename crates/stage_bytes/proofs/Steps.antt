-- One step of the walk over the level, for each token. Assumes nothing.
use Rattle.std.specs.Prelude.{if◌then◌else◌}
use Prim.Native.Nat.{ℕ}
use mathlib.Core.Path.{◌≡◌, ap, ◌∙◌}
use mathlib.Core.Bool.{Bool}
use mathlib.Core.List.{List, [], ◌∷◌}
use mathlib.Core.Option.{none}
use Rattle.refusals.specs.declared.Fault.TheVariants.{OutsideLevel}
use Rattle.values.specs.Tokens.{Token, byte, separator, fault}
use Rattle.levels.specs.Levels.{in_level}
use Rattle.stage_walks.specs.Walks.{refuse, leveled}

module _ (level : ℕ) {ts rest : List Token} where
  pub level_byte : {b from place : ℕ} {t : Bool} → ts ≡ byte b from place ∷ rest → in_level level b ≡ t
      → leveled level ts ≡ (if t then leveled level rest else refuse OutsideLevel place)
  unfolding leveled
  level_byte {b} {from} {place} e h =
      ap (leveled level) e ∙ ap (λ (t : Bool). if t then leveled level rest else refuse OutsideLevel place) h

  pub level_separator : {rank place : ℕ} → ts ≡ separator rank place ∷ rest → leveled level ts ≡ leveled level rest
  unfolding leveled
  level_separator e = ap (leveled level) e

  pub level_fault : {place : ℕ} → ts ≡ fault place ∷ rest → leveled level ts ≡ leveled level rest
  unfolding leveled
  level_fault e = ap (leveled level) e

pub level_end : (level : ℕ) {ts : List Token} → ts ≡ [] → leveled level ts ≡ none
unfolding leveled
level_end level e = ap (leveled level) e
