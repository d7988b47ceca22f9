-- Where every byte is in the level, every byte of every value is. Assumes nothing.
use Rattle.std.specs.Prelude.{if◌then◌else◌}
use Prim.Native.Nat.{ℕ, ◌+◌}
use mathlib.Core.Path.{◌≡◌, refl, ◌∙◌}
use mathlib.Core.Bool.{Bool, true, false}
use mathlib.Core.List.{List, [], ◌∷◌}
use mathlib.Core.Option.{none}
use lib.ListN.{drop}
use Rattle.lists.specs.Lists.{all}
use Rattle.lists.proofs.Texts.{and_left, and_right, if_true}
use Rattle.characters.specs.declared.Characters.{Characters}
use Rattle.characters.specs.declared.Role.{Role}
use Rattle.characters.specs.declared.Role.TheVariants.{Separator, Release, Plain}
use Rattle.characters.specs.Characters.{role, is_break}
use Rattle.refusals.specs.declared.Fault.TheVariants.{OutsideLevel}
use Rattle.values.specs.Tokens.{Token, byte, Reading, inside, released, passing, unreleased, reading, taken, tokens_from, tokens, tokens_at}
use Rattle.levels.specs.Levels.{in_level}
use Rattle.stage_walks.specs.Walks.{refuse, leveled}

module _ (c : Characters) (level : ℕ) where
  -- a byte that is in the level, in front of tokens that are
  pub passes : (b from place : ℕ) (ts : List Token) → in_level level b ≡ true → leveled level ts ≡ none → leveled level (byte b from place ∷ ts) ≡ none
  unfolding leveled
  passes b from place ts h e = if_true (in_level level b) (leveled level ts) (refuse OutsideLevel place) h ∙ e

  unreleased_inside : (r : Role) (b place : ℕ) (ts : List Token) → in_level level b ≡ true → leveled level ts ≡ none
      → leveled level (unreleased r b place ts) ≡ none
  unfolding leveled unreleased
  unreleased_inside (Separator rank) b place ts h e = e
  unreleased_inside Release b place ts h e = e
  unreleased_inside Plain b place ts h e = passes b place place ts h e

  taken_inside : (r : Role) (b from place : ℕ) (ts : List Token) → in_level level b ≡ true → leveled level ts ≡ none
      → leveled level (taken r b from place ts) ≡ none
  unfolding leveled taken
  taken_inside (Separator rank) b from place ts h e = passes b from place ts h e
  taken_inside Release b from place ts h e = passes b from place ts h e
  taken_inside Plain b from place ts h e = e

  from_inside : (bs : List ℕ) (state : Reading) (place : ℕ) → all (in_level level) bs ≡ true → leveled level (tokens_from c state place bs) ≡ none
  unfolding leveled tokens_from all
  from_inside [] inside place h = refl
  from_inside [] (released from) place h = refl
  from_inside [] passing place h = refl
  from_inside (b ∷ bs) inside place h =
      unreleased_inside (role c b) b place _
      (and_left (in_level level b) (all (in_level level) bs) h)
      (from_inside bs (reading (role c b) place) (place + 1) (and_right (in_level level b) (all (in_level level) bs) h))
  from_inside (b ∷ bs) (released from) place h =
      taken_inside (role c b) b from place _
      (and_left (in_level level b) (all (in_level level) bs) h)
      (from_inside bs inside (place + 1) (and_right (in_level level b) (all (in_level level) bs) h))
  from_inside (b ∷ bs) passing place h =
      step (is_break b) (tokens_from c passing (place + 1) bs) (unreleased (role c b) b place (tokens_from c (reading (role c b) place) (place + 1) bs))
      (from_inside bs passing (place + 1) (and_right (in_level level b) (all (in_level level) bs) h))
      (unreleased_inside (role c b) b place (tokens_from c (reading (role c b) place) (place + 1) bs)
      (and_left (in_level level b) (all (in_level level) bs) h)
      (from_inside bs (reading (role c b) place) (place + 1) (and_right (in_level level b) (all (in_level level) bs) h)))
    where
      step : (t : Bool) (ts us : List Token) → leveled level ts ≡ none → leveled level us ≡ none → leveled level (if t then ts else us) ≡ none
      step true ts us p q = p
      step false ts us p q = q

  pub all_leveled : (s : List ℕ) (start : ℕ) → all (in_level level) (drop start s) ≡ true → leveled level (tokens_at c s start) ≡ none
  unfolding tokens_at tokens
  all_leveled s start h = from_inside (drop start s) inside start h
