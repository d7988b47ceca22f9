-- `storing::is_service` meets its contract: where there is no repetition separator, none is asked for, and so the release character. Assumes nothing.
use Rattle.std.specs.Prelude.{if◌then◌else◌}
use Prim.Native.Nat.{ℕ}
use mathlib.Core.Path.{◌≡◌, refl, sym, ap}
use mathlib.Core.Bool.{Bool, true, false, not, ◌&&◌, ◌||◌, or-false}
use mathlib.Core.List.{[], ◌∷◌, ◌++◌}
use lib.Dec.{eqb}
use Rattle.lists.specs.Lists.{member}
use Rattle.characters.specs.Characters.{is_service, service_characters, has_repetition, has_release}
use Rattle.storing.proofs.is_service.Goals as goal

pub returns : goal.returns
unfolding is_service service_characters has_repetition has_release member
returns c =
    let chars = c.args.c in
    let b = c.args.b in
    ap (λ (t : Bool). eqb b chars.component || (eqb b chars.element || (eqb b chars.terminator || t)))
    (step (not (eqb chars.repetition 32)) (not (eqb chars.release 32)) b chars.repetition chars.release)
  where
    step : (t u : Bool) (b p r : ℕ) → (t && eqb b p || u && eqb b r) ≡ member b ((if t then p ∷ [] else []) ++ (if u then r ∷ [] else []))
    step true true b p r = ap (λ (v : Bool). eqb b p || v) (sym (or-false (eqb b r)))
    step true false b p r = refl
    step false true b p r = sym (or-false (eqb b r))
    step false false b p r = refl
