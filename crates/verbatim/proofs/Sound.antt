-- Where no fault 4 lies in what is read and no byte of a value below the space, none does after the first token. Assumes nothing.
use Prim.Native.Nat.{ℕ}
use mathlib.Core.Path.{◌≡◌, sym, ap, ◌∙◌}
use mathlib.Core.Bool.{not}
use mathlib.Core.List.{List, ◌∷◌}
use Rattle.lists.specs.Lists.{all}
use Rattle.lists.proofs.Texts.{and_right}
use Rattle.characters.specs.declared.Characters.{Characters}
use Rattle.values.specs.Tokens.{Token, tokens_at}
use Rattle.values.specs.Values.{is_fault}
use Rattle.verbatim.specs.Verbatim.{faultless, is_visible, visible, Sound}

pub sound_next : (c : Characters) (s : List ℕ) (at next : ℕ) {t : Token} → tokens_at c s at ≡ t ∷ tokens_at c s next → Sound c s at → Sound c s next
unfolding faultless visible all
sound_next c s at next {t} e (good, seen) = (
  and_right (not (is_fault t)) (faultless (tokens_at c s next)) (sym (ap faultless e) ∙ good),
  and_right (is_visible t) (visible (tokens_at c s next)) (sym (ap visible e) ∙ seen),
)
