-- What stages 2 and 3 answer, by the tests that they make. Assumes nothing.
use Rattle.std.specs.Prelude.{if◌then◌else◌, Ok, Err}
use Prim.Native.Nat.{ℕ}
use mathlib.Core.Path.{◌≡◌, refl, sym, ap, ◌∙◌}
use mathlib.Core.Bool.{Bool, true, false, not}
use mathlib.Core.List.{List, [], ◌∷◌}
use mathlib.Core.Option.{Option, none, some}
use Rattle.lists.specs.Lists.{all, those, maybe}
use Rattle.characters.specs.declared.Characters.{Characters}
use Rattle.characters.specs.Characters.{characters_of, body_start, bad_advice, opens}
use Rattle.refusals.specs.declared.Fault.TheVariants.{UnusableAdvice, NoOpening}
use Rattle.refusals.specs.declared.Refusal.{Refusal}
use Rattle.refusals.specs.Refusals.{met, answering}
use Rattle.refusals.proofs.Stages.{one_place}
use Rattle.segments.specs.declared.Section.TheVariants.{None}
use Rattle.segments.specs.declared.Walk.{Walk}
use Rattle.segments.specs.Order.{walk_over}
use Rattle.stages.specs.Places.{unusable_advice, no_opening}
use Rattle.stages.specs.Stages.{places_of, brackets, brackets_in, bracketed, stages_in}
use Rattle.stage_opening.specs.Runs.{found_by, progress}

module _ (s : List ℕ) where
  -- the refusal of the first test that refuses, if any
  asked : {bad opening : Bool} → bad_advice s ≡ bad → opens s ≡ opening → answering (stages_in s 2 3)
      ≡ (if bad then some (record { fault = UnusableAdvice; place = 0 }) else (if not opening then some (record { fault = NoOpening; place = body_start s }) else none))
  unfolding stages_in brackets_in brackets those all bracketed places_of unusable_advice no_opening answering
  asked {bad} e d =
      one_place UnusableAdvice 0 (met NoOpening (no_opening s) ∷ []) e
      ∙ ap (λ (o : Option Refusal). if bad then some (record { fault = UnusableAdvice; place = 0 }) else o)
      (one_place NoOpening (body_start s) [] (ap not d))

  answers : {o : Option Refusal} → answering (stages_in s 2 3) ≡ o → maybe (Ok (found_by 3 s)) Err o ≡ progress 2 3 s
  unfolding progress
  answers e = sym (ap (maybe (Ok (found_by 3 s)) Err) e)

  pub opening_unusable : bad_advice s ≡ true → Err (record { fault = UnusableAdvice; place = 0 }) ≡ progress 2 3 s
  unfolding maybe
  opening_unusable e = answers (asked e refl)

  pub opening_missing : {start : ℕ} → bad_advice s ≡ false → opens s ≡ false → start ≡ body_start s
      → Err (record { fault = NoOpening; place = start }) ≡ progress 2 3 s
  unfolding maybe
  opening_missing e d p = ap (λ (n : ℕ). Err (record { fault = NoOpening; place = n })) p ∙ answers (asked e d)

  pub opening_passed : {c : Characters} {start : ℕ} {walk : Walk} → bad_advice s ≡ false → opens s ≡ true → c ≡ characters_of s
      → start ≡ body_start s → walk ≡ walk_over None []
      → Ok (record { characters = c; start = start; level = 0; walk = walk }) ≡ progress 2 3 s
  unfolding maybe found_by
  opening_passed e d h p w = cc (answers (asked e d))
