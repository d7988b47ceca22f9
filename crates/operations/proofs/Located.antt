-- What Locate answers, and which part its companion hands back. Assumes nothing.
use Prim.Native.Nat.{ℕ}
use mathlib.Core.Path.{◌≡◌, refl, sym, ap, ap₂, ◌∙◌}
use mathlib.Core.List.{List, [], ◌∷◌}
use mathlib.Core.Option.{Option, none, some}
use lib.ListN.{take, drop}
use Rattle.lists.specs.Lists.{maybe}
use Rattle.refusals.specs.declared.Refusal.{Refusal}
use Rattle.values.specs.Values.{Value}
use Rattle.stages.specs.Stages.{refusal_of}
use Rattle.answers.specs.Answers.{Answer, given, refused}
use Rattle.operations.specs.Locate.{located, locate, part_offset, part_length, part}
use Rattle.operations.proofs.Answered.{part_in, part_told}

-- what is answered, of a refusal of the input and of what is located
abbrev answer : Option Refusal → Option Value → Answer
answer o found = maybe (maybe (given []) (λ v. given (v.offset ∷ v.spelled ∷ [])) found) refused o

module _ (s : List ℕ) (segment element repeat component : ℕ) where
  abbrev found : Option Value
  found = located s segment element repeat component

  pub locate_refused : {r : Refusal} → refusal_of s ≡ some r → locate s segment element repeat component ≡ refused r
  unfolding locate maybe
  locate_refused e = ap (λ (o : Option Refusal). answer o found) e

  pub locate_absent : refusal_of s ≡ none → found ≡ none → locate s segment element repeat component ≡ given []
  unfolding locate maybe
  locate_absent h e = ap₂ answer h e

  pub locate_found : refusal_of s ≡ none → (v : Value) → found ≡ some v → locate s segment element repeat component ≡ given (v.offset ∷ v.spelled ∷ [])
  unfolding locate maybe
  locate_found h v e = ap₂ answer h e

  -- the part that is handed back, by its offset and its length
  by_bounds : {offset size : ℕ}
      → ◌≡◌ {A = ℕ × ℕ} (part_offset s segment element repeat component, part_length s segment element repeat component) (offset, size)
      → (part_offset s segment element repeat component ≡ offset)
      × (part_length s segment element repeat component ≡ size)
      × (part s segment element repeat component ≡ take size (drop offset s))
  unfolding part
  by_bounds e =
      (ap (λ (b : ℕ × ℕ). b.0) e, ap (λ (b : ℕ × ℕ). b.1) e, ap (λ (b : ℕ × ℕ). take b.1 (drop b.0 s)) e)

  pub part_is : (offset size : ℕ) → locate s segment element repeat component ≡ given (offset ∷ size ∷ [])
      → (part_offset s segment element repeat component ≡ offset)
      × (part_length s segment element repeat component ≡ size)
      × (part s segment element repeat component ≡ take size (drop offset s))
  unfolding given part_in
  part_is offset size e =
      by_bounds (sym (part_told s segment element repeat component) ∙ ap (λ (a : Answer). part_in a.values) e)

  pub part_none : ((offset size : ℕ) → locate s segment element repeat component ≡ given (offset ∷ size ∷ []) → ⊥)
      → (part_offset s segment element repeat component ≡ 0)
      × (part_length s segment element repeat component ≡ 0)
      × (part s segment element repeat component ≡ [])
  unfolding locate given refused maybe part_in
  part_none h = by_bounds (sym (part_told s segment element repeat component) ∙ step (refusal_of s) found h)
    where
      step : (o : Option Refusal) (v : Option Value) → ((offset size : ℕ) → answer o v ≡ given (offset ∷ size ∷ []) → ⊥)
          → part_in (answer o v).values ≡ (0, 0)
      step none none h = refl
      step none (some v) h = absurd (h v.offset v.spelled refl)
      step (some r) v h = refl
