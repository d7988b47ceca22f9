-- The number and the values of each case of each answer, written out. Assumes nothing.
use Rattle.answers.specs.declared.Unaccepted.TheVariants.{First, Second}
use Rattle.std.specs.Prelude.{Ok, Err, Some, None, true, false}
use Prim.Native.Nat.{ℕ}
use mathlib.Core.Path.{◌≡◌, refl}
use mathlib.Core.List.{List, [], ◌∷◌}
use Rattle.characters.specs.Characters.{spelled_out}
use Rattle.refusals.specs.declared.Refusal.{Refusal}
use Rattle.refusals.specs.Refusals.{number}
use Rattle.answers.specs.declared.Figures.{Figures}
use Rattle.answers.specs.Answers.{Answer, given, refused, refused_input, accepted, told_judged, told_stored, told_compared, told_located, told_listed}

-- nothing is refused
abbrev pub gives : List ℕ → Answer
gives values = record { number = 0; values = values }

-- a refusal, with what stands beside its number
abbrev pub refuses : Refusal → List ℕ → Answer
refuses r values = record { number = number r.fault; values = values }

pub judged_are : (i : Figures) (r : Refusal)
    → (told_judged (Ok i)
    ≡ gives
    (i.characters.component
    ∷ i.characters.element
    ∷ i.characters.mark
    ∷ i.characters.release
    ∷ i.characters.repetition
    ∷ i.characters.terminator
    ∷ i.segments.0
    ∷ i.messages.0
    ∷ i.groups.0
    ∷ i.length
    ∷ []))
    × (told_judged (Err r) ≡ refuses r (r.place ∷ []))
unfolding told_judged accepted given refused spelled_out
judged_are i r = (refl, refl)

pub stored_are : (n : ℕ) (r : Refusal)
    → (told_stored (Ok n) ≡ gives (n ∷ [])) × (told_stored (Err r) ≡ refuses r (r.place ∷ []))
unfolding told_stored given refused
stored_are n r = (refl, refl)

pub compared_are : (r : Refusal)
    → (told_compared (Ok true) ≡ gives (1 ∷ []))
    × (told_compared (Ok false) ≡ gives (0 ∷ []))
    × (told_compared (Err (First r)) ≡ refuses r (1 ∷ r.place ∷ []))
    × (told_compared (Err (Second r)) ≡ refuses r (2 ∷ r.place ∷ []))
unfolding told_compared given refused_input
compared_are r = (refl, refl, refl, refl)

pub located_are : (offset size : ℕ) (r : Refusal)
    → (told_located (Ok (Some (record { offset = offset; length = size }))) ≡ gives (offset ∷ size ∷ []))
    × (told_located (Ok None) ≡ gives [])
    × (told_located (Err r) ≡ refuses r (r.place ∷ []))
unfolding told_located given refused
located_are offset size r = (refl, refl, refl)

pub listed_are : (bytes numbers : ℕ) (r : Refusal)
    → (told_listed (Ok (record { bytes = bytes; numbers = numbers })) ≡ gives (bytes ∷ numbers ∷ []))
    × (told_listed (Err r) ≡ refuses r (r.place ∷ []))
unfolding told_listed given refused
listed_are bytes numbers r = (refl, refl)
