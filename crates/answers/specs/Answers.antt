-- The paper's number and values for each case of each answer: number 0 where nothing is refused. Assumes nothing.
use Rattle.values.specs.declared.Span.{Span}
use Rattle.answers.specs.declared.Unaccepted.{Unaccepted}
use Rattle.answers.specs.declared.Unaccepted.TheVariants.{First, Second}
use Rattle.std.specs.Prelude.{ℕ, List, [], ◌∷◌, ◌++◌, Ok, Err, Some, None, Result, Bool, true, false, Option}
use Rattle.characters.specs.Characters.{spelled_out}
use Rattle.refusals.specs.declared.Refusal.{Refusal}
use Rattle.refusals.specs.Refusals.{number}
use Rattle.answers.specs.declared.Figures.{Figures}
use Rattle.answers.specs.declared.Listed.{Listed}

pub record Answer : Type 0 where
  pub number : ℕ
  pub values : List ℕ

unfoldable pub given : List ℕ → Answer
given values = record { number = 0; values = values }

unfoldable pub refused : Refusal → Answer
refused r = record { number = number r.fault; values = r.place ∷ [] }

-- "refusal with 1st or 2nd input"
unfoldable pub refused_input : ℕ → Refusal → Answer
refused_input which r = record { number = number r.fault; values = which ∷ r.place ∷ [] }

-- "service characters, counts of segments, messages and groups, length of the normal form"
unfoldable pub accepted : Figures → Answer
accepted i = given (spelled_out i.characters ++ i.segments.0 ∷ i.messages.0 ∷ i.groups.0 ∷ i.length ∷ [])

-- What each operation answers, or the refusal. Judge:
abbrev pub Judged : Type 0
Judged = Result Figures Refusal

-- Normalise and Write: how many bytes they stored
abbrev pub Stored : Type 0
Stored = Result ℕ Refusal

-- Compare: whether the two are the same
abbrev pub Compared : Type 0
Compared = Result Bool Unaccepted

-- Locate: where the value is spelled, if there is one
abbrev pub Located : Type 0
Located = Result (Option Span) Refusal

unfoldable pub told_judged : Judged → Answer
told_judged (Ok i) = accepted i
told_judged (Err r) = refused r

unfoldable pub told_stored : Stored → Answer
told_stored (Ok n) = given (n ∷ [])
told_stored (Err r) = refused r

-- 1 for "same", 0 for "different"
unfoldable pub told_compared : Compared → Answer
told_compared (Ok true) = given (1 ∷ [])
told_compared (Ok false) = given (0 ∷ [])
told_compared (Err (First r)) = refused_input 1 r
told_compared (Err (Second r)) = refused_input 2 r

-- "offset and spelled length in the input", or nothing where it is absent
unfoldable pub told_located : Located → Answer
told_located (Ok (Some v)) = given (v.offset ∷ v.length ∷ [])
told_located (Ok None) = given []
told_located (Err r) = refused r

unfoldable pub told_listed : Result Listed Refusal → Answer
told_listed (Ok v) = given (v.bytes ∷ v.numbers ∷ [])
told_listed (Err r) = refused r
