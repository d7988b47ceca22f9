-- Paper 01, "Operations": Compare and Keep. Assumes nothing.
use Rattle.std.specs.Prelude.{ℕ, Bool, true, false, ◌&&◌, List, [], ◌∷◌, length, ltb, if◌then◌else◌}
use Rattle.lists.specs.Lists.{same, maybe}
use Rattle.stages.specs.Contents.{normal_form}
use Rattle.stages.specs.Stages.{refusal_of}
use Rattle.answers.specs.Answers.{Answer, given, refused_input}

-- "Two interchanges are the same when both are accepted and their normal forms are equal."
unfoldable pub is_accepted : List ℕ → Bool
is_accepted s = maybe true (λ r. false) (refusal_of s)

unfoldable pub are_same : List ℕ → List ℕ → Bool
are_same first second = is_accepted first && is_accepted second && same (normal_form first) (normal_form second)

-- "same, different, or refusal with 1st or 2nd input (1st is judged first)": 1 for "same", 0 for "different"
unfoldable pub compare : List ℕ → List ℕ → Answer
compare first second =
    maybe
    (maybe (given ((if are_same first second then 1 else 0) ∷ [])) (refused_input 2) (refusal_of second))
    (refused_input 1)
    (refusal_of first)

-- a part of the first input or of the second
pub data Part : Type 0 where
  of_first : (offset length : ℕ) → Part
  of_second : (offset length : ℕ) → Part

-- "the shorter of two interchanges that are the same, the first where equally long; otherwise the first zero bytes of the first"
unfoldable pub keep : List ℕ → List ℕ → Part
keep first second =
    if are_same first second
    then (if ltb (length second) (length first) then of_second 0 (length second) else of_first 0 (length first))
    else of_first 0 0
