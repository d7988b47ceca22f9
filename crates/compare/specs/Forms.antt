-- What Compare asks of the buffers for two normal forms, and what it answers once it has the first's. Assumes nothing.
use Rattle.std.specs.Prelude.{ℕ, ◌≤◌, ◌≡◌, List, [], ◌∷◌, length, if◌then◌else◌}
use Rattle.std.proofs.Math.Option.{none}
use Rattle.lists.specs.Lists.{same, maybe}
use Rattle.stages.specs.Contents.{normal_form}
use Rattle.stages.specs.Stages.{refusal_of}
use Rattle.answers.specs.Answers.{Answer, given, refused_input}

-- the text is accepted, and is its own normal form
abbrev pub IsForm : List ℕ → Type 0
IsForm text = (refusal_of text ≡ none) × (normal_form text ≡ text)

-- the buffer has room for the normal form of the input, if that is accepted
abbrev pub Room : (buffer s : List ℕ) → Type 0
Room buffer s = refusal_of s ≡ none → length (normal_form s) ≤ length buffer

-- what is answered of the second input, where the first is accepted and this is its normal form
unfoldable pub compared_to : (text second : List ℕ) → Answer
compared_to text second = maybe (given ((if same text (normal_form second) then 1 else 0) ∷ [])) (refused_input 2) (refusal_of second)
