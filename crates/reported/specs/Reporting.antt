-- What Judge's stages say of a received interchange, and where the pieces that are taken over from it begin. Assumes nothing.
use Rattle.std.specs.Prelude.{ℕ, ◌≡◌, true, false, List, if◌then◌else◌, Option as Perhaps, Some, None}
use Rattle.std.proofs.Math.Option.{Option, none, some}
use Rattle.characters.specs.Characters.{characters_of, body_start}
use Rattle.refusals.specs.declared.Refusal.{Refusal}
use Rattle.values.specs.Tokens.{tokens_at}
use Rattle.stages.specs.Contents.{body_tokens}
use Rattle.stages.specs.Stages.{refusal_of}
use Rattle.elements.specs.Elements.{element_from, component_from}
use Rattle.acknowledgements.specs.Received.{has_action_code, cannot_be_acknowledged}
use Rattle.stage_opening.specs.declared.Found.{Found}
use Rattle.acknowledgement_parts.specs.declared.Received.{Received}
use Rattle.reported.specs.declared.Standing.{Standing}

-- "7 when accepted, 4 when refused": where the code stands among the words of an acknowledgement
abbrev pub action_place : Option Refusal → ℕ
action_place none = 18
action_place (some r) = 17

-- what was found, with an action code
abbrev pub standing_by : Found → ℕ → Standing
standing_by found action = record { characters = found.characters; start = found.start; action = action }

-- what Judge's stages say, where an action code answers
abbrev pub standing_with : List ℕ → ℕ → Standing
standing_with s action = record { characters = characters_of s; start = body_start s; action = action }

abbrev pub standing_in : List ℕ → Standing
standing_in s = standing_with s (action_place (refusal_of s))

unfoldable pub standing_of : List ℕ → Perhaps Standing
standing_of s = if has_action_code (refusal_of s) then Some (standing_in s) else None

-- the places begin the pieces of UNB
pub record Takes (s : List ℕ) (r : Received) : Type 0 where
  pub characters : r.characters ≡ characters_of s
  pub level : tokens_at (characters_of s) s r.level ≡ element_from 1 (body_tokens s)
  pub version : tokens_at (characters_of s) s r.version ≡ component_from 1 (element_from 1 (body_tokens s))
  pub sender : tokens_at (characters_of s) s r.sender ≡ element_from 2 (body_tokens s)
  pub recipient : tokens_at (characters_of s) s r.recipient ≡ element_from 3 (body_tokens s)
  pub reference : tokens_at (characters_of s) s r.reference ≡ element_from 5 (body_tokens s)
  pub action : r.action ≡ action_place (refusal_of s)

abbrev pub Reports : List ℕ → Perhaps Received → Type 0
Reports s (Some r) = (cannot_be_acknowledged s ≡ false) × Takes s r
Reports s None = cannot_be_acknowledged s ≡ true
