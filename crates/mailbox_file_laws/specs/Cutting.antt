-- Request 2026-02 in words: which lists of pieces a file may be cut into. Assumes nothing.
use Rattle.std.specs.Prelude.{ℕ, ◌+◌, ◌≡◌, true, false, drop}
use mathlib.Core.List.{List, [], ◌∷◌, ◌++◌, Memᴰ}
use Rattle.lists.specs.Lists.{all}
use Rattle.characters.specs.Characters.{is_break}
use Rattle.values.specs.Tokens.{Segment}
use Rattle.values.specs.Values.{end_place, finished}
use Rattle.values.specs.Spelling.{leads_break}
use Rattle.segments.specs.declared.Kind.TheVariants.{Unz}
use Rattle.segments.specs.Tags.{kind_of, tag_rule}
use Rattle.stages.specs.Contents.{segments_of}
use Rattle.normal_form_laws.specs.Forms.{end_to_end}
use Rattle.acceptance_laws.specs.Allowed.{WellOpened}

-- a segment that meets none of 4, 5 and 6: it is finished, and keeps the rule for tags
abbrev pub Faultless : Segment → Type 0
Faultless g = (finished g ≡ true) × (tag_rule g ≡ true)

-- none of them is a UNZ
abbrev pub NoUnz : List Segment → Type 0
NoUnz gs = (g : Segment) → Memᴰ g gs → kind_of g ≡ Unz → ⊥

-- "A piece ends after its first UNZ segment and the breaks behind it." No fault 2 to 6 is met on the way.
pub record EndsInUnz (piece : List ℕ) : Type 0 where
  -- 2 and 3
  pub opening : WellOpened piece
  -- its segments, of which none meets 4 to 6
  pub before : List Segment
  pub unz : Segment
  pub segments : segments_of piece ≡ before ++ unz ∷ []
  pub faultless : (g : Segment) → Memᴰ g (segments_of piece) → Faultless g
  -- the last is the first UNZ, and behind it stand breaks alone
  pub first : NoUnz before
  pub last : kind_of unz ≡ Unz
  pub behind : all is_break (drop (end_place unz + 1) piece) ≡ true

-- "Where the cutting meets a fault 2 to 6 or the file's end before a UNZ"
pub data Unending (rest : List ℕ) : Type 0 where
  -- 2 or 3
  unopened : (WellOpened rest → ⊥) → Unending rest
  -- 4 to 6, in a segment before which no UNZ stands
  faulty : (before : List Segment) (g : Segment) (after : List Segment) → segments_of rest ≡ before ++ g ∷ after → NoUnz before
      → (Faultless g → ⊥) → Unending rest
  -- the end
  endless : NoUnz (segments_of rest) → Unending rest

-- The pieces of a file, in order. "The rest is one .. piece": nothing follows it.
pub data Cut : List (List ℕ) → Type 0 where
  nothing : Cut []
  rest : {piece : List ℕ} → (piece ≡ [] → ⊥) → Unending piece → Cut (piece ∷ [])
  ended : {piece : List ℕ} {others : List (List ℕ)} → EndsInUnz piece → leads_break (end_to_end others) ≡ false → Cut others → Cut (piece ∷ others)
