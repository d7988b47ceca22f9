-- The places of an input's tokens rise, and so do those of its segments. Assumes nothing.
use Rattle.std.specs.Prelude.{if◌then◌else◌}
use Prim.Native.Nat.{ℕ, zero, suc, ◌+◌, ◌-◌, ◌≤◌, ◌<◌}
use mathlib.Core.Bool.{Bool, true, false}
use mathlib.Core.List.{List, [], ◌∷◌}
use native.Mathlib.Nat.{le_refl}
use native.Mathlib.Omega.{arith}
use lib.ListN.{length, drop, length-drop}
use Rattle.lists.specs.Lists.{onto, cut}
use Rattle.characters.specs.declared.Characters.{Characters}
use Rattle.characters.specs.declared.Role.{Role}
use Rattle.characters.specs.declared.Role.TheVariants.{Separator, Release, Plain}
use Rattle.characters.specs.Characters.{role, characters_of, is_break, body_start, body}
use Rattle.values.specs.Tokens.{Token, byte, separator, fault, Reading, inside, released, passing, unreleased, reading, taken, tokens_from, tokens, ends, place_of, Segment, segments, start}
use Rattle.stages.specs.Contents.{body_tokens, segments_of}
use Rattle.stage_walks.proofs.Rows.{Climbs, end, on}

-- the last place that the token's spelling takes
unfoldable pub last_place : Token → ℕ
last_place (byte b from place) = place
last_place (separator rank place) = place
last_place (fault place) = place

-- the token lies from `low` on and below `high`
abbrev pub Lies : ℕ → ℕ → Token → Type 0
Lies low high t = (low ≤ place_of t) × (place_of t ≤ last_place t) × (last_place t < high)

-- the tokens of a row that goes up from `low` to `high`
abbrev pub Rising : ℕ → ℕ → List Token → Type 0
Rising = Climbs Lies

-- ---- tokens

-- what may stand directly before a place, from `low` on: nothing that counts, or a release character
abbrev Before : ℕ → ℕ → ℕ → Reading → Type 0
Before low high place inside = (low ≤ place) × (low ≤ high)
Before low high place (released from) = (low ≤ from) × (from < place) × (place ≤ high)
Before low high place passing = (low ≤ place) × (low ≤ high)

-- the tokens of bytes that end at `high` rise
module _ (c : Characters) (high : ℕ) where
  -- from the next place on
  abbrev Onward : ℕ → List ℕ → Type 0
  Onward place bs = (r : Reading) (low : ℕ) → Before low high (place + 1) r → Rising low high (tokens_from c r (place + 1) bs)

  -- an unreleased byte
  first : (place b : ℕ) (bs : List ℕ) (low : ℕ) → low ≤ place → place < high → Onward place bs
      → Rising low high (unreleased (role c b) b place (tokens_from c (reading (role c b) place) (place + 1) bs))
  unfolding unreleased reading place_of last_place
  first place b bs low l below rest = step (role c b)
    where
      step : (r : Role) → Rising low high (unreleased r b place (tokens_from c (reading r place) (place + 1) bs))
      step (Separator zero) = on low (place + 1) (separator 0 place) (omega arith) (omega arith) (rest passing (place + 1) (omega arith))
      step (Separator (suc rank)) =
          on low (place + 1) (separator (suc rank) place) (omega arith) (omega arith) (rest inside (place + 1) (omega arith))
      step Release = rest (released place) low (omega arith)
      step Plain = on low (place + 1) (byte b place place) (omega arith) (omega arith) (rest inside (place + 1) (omega arith))

  -- a byte after a release character
  second : (from place b : ℕ) (bs : List ℕ) (low : ℕ) → low ≤ from → from < place → place < high → Onward place bs
      → Rising low high (taken (role c b) b from place (tokens_from c inside (place + 1) bs))
  unfolding taken place_of last_place
  second from place b bs low l before below rest = step (role c b) (rest inside (place + 1) (omega arith))
    where
      step : (r : Role) → Rising (place + 1) high (tokens_from c inside (place + 1) bs)
          → Rising low high (taken r b from place (tokens_from c inside (place + 1) bs))
      step (Separator rank) more = on low (place + 1) (byte b from place) (omega arith) (omega arith) more
      step Release more = on low (place + 1) (byte b from place) (omega arith) (omega arith) more
      step Plain more = on low (place + 1) (fault from) (omega arith) (omega arith) more

  tokens_rise : (r : Reading) (place : ℕ) (bs : List ℕ) (low : ℕ)
      → Before low high place r → length bs ≤ high - place → Rising low high (tokens_from c r place bs)
  unfolding tokens_from place_of last_place
  tokens_rise inside place [] low h fits = end h.1
  tokens_rise (released from) place [] low h fits = on low place (fault from) (omega arith) (omega arith) (end h.2)
  tokens_rise passing place [] low h fits = end h.1
  tokens_rise inside place (b ∷ bs) low h fits =
      first place b bs low h.0 (omega arith) (λ r low k. tokens_rise r (place + 1) bs low k (omega arith))
  tokens_rise (released from) place (b ∷ bs) low h fits =
      second from place b bs low h.0 h.1 (omega arith) (λ r low k. tokens_rise r (place + 1) bs low k (omega arith))
  tokens_rise passing place (b ∷ bs) low h fits =
      step (is_break b) (tokens_rise passing (place + 1) bs low (omega arith) (omega arith))
      (first place b bs low h.0 (omega arith) (λ r low k. tokens_rise r (place + 1) bs low k (omega arith)))
    where
      step : (t : Bool) {ts us : List Token} → Rising low high ts → Rising low high us → Rising low high (if t then ts else us)
      step true p q = p
      step false p q = q

-- the tokens of an input's body rise, below its length; where the input ends before its body would begin, there are none
pub body_rises : (s : List ℕ) → Rising 0 (length s) (body_tokens s)
unfolding body_tokens tokens body
body_rises s =
    tokens_rise (characters_of s) (length s) inside (body_start s) (drop (body_start s) s) 0 (omega arith) (omega (arith, length-drop (body_start s) s))

-- ---- segments

-- the segment's start and its tokens lie from `low` on and below `high`
abbrev pub Spans : ℕ → ℕ → Segment → Type 0
Spans low high g = (low ≤ start g) × (start g < high) × Rising low high g

-- a token put in front of segments
put : {high next : ℕ} {gs : List Segment} (low : ℕ) (b : Bool) (t : Token) → low ≤ next → Lies low next t
    → Climbs Spans next high gs → Climbs Spans low high (onto b t gs)
unfolding onto start
put {next = next} low true t l lies above =
    on low next (t ∷ []) l (omega arith, omega arith, on low next t l lies (end (le_refl next))) above
put {next = next} low false t l lies (end h) =
    on low next (t ∷ []) l (omega arith, omega arith, on low next t l lies (end (le_refl next))) (end h)
put low false t l lies (on next far g k (from, to, within) above) =
    on low far (t ∷ g) (omega arith) (omega arith, omega arith, on low next t l lies within) above

-- the segments of tokens that rise go up with them
cut_rises : {low high : ℕ} {ts : List Token} → Rising low high ts → Climbs Spans low high (cut (ends 0) ts)
unfolding cut
cut_rises (end h) = end h
cut_rises (on low next t l lies rest) = put low (ends 0 t) t l lies (cut_rises rest)

-- the segments of an input go up, below its length
pub segments_rise : (s : List ℕ) → Climbs Spans 0 (length s) (segments_of s)
unfolding segments_of segments
segments_rise s = cut_rises (body_rises s)
