-- The segments from a place on: the one that begins there, and those after it. Assumes nothing.
use Prim.Native.Nat.{ℕ, ◌≤◌, ◌<◌}
use mathlib.Core.Path.{◌≡◌, refl, sym, ap, ◌∙◌}
use mathlib.Core.List.{List, [], ◌∷◌}
use native.Mathlib.Omega.{arith}
use lib.ListN.{length}
use Rattle.lists.specs.Lists.{through, cut, beyond}
use Rattle.lists.proofs.Pieces.{cut_first}
use Rattle.characters.specs.declared.Characters.{Characters}
use Rattle.values.specs.Tokens.{Token, byte, separator, fault, ends, place_of, segments, start, tokens_at}
use Rattle.values.proofs.Steps.{at_end}
use Rattle.scanner.specs.declared.Lexed.{Lexed}
use Rattle.scanner.specs.declared.Lexed.TheVariants.{Byte, Separator, Stray, End}
use Rattle.scanner.specs.Scanner.{lex_at}
use Rattle.scanner.specs.Scan.{segment_at, Skips}
use Rattle.scanner.proofs.Lexing.{Lexes, lexes}

module _ (c : Characters) (s : List ℕ) (at : ℕ) where
  -- inside the input a token stands at every place
  abbrev pub Stands : Type 0
  Stands = (t : Token) × (ts : List Token) × (tokens_at c s at ≡ t ∷ ts) × (place_of t ≡ at)

  pub stands : at < length s → Stands
  unfolding place_of
  stands h = found (lex_at c s at) (lexes c s at)
    where
      found : (r : Lexed) → Lexes c s at r → Stands
      found (Byte b place next) l = (byte b at place, tokens_at c s next, l.0, refl)
      found (Separator rank next) l = (separator rank at, tokens_at c s next, l.0, refl)
      found (Stray next) l = (fault at, tokens_at c s next, l.0, refl)
      found End l = absurd (omega arith)

  -- after the last byte there is no segment
  pub segments_end : length s ≤ at → segments (tokens_at c s at) ≡ []
  unfolding segments cut
  segments_end h = ap segments (at_end c s at h)

  -- elsewhere there is one, and what follows it
  pub segments_first : at < length s → segments (tokens_at c s at) ≡ segment_at c s at ∷ segments (beyond (ends 0) (tokens_at c s at))
  unfolding segments segment_at
  segments_first h =
      let (t, ts, e, p) = stands h in
      ap segments e
      ∙ cut_first (ends 0) t ts
      ∙ ap (λ (l : List Token). through (ends 0) l ∷ cut (ends 0) (beyond (ends 0) l)) (sym e)

  pub segments_next : (next : ℕ) → at < length s → Skips (ends 0) c s at next
      → segments (tokens_at c s at) ≡ segment_at c s at ∷ segments (tokens_at c s next)
  segments_next next h k = segments_first h ∙ ap (λ (l : List Token). segment_at c s at ∷ segments l) (sym k.0)

  -- it begins at this place
  pub segment_start_lem : at < length s → start (segment_at c s at) ≡ at
  unfolding segment_at start through
  segment_start_lem h = let (t, ts, e, p) = stands h in ap (λ (l : List Token). start (through (ends 0) l)) e ∙ p
