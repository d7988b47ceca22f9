-- One step of reading a value, for each token that the scanner can find. Assumes nothing.
use Rattle.std.specs.Prelude.{if◌then◌else◌}
use Prim.Native.Nat.{ℕ, ◌≤◌}
use mathlib.Core.Path.{◌≡◌, sym, ap, ◌∙◌, subst}
use mathlib.Core.Bool.{Bool, true}
use mathlib.Core.List.{List, [], ◌∷◌}
use native.Mathlib.Omega.{arith}
use lib.Dec.{leb}
use borrow.Author.Tests.{le-leb}
use lib.ListN.{length}
use Rattle.lists.specs.Lists.{through, gather}
use Rattle.characters.specs.declared.Characters.{Characters}
use Rattle.values.specs.Tokens.{separator, ends, tokens_at}
use Rattle.values.specs.Values.{byte_of, bytes_of}
use Rattle.scanner.specs.declared.Lexed.TheVariants as lexed
use Rattle.scanner.proofs.Lexing.{Lexes}
use Rattle.elements.specs.declared.NextByte.{NextByte}
use Rattle.elements.specs.declared.NextByte.TheVariants.{Byte, Ended}
use Rattle.elements.specs.Values.{value_in, value_end, NextAt}

module _ (c : Characters) (s : List ℕ) where
  -- the same value goes on at another place, and ends where the first ends
  abbrev pub Continues : ℕ → ℕ → Type 0
  Continues from at =
      (value_in (tokens_at c s from) ≡ value_in (tokens_at c s at))
      × (value_end (tokens_at c s from) ≡ value_end (tokens_at c s at))
      × (from ≤ at)
      × (from ≤ length s → at ≤ length s)

  -- ---- the next byte

  pub next_byte : (from at : ℕ) {b place next : ℕ} → Continues from at → Lexes c s at (lexed.Byte b place next)
      → NextAt c s from (Byte b next)
  unfolding value_in value_end through ends bytes_of gather byte_of
  next_byte from at h l = (h.0 ∙ ap value_in l.0, h.1 ∙ ap value_end l.0, omega arith, omega arith)

  pub next_separator : (from at : ℕ) {rank next : ℕ} → Continues from at → Lexes c s at (lexed.Separator rank next)
      → NextAt c s from (Ended at)
  unfolding value_in value_end through ends bytes_of gather byte_of
  next_separator from at {rank} {next} h l = (
    h.0 ∙ ap value_in l.0 ∙ ap (λ (b : Bool). bytes_of (if b then [] else through (ends 3) (tokens_at c s next))) ended,
    (
      l.0
          ∙ sym
          (h.1
          ∙ ap value_end l.0
          ∙ ap (λ (b : Bool). if b then separator rank at ∷ tokens_at c s next else value_end (tokens_at c s next)) ended),
      h.2,
      h.3,
    ),
  )
    where
      ended : leb rank 3 ≡ true
      ended = le-leb rank 3 l.3

  pub next_stray : (from at : ℕ) {next : ℕ} → Continues from at → Lexes c s at (lexed.Stray next) → Continues from next
  unfolding value_in value_end through ends bytes_of gather byte_of
  next_stray from at h l = (h.0 ∙ ap value_in l.0, h.1 ∙ ap value_end l.0, omega arith, λ n. omega arith)

  pub next_end : (from at : ℕ) → Continues from at → Lexes c s at lexed.End → NextAt c s from (Ended at)
  unfolding value_in value_end through bytes_of gather
  next_end from at h l = (h.0 ∙ ap value_in l.0, (l.0 ∙ sym (h.1 ∙ ap value_end l.0), h.2, h.3))

  -- what a match on the next byte shows
  pub next_as : (at : ℕ) {r answer : NextByte} → NextAt c s at answer → answer ≡ r → NextAt c s at r
  next_as at n e = subst (NextAt c s at) e n
