-- One step through a piece, for each token that the scanner can find. Assumes nothing.
use Prim.Native.Nat.{ℕ, ◌≤◌, ◌<◌}
use mathlib.Core.Path.{◌≡◌, ap, ◌∙◌, subst}
use mathlib.Core.List.{List, [], ◌∷◌}
use native.Mathlib.Omega.{arith}
use lib.Dec.{leb}
use borrow.Author.Tests.{le-leb, lt-leb}
use Rattle.lists.proofs.Texts.{if_true, if_false}
use Rattle.characters.specs.declared.Characters.{Characters}
use Rattle.values.specs.Tokens.{separator, tokens_at}
use Rattle.scanner.specs.declared.Lexed.TheVariants as lexed
use Rattle.scanner.proofs.Lexing.{Lexes}
use Rattle.received_pieces.specs.declared.Within.{Within}
use Rattle.received_pieces.specs.declared.Within.TheVariants.{Byte, Separator, Ended}
use Rattle.received_pieces.specs.Pieces.{piece_of, NextIn}

module _ (d : Characters) (s : List ℕ) (rank from : ℕ) where
  -- the same piece goes on at another place
  abbrev pub GoesOn : ℕ → Type 0
  GoesOn at = (piece_of rank (tokens_at d s from) ≡ piece_of rank (tokens_at d s at)) × (from ≤ at)

  module _ (at : ℕ) (h : GoesOn at) where
    pub in_byte : {b place next : ℕ} → Lexes d s at (lexed.Byte b place next) → NextIn d s rank from (Byte b next)
    unfolding piece_of
    in_byte l = (h.0 ∙ ap (piece_of rank) l.0, omega arith, omega arith)

    pub in_separator : {r next : ℕ} → Lexes d s at (lexed.Separator r next) → rank < r → NextIn d s rank from (Separator r next)
    unfolding piece_of
    in_separator {r} {next} l k =
        (h.0 ∙ ap (piece_of rank) l.0 ∙ if_false (leb r rank) [] (separator r 0 ∷ piece_of rank (tokens_at d s next)) (lt-leb r rank k), omega arith, omega arith)

    pub in_last : {r next : ℕ} → Lexes d s at (lexed.Separator r next) → r ≤ rank → NextIn d s rank from Ended
    unfolding piece_of
    in_last {r} {next} l k =
        h.0 ∙ ap (piece_of rank) l.0 ∙ if_true (leb r rank) [] (separator r 0 ∷ piece_of rank (tokens_at d s next)) (le-leb r rank k)

    pub in_stray : {next : ℕ} → Lexes d s at (lexed.Stray next) → GoesOn next
    unfolding piece_of
    in_stray l = (h.0 ∙ ap (piece_of rank) l.0, omega arith)

    pub in_end : Lexes d s at lexed.End → NextIn d s rank from Ended
    unfolding piece_of
    in_end l = h.0 ∙ ap (piece_of rank) l.0

  -- what a match on the next one shows
  pub next_as : {r answer : Within} → NextIn d s rank from answer → answer ≡ r → NextIn d s rank from r
  next_as n e = subst (NextIn d s rank from) e n
