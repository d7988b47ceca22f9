-- Reading a value token by token: what is known at each place, and why it still holds after the next token. Assumes nothing.
use Prim.Native.Nat.{ℕ, ◌+◌, ◌≤◌, ◌<◌}
use mathlib.Core.Path.{◌≡◌, refl, sym, ap, ◌∙◌}
use mathlib.Core.Bool.{Bool, true, false}
use mathlib.Core.List.{List, [], ◌∷◌, ◌++◌}
use native.Mathlib.Omega.{arith}
use lib.ListN.{length}
use borrow.Author.Tests.{lt-leb}
use Rattle.lists.specs.Lists.{through, gather, last_or, beyond}
use Rattle.lists.proofs.Texts.{if_true, if_false}
use Rattle.lists.proofs.Pieces.{beyond_hit, beyond_miss}
use Rattle.characters.specs.declared.Characters.{Characters}
use Rattle.values.specs.Tokens.{Token, ends, tokens_at}
use Rattle.values.specs.Values.{byte_of, bytes_of, ended_by}
use Rattle.values.proofs.Ends.{ended_after}
use Rattle.values.proofs.Steps.{ends_yes}
use Rattle.scanner.specs.declared.Lexed.TheVariants.{Byte, Separator, Stray, End}
use Rattle.scanner.proofs.Lexing.{Lexes}
use Rattle.tags.specs.declared.Word.{Word}
use Rattle.tags.specs.Words.{moved_on, last_four, four_of, begun, grown, passed, piece_at, value_at, Words}

-- ---- a piece and its first token

module _ {A : Type 0} (t : A → Bool) where
  -- what passes the test ends the piece
  pub through_hit : {x : A} {xs rest : List A} → xs ≡ x ∷ rest → t x ≡ true → through t xs ≡ x ∷ []
  unfolding through
  through_hit {x} {xs} {rest} e h = ap (through t) e ∙ ap (λ (l : List A). x ∷ l) (if_true (t x) [] (through t rest) h)

  -- anything else is followed by the rest of it
  pub through_miss : {x : A} {xs rest : List A} → xs ≡ x ∷ rest → t x ≡ false → through t xs ≡ x ∷ through t rest
  unfolding through
  through_miss {x} {xs} {rest} e h = ap (through t) e ∙ ap (λ (l : List A). x ∷ l) (if_false (t x) [] (through t rest) h)

-- a token that ends nothing is part of the value, and the rest of the value follows it
module _ {ts us : List Token} {t : Token} (e : ts ≡ t ∷ us) (n : (rank : ℕ) → ends rank t ≡ false) where
  value_more : bytes_of (through (ends 3) ts) ≡ byte_of t ++ bytes_of (through (ends 3) us)
  unfolding bytes_of gather
  value_more = ap bytes_of (through_miss (ends 3) e (n 3))

  ended_more : (rank : ℕ) → ended_by rank (through (ends 3) ts) ≡ ended_by rank (through (ends 3) us)
  ended_more rank = ap (ended_by rank) (through_miss (ends 3) e (n 3)) ∙ ended_after rank t (through (ends 3) us) (n rank)

-- a byte is followed by the rest of the value
pub value_byte_lem : (c : Characters) (s : List ℕ) (at : ℕ) {b place next : ℕ} → Lexes c s at (Byte b place next) → value_at c s at ≡ b ∷ value_at c s next
unfolding ends byte_of
value_byte_lem c s at l = value_more l.0 (λ rank. refl)

module _ (c : Characters) (s : List ℕ) (from : ℕ) where
  -- A value that is read up to a place: what was read and what stands from there on make the whole.
  pub record UpTo (w : Word) : Type 0 where
    pub small : w.size + from ≤ w.next
    pub open_end : w.rank ≡ 4
    pub sized : length (value_at c s from) ≡ w.size + length (value_at c s w.next)
    pub last : last_four (value_at c s from) ≡ moved_on (four_of w) (value_at c s w.next)
    pub ended : (rank : ℕ) → ended_by rank (piece_at c s from) ≡ ended_by rank (piece_at c s w.next)
    pub after : beyond (ends 3) (tokens_at c s from) ≡ beyond (ends 3) (tokens_at c s w.next)
    pub within : from < length s → w.next ≤ length s

  -- nothing is read yet
  pub up_to_start : UpTo (begun from)
  unfolding last_four
  up_to_start =
      record {
        small = omega arith;
        open_end = refl;
        sized = omega arith;
        last = refl;
        ended = λ rank. refl;
        after = refl;
        within = λ h. omega arith;
      }

  module _ (w : Word) (u : UpTo w) where
    -- a byte of the value
    pub up_to_byte : {b place next : ℕ} → Lexes c s w.next (Byte b place next) → UpTo (grown w b next)
    unfolding ends moved_on byte_of
    up_to_byte {b} {place} {next} l =
        record {
          small = omega arith;
          open_end = refl;
          sized = u.sized ∙ ap (λ (v : List ℕ). w.size + length v) (value_more l.0 (λ rank. refl)) ∙ omega arith;
          last = u.last ∙ ap (moved_on (four_of w)) (value_more l.0 (λ rank. refl));
          ended = λ rank. u.ended rank ∙ ended_more l.0 (λ n. refl) rank;
          after = u.after ∙ beyond_miss (ends 3) l.0 refl;
          within = λ h. omega arith;
        }

    -- a stray release character is passed over
    pub up_to_stray : {next : ℕ} → Lexes c s w.next (Stray next) → UpTo (passed w 4 next)
    unfolding ends byte_of
    up_to_stray {next} l =
        record {
          small = omega arith;
          open_end = refl;
          sized = u.sized ∙ ap (λ (v : List ℕ). w.size + length v) (value_more l.0 (λ rank. refl));
          last = u.last ∙ ap (moved_on (four_of w)) (value_more l.0 (λ rank. refl));
          ended = λ rank. u.ended rank ∙ ended_more l.0 (λ n. refl) rank;
          after = u.after ∙ beyond_miss (ends 3) l.0 refl;
          within = λ h. omega arith;
        }

    -- a separator ends the value
    pub word_ended : {rank next : ℕ} → Lexes c s w.next (Separator rank next) → Words c s from (passed w rank next)
    unfolding ends moved_on bytes_of gather byte_of ended_by last_or
    word_ended {rank} {next} l =
        let e = through_hit (ends 3) l.0 (ends_yes 3 w.next l.3) in
        record {
          sized = sym (u.sized ∙ ap (λ (ts : List Token). w.size + length (bytes_of ts)) e ∙ omega arith);
          last = sym (u.last ∙ ap (λ (ts : List Token). moved_on (four_of w) (bytes_of ts)) e);
          known = omega arith;
          ended = λ n h. u.ended n ∙ ap (ended_by n) e;
          after =
              (sym (u.after ∙ beyond_hit (ends 3) l.0 (ends_yes 3 w.next l.3)), omega arith, λ h. omega arith, λ h. omega arith);
        }

    -- the input ends the value
    pub word_unended : Lexes c s w.next End → Words c s from w
    unfolding through moved_on bytes_of gather ended_by beyond
    word_unended l =
        record {
          sized =
              sym (u.sized ∙ ap (λ (ts : List Token). w.size + length (bytes_of (through (ends 3) ts))) l.0 ∙ omega arith);
          last = sym (u.last ∙ ap (λ (ts : List Token). moved_on (four_of w) (bytes_of (through (ends 3) ts))) l.0);
          known = omega arith;
          ended = λ n h. u.ended n ∙ ap (λ (ts : List Token). ended_by n (through (ends 3) ts)) l.0 ∙ sym (lt-leb w.rank n (omega arith));
          after = (sym (u.after ∙ ap (beyond (ends 3)) l.0 ∙ sym l.0), omega arith, λ h. omega arith, λ h. u.within h);
        }
