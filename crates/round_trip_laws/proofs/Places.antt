-- Where values are spelled: the tokens of a body that passes stand one after another in the input, each where its spelling begins,
-- so that a value's spelling lies between its first token and the separator that ends it. Assumes nothing.
use Prim.Native.Nat.{ℕ, ◌+◌, ◌-◌}
use mathlib.Core.Path.{◌≡◌, refl, sym, ap, subst, ◌∙◌}
use mathlib.Core.Bool.{Bool, true, false, true≢false, false≢true}
use mathlib.Core.List.{List, [], ◌∷◌, ◌++◌, append_assoc}
use native.Mathlib.Omega.{arith}
use lib.ListN.{length, take, drop, length-append}
use lib.Seq.{drop-drop, take_at, drop-append_seam}
use borrow.Author.Tests.{le-leb, not-false}
use Rattle.lists.specs.Lists.{is_empty, last_or, through, gather}
use Rattle.characters.specs.declared.Characters.{Characters}
use Rattle.characters.specs.Characters.{usable}
use Rattle.nesting_laws.proofs.Positions.{Place, PieceAt, piece_parted}
use Rattle.values.specs.Tokens.{Token, byte, separator, fault, tokens_from, tokens, ends, ends_part, place_of, start}
use Rattle.values.specs.Values.{byte_of, bytes_of, end_place, value_of, ended_by, ends_inside}
use Rattle.values.specs.Spelling.{Bytes, spell_byte, spell_value}
use Rattle.spelling_laws.specs.Bodies.{Sound, Passes}
use Rattle.spelling_laws.proofs.Service.{separable_low}
use Rattle.spelling_laws.proofs.Tokens.{spellable, spell_token, sayable, Lexed, nothing, passed, next, byte_stands, lexed_inside}
use Rattle.spelling_laws.proofs.Laws.{read_tokens}
use Rattle.round_trip_laws.specs.Trips.{NamesValue}
use Rattle.round_trip_laws.proofs.Positions.{ends_value_lem}

module _ (c : Characters) (u : usable c ≡ true) (s : List ℕ) where
  -- the byte can be spelled, and its spelling stands at the place
  abbrev SpelledAt : ℕ → ℕ → Type 0
  SpelledAt p b = (spellable c b ≡ true) × (drop p s ≡ spell_byte c b ++ drop (p + length (spell_byte c b)) s)

  -- a value's piece: it begins at the place, the value is spelled from there on, and the piece ends where that spelling ends;
  -- wherever the spelling stands alone, it is read as the value
  record ValueAt (p : ℕ) (piece : List Token) : Type 0 where
    full : is_empty piece ≡ false
    begins : start piece ≡ p
    ended : end_place piece ≡ p + length (spell_value c (bytes_of piece))
    stands : drop p s ≡ spell_value c (bytes_of piece) ++ drop (end_place piece) s
    alone : (q : ℕ) → bytes_of (tokens c q (spell_value c (bytes_of piece))) ≡ bytes_of piece

  -- the end of a piece is that of what follows its first token
  end_next : (t : Token) (ts : List Token) → is_empty ts ≡ false → end_place (t ∷ ts) ≡ end_place ts
  unfolding is_empty end_place last_or
  end_next t [] h = absurd (true≢false h)
  end_next t (u ∷ us) h = refl

  value_alone : (p k : ℕ) → ValueAt p (separator k p ∷ [])
  unfolding is_empty start end_place place_of last_or bytes_of byte_of gather spell_value tokens tokens_from
  value_alone p k = record { full = refl; begins = refl; ended = omega arith; stands = refl; alone = λ q. refl }

  value_further : (p b place : ℕ) (ts : List Token) → SpelledAt p b → ValueAt (p + length (spell_byte c b)) ts
      → ValueAt p (byte b p place ∷ ts)
  unfolding is_empty start place_of bytes_of byte_of gather spell_value spell_token tokens tokens_from ends
  value_further p b place ts h v =
      let end : end_place (byte b p place ∷ ts) ≡ end_place ts = end_next (byte b p place) ts v.full in
      record {
        full = refl;
        begins = refl;
        ended = omega (arith, end, v.ended, length-append (spell_byte c b) (spell_value c (bytes_of ts)));
        stands =
            h.1
            ∙ ap (λ (more : Bytes). spell_byte c b ++ more) v.stands
            ∙ sym (append_assoc (spell_byte c b) (spell_value c (bytes_of ts)) (drop (end_place ts) s))
            ∙ ap (λ (n : ℕ). (spell_byte c b ++ spell_value c (bytes_of ts)) ++ drop n s) (sym end);
        alone = λ q.
            let more : Bytes = spell_value c (bytes_of ts) in
            ap bytes_of ((byte_stands c u q b h.0).1.reads more)
            ∙ ap (λ (bs : Bytes). b ∷ bs) (v.alone (q + length (spell_byte c b)));
      }

  -- such a piece's value names its spelling
  value_named : (p : ℕ) (piece : List Token) → ValueAt p piece → NamesValue c s (value_of piece)
  unfolding value_of
  value_named p piece v = record {
    spelling = part;
    alone = ap (λ (bs : Bytes). bytes_of (tokens c (start piece) bs)) part ∙ v.alone (start piece);
  }
    where
      part : take (end_place piece - start piece) (drop (start piece) s) ≡ spell_value c (bytes_of piece)
      part =
          ap (λ (n : ℕ). take (end_place piece - start piece) (drop n s)) v.begins
          ∙ ap (take (end_place piece - start piece)) v.stands
          ∙ take_at (spell_value c (bytes_of piece)) (drop (end_place piece) s) (end_place piece - start piece)
          (omega (arith, v.begins, v.ended))

  -- ---- the tokens of a body that passes

  -- what follows a part of the input
  drop_more : (p : ℕ) (xs rest : Bytes) → drop p s ≡ xs ++ rest → drop (p + length xs) s ≡ rest
  drop_more p xs rest e = sym (drop-drop (length xs) p s) ∙ ap (drop (length xs)) e ∙ drop-append_seam xs rest

  -- past the breaks in front of them, tokens stand in the input too
  at_first : {after : Bool} {p : ℕ} {body : Bytes} {ts : List Token} → Lexed c after p body ts → drop p s ≡ body
      → (q : ℕ) × (more : Bytes) × Lexed c false q more ts × (drop q s ≡ more)
  at_first {p = p} l e =
      let (front, more, parts, inside) = lexed_inside c u l in
      (p + length front, more, inside, drop_more p front more (e ∙ parts))

  -- and so do those after the first
  past_first : {after : Bool} {p : ℕ} {body : Bytes} {t : Token} {ts : List Token} → Lexed c after p body (t ∷ ts) → after ≡ false → drop p s ≡ body
      → (q : ℕ) × (more : Bytes) × Lexed c (ends 0 t) q more ts × (drop q s ≡ more)
  past_first (passed h l) n e = absurd (true≢false n)
  past_first {p = p} (next {t = t} {rest = rest} st l) n e =
      (p + length (spell_token c t), rest, l, drop_more p (spell_token c t) rest e)

  -- the last tokens of a body that stands in the input stand there too
  lexed_rest : {after : Bool} {p : ℕ} {body : Bytes} (before rest : List Token) → Lexed c after p body (before ++ rest) → drop p s ≡ body
      → (q : ℕ) × (more : Bytes) × Lexed c false q more rest × (drop q s ≡ more)
  lexed_rest [] rest l e = at_first l e
  lexed_rest {after = after} {p = p} {body = body} (t ∷ before) rest l e =
      let first = at_first l e in
      let others = past_first first.2 refl first.3 in
      lexed_rest {after = ends 0 t} {p = others.0} {body = others.1} before rest others.2 others.3

  ended_rest : (before rest : List Token) → is_empty rest ≡ false → ends_inside (before ++ rest) ≡ false → ended_by 0 rest ≡ true
  unfolding ends_inside ended_by last_or is_empty
  ended_rest before [] n h = absurd (true≢false n)
  ended_rest [] (t ∷ ts) n h = not-false (ends 0 (last_or t ts)) h
  ended_rest (x ∷ []) (t ∷ ts) n h = not-false (ends 0 (last_or t ts)) h
  ended_rest (x ∷ y ∷ before) (t ∷ ts) n h = ended_rest (y ∷ before) (t ∷ ts) n h

  -- the first value of tokens that stand in the input, with no break in front, and end in a terminator
  first_value_lem : {after : Bool} {p : ℕ} {body : Bytes} {ts : List Token} → Lexed c after p body ts → after ≡ false → drop p s ≡ body
      → ended_by 0 ts ≡ true → ValueAt p (through (ends 3) ts)
  unfolding ended_by last_or through ends sayable place_of spell_token
  first_value_lem nothing n e h = absurd (false≢true h)
  first_value_lem (passed k l) n e h = absurd (true≢false n)
  first_value_lem {p = p} (next {t = separator rank q} {ts = ts} st l) n e h = rw (le-leb rank 3 (separable_low c rank st.said), st.placed) (value_alone p rank)
  first_value_lem (next {t = byte b from place} {ts = []} st l) n e h = absurd (false≢true h)
  first_value_lem {p = p} (next {t = byte b from place} {rest = rest} {ts = v ∷ vs} st l) n e h =
      let more : drop (p + length (spell_byte c b)) s ≡ rest = drop_more p (spell_byte c b) rest e in
      rw st.placed
      (value_further p b place (through (ends 3) (v ∷ vs)) (st.said, e ∙ ap (λ (r : Bytes). spell_byte c b ++ r) (sym more))
      (first_value_lem l refl more h))
  first_value_lem (next {t = fault place} st l) n e h = absurd (false≢true st.said)

  -- every value of a body that passes names its spelling
  pub named_piece : (p : ℕ) (body : Bytes) → Passes c p body → drop p s ≡ body → (spot : Place 4) (piece : List Token)
      → PieceAt ends_part 4 spot (tokens c p body) piece → NamesValue c s (value_of piece)
  unfolding Passes Sound
  named_piece p body h e spot piece k =
      let d = piece_parted ends_part ends_value_lem 3 spot (tokens c p body) piece k in
      let l = lexed_rest d.before d.rest (rw d.parts at (read_tokens c u p body h)) e in
      subst (λ (ts : List Token). NamesValue c s (value_of ts)) d.begins
      (value_named l.0 (through (ends 3) d.rest)
      (first_value_lem l.2 refl l.3 (ended_rest d.before d.rest d.there (sym (ap ends_inside d.parts) ∙ h.1))))
