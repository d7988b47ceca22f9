-- What is emitted of a body has at most one byte for each of its bytes, and one more for each that is a service character of the characters
-- that it is emitted with, and none of those that it is read with: any other byte of a value that is spelled with a release character was read
-- after one. Assumes nothing.
use Rattle.std.specs.Prelude.{if◌then◌else◌}
use Prim.Native.Nat.{ℕ, zero, suc, ◌+◌, ◌-◌, ◌*◌, ◌≤◌}
use mathlib.Core.Path.{◌≡◌, refl, ap, ◌∙◌}
use mathlib.Core.Bool.{Bool, true, false, not, ◌&&◌, and-true, and-not_self}
use mathlib.Core.List.{List, [], ◌∷◌, ◌++◌}
use native.Mathlib.Omega.{arith}
use lib.Dec.{leb}
use lib.ListN.{length, drop, length-append, length-drop}
use mir.Val.{bool_byte}
use Rattle.characters.specs.declared.Characters.{Characters}
use Rattle.characters.specs.declared.Role.{Role}
use Rattle.characters.specs.declared.Role.TheVariants.{Separator, Release, Plain}
use Rattle.characters.specs.Characters.{role, is_service, is_break}
use Rattle.values.specs.Tokens.{Token, byte, separator, fault, Reading, inside, released, passing, unreleased, reading, taken, tokens_from, tokens, tokens_at}
use Rattle.values.specs.Spelling.{spell_byte}
use Rattle.spelling_laws.proofs.Service.{serves, service_serves}
use Rattle.storing.proofs.Stores.{spelled_length}
use Rattle.stages.specs.Contents.{normal_characters}
use Rattle.emission_laws.specs.declared.Held.{Held}
use Rattle.emission_laws.specs.Emission.{nothing, waiting, separated, held_next, let_out, spelled_next, emitted}
use Rattle.emission_laws.proofs.Cases.{by_spelling}
use Rattle.emission_laws.proofs.Steps.{by_rank, let_out_length}
use Rattle.verbatim.specs.Verbatim.{is_normal}
use Rattle.verbatim.proofs.Emitted.{named}
use Rattle.length_bound.specs.Bound.{counted, released_anew, most_contents}
use Rattle.length_bound.specs.declared.Unshared.{Unshared}
use Rattle.length_bound.specs.Unshared.{unshared, is_unshared}
use Rattle.length_bound.proofs.Counted.{counted_first, counted_most, counted_none, counted_alike, unshared_anew}

module _ (n : Characters) where
  -- the tokens spell at most k bytes more than are held back
  record Adds (k : ℕ) (ts : List Token) : Type 0 where
    most : (h : Held) → length (emitted n h ts) ≤ waiting h + k

  more : {k l : ℕ} {ts : List Token} → k ≤ l → Adds k ts → Adds l ts
  more m p = record { most = λ h. omega (arith, m, p.most h) }

  -- ---- a token

  byte_adds : {k l : ℕ} (b from place : ℕ) {ts : List Token} → length (spell_byte n b) ≤ l → Adds k ts → Adds (l + k) (byte b from place ∷ ts)
  unfolding emitted spelled_next held_next
  byte_adds b from place {ts} m p =
      record {
        most = λ h.
            omega (
              arith,
              m,
              p.most nothing,
              length-append (let_out n h ++ spell_byte n b) (emitted n nothing ts),
              length-append (let_out n h) (spell_byte n b),
              let_out_length n h,
            );
      }

  separator_adds : {k : ℕ} (rank place : ℕ) {ts : List Token} → Adds k ts → Adds (1 + k) (separator rank place ∷ ts)
  unfolding emitted spelled_next held_next
  separator_adds rank place {ts} p =
      record {
        most = λ h.
            omega (
              arith,
              p.most (separated h rank),
              length-append (if leb rank 0 then n.terminator ∷ [] else []) (emitted n (separated h rank) ts),
              by_rank (λ t next. length {A = ℕ} (if t then n.terminator ∷ [] else []) + waiting next ≤ waiting h + 1) h rank (omega arith) (omega arith) (omega arith) (omega arith),
            );
      }

  fault_adds : {k : ℕ} (place : ℕ) {ts : List Token} → Adds k ts → Adds k (fault place ∷ ts)
  unfolding emitted spelled_next held_next
  fault_adds place p = record { most = λ h. p.most h }

  none_adds : Adds 0 []
  unfolding emitted
  none_adds = record { most = λ h. omega arith }

  two : (b : ℕ) → length (spell_byte n b) ≤ 2
  two b = by_spelling (λ s. length s ≤ 2) n b (omega arith) (omega arith)

  taken_adds : (r : Role) (b from place : ℕ) {k : ℕ} {ts : List Token} → Adds k ts → Adds (2 + k) (taken r b from place ts)
  unfolding taken
  taken_adds (Separator rank) b from place p = byte_adds b from place (two b) p
  taken_adds Release b from place p = byte_adds b from place (two b) p
  taken_adds Plain b from place p = more (omega arith) (fault_adds from p)

-- ---- a byte that is read

-- the release character that was read before the bytes
abbrev before : Reading → ℕ
before inside = 0
before (released from) = 1
before passing = 0

module _ (c n : Characters) where
  -- one more, where the byte is released anew
  abbrev anew : ℕ → ℕ
  anew b = bool_byte (released_anew c n b)

  -- what a byte of a value takes, which was not read after a release character: it is no service character
  alone : (b : ℕ) → is_service c b ≡ false → length (spell_byte n b) ≤ anew b + 1
  unfolding released_anew
  alone b v =
      omega (
        arith,
        spelled_length n b refl,
        ap (λ (t : Bool). bool_byte (is_service n b && not t)) v,
        ap bool_byte (and-true (is_service n b)),
      )

  unreleased_adds : (r : Role) (b place k : ℕ) → is_service c b ≡ serves r → (rest : Reading → List Token)
      → Adds n (before (reading r place) + k) (rest (reading r place)) → Adds n (anew b + suc k) (unreleased r b place (rest (reading r place)))
  unfolding unreleased reading
  unreleased_adds (Separator zero) b place k v rest p = more n (omega arith) (separator_adds n zero place p)
  unreleased_adds (Separator (suc rank)) b place k v rest p = more n (omega arith) (separator_adds n (suc rank) place p)
  unreleased_adds Release b place k v rest p = more n (omega arith) p
  unreleased_adds Plain b place k v rest p = more n (omega arith) (byte_adds n b place place (alone b v) p)

  -- one for each byte, and one more for each that is released anew
  abbrev most : List ℕ → ℕ
  most bs = length bs + counted (released_anew c n) bs

  most_next : (b : ℕ) (bs : List ℕ) → most (b ∷ bs) ≡ anew b + suc (most bs)
  most_next b bs = omega (arith, counted_first (released_anew c n) b bs)

  reading_adds : (r : Reading) (place : ℕ) (bs : List ℕ) → Adds n (before r + most bs) (tokens_from c r place bs)
  unfolding tokens_from
  reading_adds inside place [] = more n (omega arith) (none_adds n)
  reading_adds (released from) place [] = more n (omega arith) (fault_adds n from (none_adds n))
  reading_adds passing place [] = more n (omega arith) (none_adds n)
  reading_adds inside place (b ∷ bs) =
      more n (omega (arith, most_next b bs))
      (unreleased_adds (role c b) b place (most bs) (service_serves c b) (λ r. tokens_from c r (place + 1) bs) (reading_adds (reading (role c b) place) (place + 1) bs))
  reading_adds (released from) place (b ∷ bs) =
      more n (omega (arith, most_next b bs)) (taken_adds n (role c b) b from place (reading_adds inside (place + 1) bs))
  reading_adds passing place (b ∷ bs) =
      step (is_break b) (reading_adds passing (place + 1) bs)
      (unreleased_adds (role c b) b place (most bs) (service_serves c b) (λ r. tokens_from c r (place + 1) bs) (reading_adds (reading (role c b) place) (place + 1) bs))
    where
      step : (t : Bool) {ts us : List Token} → Adds n (0 + most bs) ts → Adds n (anew b + suc (most bs)) us → Adds n (0 + most (b ∷ bs)) (if t then ts else us)
      step true p q = more n (omega (arith, most_next b bs)) p
      step false p q = more n (omega (arith, most_next b bs)) q

-- no contents are longer, spelled with a normal form's characters
pub contents_most : (c : Characters) (repetition : ℕ) (s : List ℕ) (start : ℕ)
    → length (emitted (normal_characters c.mark repetition) nothing (tokens_at c s start)) ≤ most_contents c repetition (drop start s)
unfolding most_contents tokens_at tokens
contents_most c repetition s start = omega (arith, (reading_adds c (normal_characters c.mark repetition) inside start (drop start s)).most nothing)

-- their bound is at most twice what the body has
pub most_low : (c : Characters) (repetition : ℕ) (s : List ℕ) (start : ℕ) → most_contents c repetition (drop start s) ≤ 2 * (length s - start)
unfolding most_contents
most_low c repetition s start =
    omega (arith, counted_most (released_anew c (normal_characters c.mark repetition)) (drop start s), length-drop start s)

-- and where the characters are the normal form's, it is the body's length
pub most_normal : (c : Characters) (repetition : ℕ) (body : List ℕ) → is_normal c repetition ≡ true → most_contents c repetition body ≡ length body
unfolding most_contents released_anew
most_normal c repetition body e =
    omega (
      arith,
      ap (λ (n : Characters). counted (released_anew c n) body) (named c repetition e),
      counted_none (released_anew c c) (λ b. and-not_self (is_service c b)) body,
    )

-- elsewhere it is that and what is counted
pub most_counted : (c : Characters) (repetition : ℕ) (body : List ℕ) {n : Characters} {u : Unshared} {r : ℕ}
    → n ≡ normal_characters c.mark repetition → u ≡ unshared c n → r ≡ counted (is_unshared n u) body → length body + r ≡ most_contents c repetition body
unfolding most_contents
most_counted c repetition body {n} e d k =
    ap (λ (m : ℕ). length body + m)
    (k
    ∙ ap (λ (v : Unshared). counted (is_unshared n v) body) d
    ∙ counted_alike (is_unshared n (unshared c n)) (released_anew c n) (unshared_anew c n) body
    ∙ ap (λ (m : Characters). counted (released_anew c m) body) e)
