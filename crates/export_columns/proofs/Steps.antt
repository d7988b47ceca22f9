-- The loop over a body's tokens: what is put and counted so far, and what is left. Assumes nothing.
use Prim.Native.Nat.{ℕ, ◌+◌, ◌-◌, ◌≤◌, ◌<◌}
use mathlib.Core.Path.{◌≡◌, refl, sym, ap, subst, ◌∙◌}
use mathlib.Core.List.{List, [], ◌∷◌, ◌++◌}
use native.Mathlib.Omega.{arith}
use native.Mathlib.Nat.{add-zero}
use lib.ListN.{length, length-append}
use Rattle.refusals.specs.Limits.{most_bytes}
use Rattle.characters.specs.declared.Characters.{Characters}
use Rattle.values.specs.Tokens.{Token, byte, separator, fault, tokens_at}
use Rattle.values.specs.Spelling.{Bytes}
use Rattle.storing.specs.Sinks.{SinkLaws}
use Rattle.storing.proofs.Putting.{put_after, Going, front_goes, going_step, going_done}
use Rattle.read_counts.proofs.Counts.{tokens_few}
use Rattle.columns.specs.Lines.{heading, line}
use Rattle.export_columns.specs.declared.Line.{Line}
use Rattle.export_columns.specs.Printing.{first, numbers_due, begun_line, line_end, next_line, marks_text, after_marks, past_elements, past_repeats, past_held, held_text, after_byte, byte_text, after_separator, separator_text, lines_rest, lines_of, Room, Roomy}
use Rattle.export_columns.proofs.Lines.{room_less, room_next, room_first, room_byte, room_separator, end_marks, end_held, end_byte, end_separator, marks_first, after_first, marks_end}

-- ---- what tokens print, one after the other

module _ (l : Line) {ts rest : List Token} where
  byte_first : {b from place : ℕ} → ts ≡ byte b from place ∷ rest → lines_rest l ts ≡ byte_text b l ++ lines_rest (after_byte l) rest
  unfolding lines_rest
  byte_first e = ap (lines_rest l) e

  separator_first : {rank place : ℕ} → ts ≡ separator rank place ∷ rest → lines_rest l ts ≡ separator_text rank l ++ lines_rest (after_separator rank l) rest
  unfolding lines_rest
  separator_first e = ap (lines_rest l) e

  fault_first : {place : ℕ} → ts ≡ fault place ∷ rest → lines_rest l ts ≡ lines_rest l rest
  unfolding lines_rest
  fault_first e = ap (lines_rest l) e

heading_length : length heading ≡ 39
unfolding heading line
heading_length = refl

-- ---- counted

-- all is what is counted and what follows, and there is room for what each byte of the input that is left may add
pub record Counted (whole : List Token) (l : Line) (rest : List Token) (left : ℕ) : Type 0 where
  pub long : length (lines_of whole) ≡ l.end + length (lines_rest l rest)
  pub enough : Roomy l left

-- (a stray release character at the end is a token more than there are bytes)
pub first_room : (left : ℕ) → left ≤ most_bytes + 1 → Roomy first left
first_room left h = room_less first (omega arith) (room_first left (omega arith))

-- the lines of any tokens, of which there are not too many, end at a place that fits
lines_within : (l : Line) (ts : List Token) → Roomy l (length ts) → l.end + length (lines_rest l ts) ≤ 9223372036854775807
unfolding lines_rest
lines_within l [] r = omega (arith, r.most)
lines_within l (byte b from place ∷ ts) r =
    omega (
      arith,
      lines_within (after_byte l) ts (room_byte l (omega arith) r),
      end_byte l b,
      length-append (byte_text b l) (lines_rest (after_byte l) ts),
    )
lines_within l (separator rank place ∷ ts) r =
    omega (
      arith,
      lines_within (after_separator rank l) ts (room_separator l rank (omega arith) r),
      end_separator l rank,
      length-append (separator_text rank l) (lines_rest (after_separator rank l) ts),
    )
lines_within l (fault place ∷ ts) r = lines_within l ts (room_less l (omega arith) r)

pub lines_few : (c : Characters) (s : List ℕ) (start : ℕ) → length s ≤ most_bytes
    → 39 + length (lines_rest first (tokens_at c s start)) ≤ 9223372036854775807
lines_few c s start h =
    lines_within first (tokens_at c s start) (first_room (length (tokens_at c s start)) (omega (arith, h, tokens_few c s start)))

counted_start : {l : Line} (ts : List Token) (left : ℕ) → l ≡ first → left ≤ most_bytes → Counted ts l ts left
unfolding lines_of
counted_start ts left d h =
    subst (λ (x : Line). Counted ts x ts left) (sym d)
    (record { long = omega (arith, length-append heading (lines_rest first ts), heading_length); enough = first_room left (omega (arith, h)) })

module _ {whole : List Token} (l : Line) {ts : List Token} {left : ℕ} (g : Counted whole l ts left)
    {m : Line} {rest : List Token} {less : ℕ} (h : less < left) where
  moved : (n : Line) (text : Bytes) → m ≡ n → lines_rest l ts ≡ text ++ lines_rest n rest → n.end ≡ l.end + length text → Roomy n less
      → Counted whole m rest less
  moved n text d w e r =
      subst (λ (x : Line). Counted whole x rest less) (sym d)
      (record { long = omega (arith, g.long, ap length w, length-append text (lines_rest n rest), e); enough = r })

  pub counted_byte : {b from place : ℕ} → ts ≡ byte b from place ∷ rest → m ≡ after_byte l → Counted whole m rest less
  counted_byte {b} e d = moved (after_byte l) (byte_text b l) d (byte_first l e) (end_byte l b) (room_byte l h g.enough)

  pub counted_separator : {rank place : ℕ} → ts ≡ separator rank place ∷ rest → m ≡ after_separator rank l → Counted whole m rest less
  counted_separator {rank} e d =
      moved (after_separator rank l) (separator_text rank l) d (separator_first l e) (end_separator l rank) (room_separator l rank h g.enough)

pub counted_fault : {whole : List Token} (l : Line) {ts : List Token} {left : ℕ} → Counted whole l ts left → {rest : List Token} {less : ℕ} → less < left
    → {place : ℕ} → ts ≡ fault place ∷ rest → Counted whole l rest less
counted_fault l g h e =
    record { long = omega (arith, g.long, ap length (fault_first l e)); enough = room_less l (omega arith) g.enough }

pub counted_end : {whole : List Token} (l : Line) {ts : List Token} {left : ℕ} → Counted whole l ts left → ts ≡ [] → l.end ≡ length (lines_of whole)
unfolding lines_rest
counted_end l g e = omega (arith, g.long, ap (λ (us : List Token). length (lines_rest l us)) e)

-- ---- put

-- the lines of the rest of the tokens, put from here, give the whole
pub record Put (holds : List ℕ → ℕ → List ℕ → List ℕ) (room : List ℕ → ℕ) (b₀ b₁ : List ℕ) (whole : List Token) (l : Line) (rest : List Token) (left : ℕ) : Type 0 where
  pub goes : Going holds room b₀ b₁ 39 l.end (lines_rest first whole) (lines_rest l rest)
  pub counted : Counted whole l rest left

pub put_start : {holds : List ℕ → ℕ → List ℕ → List ℕ} {room : List ℕ → ℕ} {l : Line} (b : List ℕ) (ts : List Token) (left : ℕ) → l ≡ first → left ≤ most_bytes
    → 39 + length (lines_rest first ts) ≤ room b → Put holds room b b ts l ts left
put_start {holds} {room} b ts left d h fits =
    subst (λ (x : Line). Put holds room b b ts x ts left) (sym d)
    (record { goes = record { put = refl; fits = fits; same_room = refl }; counted = counted_start ts left refl h })

module _ {holds : List ℕ → ℕ → List ℕ → List ℕ} {room : List ℕ → ℕ} (laws : SinkLaws holds room) {b₀ b₁ : List ℕ} {whole : List Token} (l : Line) {ts : List Token} {left : ℕ}
    (g : Put holds room b₀ b₁ whole l ts left) where
  module _ {b from place : ℕ} {rest : List Token} (e : ts ≡ byte b from place ∷ rest) where
    pub byte_fits : l.end + length (byte_text b l) ≤ room b₁
    byte_fits = front_goes laws g.goes (byte_text b l) (lines_rest (after_byte l) rest) (byte_first l e)

    pub byte_put : {b₂ : List ℕ} {m : Line} {less : ℕ} → b₂ ≡ holds b₁ l.end (byte_text b l) → m ≡ after_byte l → less < left
        → Put holds room b₀ b₂ whole m rest less
    byte_put {b₂} {m} {less} p d h =
        subst (λ (x : Line). Put holds room b₀ b₂ whole x rest less) (sym d)
        (record {
          goes = going_step laws g.goes (byte_text b l) (lines_rest (after_byte l) rest) (byte_first l e) p (end_byte l b);
          counted = counted_byte l g.counted h e refl;
        })

  module _ {rank place : ℕ} {rest : List Token} (e : ts ≡ separator rank place ∷ rest) where
    pub separator_fits : l.end + length (separator_text rank l) ≤ room b₁
    separator_fits = front_goes laws g.goes (separator_text rank l) (lines_rest (after_separator rank l) rest) (separator_first l e)

    pub separator_put : {b₂ : List ℕ} {m : Line} {less : ℕ} → b₂ ≡ holds b₁ l.end (separator_text rank l) → m ≡ after_separator rank l → less < left
        → Put holds room b₀ b₂ whole m rest less
    separator_put {b₂} {m} {less} p d h =
        subst (λ (x : Line). Put holds room b₀ b₂ whole x rest less) (sym d)
        (record {
          goes = going_step laws g.goes (separator_text rank l) (lines_rest (after_separator rank l) rest) (separator_first l e) p (end_separator l rank);
          counted = counted_separator l g.counted h e refl;
        })

  pub fault_put : {place : ℕ} {rest : List Token} {less : ℕ} → ts ≡ fault place ∷ rest → less < left → Put holds room b₀ b₁ whole l rest less
  fault_put {place} {rest} e h =
      record {
        goes = going_step laws g.goes [] (lines_rest l rest) (fault_first l e) (sym (laws.none b₁ l.end)) (sym (add-zero l.end));
        counted = counted_fault l g.counted h e;
      }

  pub all_put_lem : ts ≡ [] → (b₁ ≡ holds b₀ 39 (lines_rest first whole)) × (l.end ≡ length (lines_of whole))
  unfolding lines_rest
  all_put_lem e = (going_done laws g.goes (ap (lines_rest l) e), counted_end l g.counted e)

-- ---- separators that are let out

-- Of `count` that are to be let out i are: the text that is left of them, put from here, gives the whole, the line after all of them is the
-- line after those that are left, and there is room for these.
pub record Lets (holds : List ℕ → ℕ → List ℕ → List ℕ) (room : List ℕ → ℕ) (kind count : ℕ) (b₀ b₁ : List ℕ) (l m : Line) (i : ℕ) : Type 0 where
  pub goes : Going holds room b₀ b₁ l.end m.end (marks_text kind count l) (marks_text kind (count - i) m)
  pub after : after_marks kind count l ≡ after_marks kind (count - i) m
  pub passed : i ≤ count
  pub enough : Room m (count - i)

module _ {holds : List ℕ → ℕ → List ℕ → List ℕ} {room : List ℕ → ℕ} (laws : SinkLaws holds room) {kind count : ℕ} {b₀ b₁ : List ℕ} {l : Line} (m : Line) {i : ℕ}
    (g : Lets holds room kind count b₀ b₁ l m i) where
  module _ (h : i < count) where
    pub lets_fits : m.end + length (line_end m) ≤ room b₁
    lets_fits = front_goes laws g.goes (line_end m) (marks_text kind (count - (i + 1)) (next_line kind m)) (marks_first kind count i h m)

    pub lets_room : Room m 1
    lets_room = room_less m (omega arith) g.enough

    pub lets_step : {b₂ : List ℕ} {n : Line} → b₂ ≡ holds b₁ m.end (line_end m) → n ≡ next_line kind m → Lets holds room kind count b₀ b₂ l n (i + 1)
    lets_step {b₂} p d =
        subst (λ (x : Line). Lets holds room kind count b₀ b₂ l x (i + 1)) (sym d)
        (record {
          goes = going_step laws g.goes (line_end m) (marks_text kind (count - (i + 1)) (next_line kind m)) (marks_first kind count i h m) p refl;
          after = g.after ∙ after_first kind count i h m;
          passed = omega arith;
          enough = room_next m kind (room_less m (omega arith) g.enough);
        })

  pub lets_end : count ≤ i → (b₁ ≡ holds b₀ l.end (marks_text kind count l)) × (m ≡ after_marks kind count l)
  lets_end h = (going_done laws g.goes (marks_end kind count i m h).0, sym (g.after ∙ (marks_end kind count i m h).1))

-- ---- one text after the other

module _ {holds : List ℕ → ℕ → List ℕ → List ℕ} {room : List ℕ → ℕ} (laws : SinkLaws holds room) (b₀ : List ℕ) where
  -- what is held back: those of elements, then those of repeats, then those of components
  pub held_put : {b₁ b₂ b₃ : List ℕ} (l o p : Line) → b₁ ≡ holds b₀ l.end (marks_text 1 l.held.elements l) → o ≡ past_elements l
      → b₂ ≡ holds b₁ o.end (marks_text 3 l.held.repeats o) → p ≡ after_marks 3 l.held.repeats o
      → b₃ ≡ holds b₂ p.end (marks_text 2 l.held.components p) → b₃ ≡ holds b₀ l.end (held_text l)
  unfolding held_text
  held_put {b₁} {b₂} {b₃} l o p a d b f g =
      put_after laws b₀ l.end (marks_text 1 l.held.elements l)
      (marks_text 3 l.held.repeats (past_elements l) ++ marks_text 2 l.held.components (past_repeats l))
      a (ap (λ (x : Line). x.end) d ∙ end_marks 1 l.held.elements l)
      (put_after laws b₁ o.end (marks_text 3 l.held.repeats o) (marks_text 2 l.held.components p) b
      (ap (λ (x : Line). x.end) f ∙ end_marks 3 l.held.repeats o) g
      ∙ ap (λ (x : Line). holds b₁ o.end (marks_text 3 l.held.repeats o ++ marks_text 2 l.held.components x)) f
      ∙ ap (λ (x : Line). holds b₁ o.end (marks_text 3 l.held.repeats x ++ marks_text 2 l.held.components (after_marks 3 l.held.repeats x))) d)

  -- a byte of a value, after what is held back and the numbers
  pub value_put : {b₁ b₂ b₃ : List ℕ} (l : Line) {past m : Line} (b : ℕ) → b₁ ≡ holds b₀ l.end (held_text l) → past ≡ past_held l
      → b₂ ≡ holds b₁ past.end (numbers_due past) → m ≡ begun_line past → b₃ ≡ holds b₂ m.end (b ∷ []) → b₃ ≡ holds b₀ l.end (byte_text b l)
  unfolding byte_text
  value_put {b₁} {b₂} {b₃} l {past} {m} b u d v e w =
      put_after laws b₀ l.end (held_text l) (numbers_due (past_held l) ++ b ∷ []) u (ap (λ (x : Line). x.end) d ∙ end_held l)
      (put_after laws b₁ past.end (numbers_due past) (b ∷ []) v (ap (λ (x : Line). x.end) e) w
      ∙ ap (λ (x : Line). holds b₁ past.end (numbers_due x ++ b ∷ [])) d)
