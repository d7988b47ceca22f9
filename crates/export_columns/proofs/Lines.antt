-- One line after the other: where each step ends, and that counting goes on. Assumes nothing.
use Rattle.std.specs.Prelude.{if◌then◌else◌}
use Prim.Native.Nat.{ℕ, zero, suc, ◌+◌, ◌*◌, ◌-◌, ◌≤◌, ◌<◌}
use mathlib.Core.Path.{◌≡◌, refl, sym, ap, ap₂, subst, ◌∙◌}
use mathlib.Core.Bool.{Bool, true, false}
use mathlib.Core.List.{[], ◌∷◌, ◌++◌}
use native.Mathlib.Omega.{arith}
use native.Mathlib.Nat.{add-zero}
use lib.Dec.{leb, eqb}
use lib.ListN.{length, length-append}
use borrow.Author.Tests.{le-leb, lt-leb}
use Rattle.lists.proofs.Texts.{if_true, if_false}
use Rattle.values.specs.Spelling.{Bytes}
use Rattle.emission_laws.specs.declared.Held.{Held}
use Rattle.emission_laws.specs.Emission.{nothing, waiting, separated}
use Rattle.emission_laws.proofs.Steps.{by_rank}
use Rattle.columns.specs.Lines.{line_feed}
use Rattle.column_laws.specs.declared.Position.{Position}
use Rattle.column_laws.specs.Positions.{at, next_at}
use Rattle.column_lines.specs.Numbers.{numbers_at}
use Rattle.column_lines.proofs.Numbers.{numbers_most}
use Rattle.export_columns.specs.declared.Line.{Line}
use Rattle.export_columns.specs.Printing.{first, holding, numbers_due, begun_line, line_end, next_line, marks_text, after_marks, past_elements, past_repeats, past_held, held_text, grown, after_byte, byte_text, after_separator, separator_text, Room, Roomy}

-- ---- the numbers of the open value

module _ (l : Line) where
  pub due_none : l.begun ≡ true → numbers_due l ≡ []
  unfolding numbers_due
  due_none e = if_true l.begun [] (numbers_at l.position) e

  pub due_numbers : l.begun ≡ false → numbers_due l ≡ numbers_at l.position
  unfolding numbers_due
  due_numbers e = if_false l.begun [] (numbers_at l.position) e

  -- where they are printed nothing changes
  pub begun_already : l.begun ≡ true → l ≡ begun_line l
  begun_already e =
      ap₂ (λ (n : ℕ) (b : Bool). record { end = n; position = l.position; begun = b; held = l.held })
      (omega (arith, ap length (due_none e)))
      e

  pub begun_at : {end : ℕ} → l.begun ≡ false → end ≡ l.end + length (numbers_at l.position)
      → record { end = end; position = l.position; begun = true; held = l.held } ≡ begun_line l
  begun_at e d =
      ap (λ (n : ℕ). record { end = n; position = l.position; begun = true; held = l.held })
      (d ∙ ap (λ (text : Bytes). l.end + length text) (sym (due_numbers e)))

  pub end_length : length (line_end l) ≡ length (numbers_due l) + 1
  end_length = length-append (numbers_due l) (line_feed ∷ [])

  -- the same from the place that was reached
  pub next_told : (kind : ℕ) {m : Line} {p : Position} → m ≡ begun_line l → p ≡ next_at m.position kind
      → record { end = m.end + 1; position = p; begun = false; held = m.held } ≡ next_line kind l
  next_told kind {m} d q =
      ap (λ (p : Position). record { end = m.end + 1; position = p; begun = false; held = m.held }) q
      ∙ ap (λ (m : Line). record { end = m.end + 1; position = next_at m.position kind; begun = false; held = m.held }) d
      ∙ ap (λ (n : ℕ). record { end = n; position = next_at l.position kind; begun = false; held = l.held }) (omega (arith, end_length))

  pub grown_told : {m : Line} {h : Held} → m ≡ begun_line l → h ≡ nothing
      → record { end = m.end + 1; position = m.position; begun = m.begun; held = h } ≡ grown l
  grown_told {m} d q =
      ap (λ (h : Held). record { end = m.end + 1; position = m.position; begun = m.begun; held = h }) q
      ∙ ap (λ (m : Line). record { end = m.end + 1; position = m.position; begun = m.begun; held = nothing }) d

-- ---- room

-- a position's numbers are one more at most after a step
next_low : (p : Position) (kind most : ℕ) → p.segment ≤ most → p.element ≤ most → p.repeat ≤ most → p.component ≤ most
    → ((next_at p kind).segment ≤ most + 1) × ((next_at p kind).element ≤ most + 1) × ((next_at p kind).repeat ≤ most + 1) × ((next_at p kind).component ≤ most + 1)
unfolding next_at
next_low p kind most s e r c = step (leb kind 0) (leb kind 1) (eqb kind 3)
  where
    step : (x y z : Bool)
        → let q : Position =
        if x then at (p.segment + 1) 0 0 0
        else (if y then at p.segment (p.element + 1) 0 0
        else (if z then at p.segment p.element (p.repeat + 1) 0 else at p.segment p.element p.repeat (p.component + 1))) in
        (q.segment ≤ most + 1) × (q.element ≤ most + 1) × (q.repeat ≤ most + 1) × (q.component ≤ most + 1)
    step true y z = (omega arith, omega arith, omega arith, omega arith)
    step false true z = (omega arith, omega arith, omega arith, omega arith)
    step false false true = (omega arith, omega arith, omega arith, omega arith)
    step false false false = (omega arith, omega arith, omega arith, omega arith)

-- a line that ends here, and whose numbers are at most this
fresh_room : (l : Line) (more : ℕ) → l.begun ≡ false → l.position.segment ≤ l.end → l.position.element ≤ l.end
    → l.position.repeat ≤ l.end → l.position.component ≤ l.end → l.end + 84 + 85 * more ≤ 9223372036854775807 → Room l more
fresh_room l more b s e r c h =
    record {
      segment = s;
      element = e;
      repeat = r;
      component = c;
      most =
          omega (arith, h, ap length (due_numbers l b), numbers_most l.position (omega arith) (omega arith) (omega arith) (omega arith));
    }

pub room_less : (l : Line) {less more : ℕ} → less ≤ more → Room l more → Room l less
room_less l h r =
    record { segment = r.segment; element = r.element; repeat = r.repeat; component = r.component; most = omega (arith, r.most) }

module _ (l : Line) {more : ℕ} where
  pub room_holding : (h : Held) → Room l more → Room (holding h l) more
  unfolding numbers_due
  room_holding h r =
      record { segment = r.segment; element = r.element; repeat = r.repeat; component = r.component; most = r.most }

  pub room_next : (kind : ℕ) → Room l (suc more) → Room (next_line kind l) more
  room_next kind r =
      let low = next_low l.position kind l.end r.segment r.element r.repeat r.component in
      let further = end_length l in
      fresh_room (next_line kind l) more refl (omega (arith, low.0, further)) (omega (arith, low.1, further)) (omega (arith, low.2, further))
      (omega (arith, low.3, further)) (omega (arith, r.most, further))

  pub room_grown : Room l (suc more) → Room (grown l) more
  unfolding numbers_due
  room_grown r =
      record {
        segment = omega (arith, r.segment);
        element = omega (arith, r.element);
        repeat = omega (arith, r.repeat);
        component = omega (arith, r.component);
        most = omega (arith, r.most);
      }

-- so that a position can be moved on
pub begun_low : (l : Line) {more : ℕ} {m : Line} → Room l more → m ≡ begun_line l
    → (m.position.segment < 18446744073709551615)
    × (m.position.element < 18446744073709551615)
    × (m.position.repeat < 18446744073709551615)
    × (m.position.component < 18446744073709551615)
begun_low l {more} r d =
    let most = r.most in
    subst
    (λ (x : Line). (x.position.segment < 18446744073709551615)
    × (x.position.element < 18446744073709551615)
    × (x.position.repeat < 18446744073709551615)
    × (x.position.component < 18446744073709551615))
    (sym d)
    (omega (arith, r.segment), omega (arith, r.element), omega (arith, r.repeat), omega (arith, r.component))

pub room_marks : (kind count : ℕ) (l : Line) {more : ℕ} → Room l (count + more) → Room (after_marks kind count l) more
unfolding after_marks
room_marks kind zero l r = room_less l (omega arith) r
room_marks kind (suc count) l r = room_marks kind count (next_line kind l) (room_next l kind (room_less l (omega arith) r))

pub room_first : (more : ℕ) → 123 + 85 * more ≤ 9223372036854775807 → Room first more
room_first more h = fresh_room first more refl (omega arith) (omega arith) (omega arith) (omega arith) (omega arith)

-- ---- separators that are let out

-- where none is let out nothing changes
pub marks_none : (kind count : ℕ) (l : Line) → count ≡ 0 → l ≡ after_marks kind count l
unfolding after_marks
marks_none kind count l e = ap (λ (n : ℕ). after_marks kind n l) (sym e)

pub end_marks : (kind count : ℕ) (l : Line) → (after_marks kind count l).end ≡ l.end + length (marks_text kind count l)
unfolding after_marks marks_text
end_marks kind zero l = sym (add-zero l.end)
end_marks kind (suc count) l =
    omega (arith, end_marks kind count (next_line kind l), length-append (line_end l) (marks_text kind count (next_line kind l)))

module _ (kind count i : ℕ) (h : i < count) (l : Line) where
  one_more : count - i ≡ suc (count - (i + 1))
  one_more = omega arith

  -- the first of those that are left ends the open line, and the others follow it
  pub marks_first : marks_text kind (count - i) l ≡ line_end l ++ marks_text kind (count - (i + 1)) (next_line kind l)
  unfolding marks_text
  marks_first = ap (λ (n : ℕ). marks_text kind n l) one_more

  pub after_first : after_marks kind (count - i) l ≡ after_marks kind (count - (i + 1)) (next_line kind l)
  unfolding after_marks
  after_first = ap (λ (n : ℕ). after_marks kind n l) one_more

pub marks_end : (kind count i : ℕ) (l : Line) → count ≤ i → (marks_text kind (count - i) l ≡ []) × (after_marks kind (count - i) l ≡ l)
unfolding marks_text after_marks
marks_end kind count i l h =
    let none : count - i ≡ 0 = omega arith in
    (ap (λ (n : ℕ). marks_text kind n l) none, ap (λ (n : ℕ). after_marks kind n l) none)

-- ---- all that is held back

module _ (l : Line) where
  pub held_none : waiting l.held ≡ 0 → l ≡ past_held l
  unfolding past_held
  held_none e =
      marks_none 1 l.held.elements l (omega arith)
      ∙ marks_none 3 l.held.repeats (past_elements l) (omega arith)
      ∙ marks_none 2 l.held.components (past_repeats l) (omega arith)

  pub held_nothing : waiting l.held ≡ 0 → held_text l ≡ []
  unfolding held_text marks_text
  held_nothing e =
      let none : l.held.elements ≡ 0 = omega arith in
      let no_repeats : l.held.repeats ≡ 0 = omega arith in
      let no_components : l.held.components ≡ 0 = omega arith in
      ap (λ (n : ℕ). marks_text 1 n l ++ (marks_text 3 l.held.repeats (past_elements l) ++ marks_text 2 l.held.components (past_repeats l))) none
      ∙ ap (λ (n : ℕ). marks_text 3 n (past_elements l) ++ marks_text 2 l.held.components (past_repeats l)) no_repeats
      ∙ ap (λ (n : ℕ). marks_text 2 n (past_repeats l)) no_components

  pub end_held : (past_held l).end ≡ l.end + length (held_text l)
  unfolding past_held held_text
  end_held =
      let elements = marks_text 1 l.held.elements l in
      let repeats = marks_text 3 l.held.repeats (past_elements l) in
      let components = marks_text 2 l.held.components (past_repeats l) in
      omega (
        arith,
        end_marks 1 l.held.elements l,
        end_marks 3 l.held.repeats (past_elements l),
        end_marks 2 l.held.components (past_repeats l),
        length-append elements (repeats ++ components),
        length-append repeats components,
      )

  -- each part of the text is in it
  text_parts : length (held_text l)
      ≡ length (marks_text 1 l.held.elements l)
      + (length (marks_text 3 l.held.repeats (past_elements l)) + length (marks_text 2 l.held.components (past_repeats l)))
  unfolding held_text
  text_parts =
      let repeats = marks_text 3 l.held.repeats (past_elements l) in
      let components = marks_text 2 l.held.components (past_repeats l) in
      omega (arith, length-append (marks_text 1 l.held.elements l) (repeats ++ components), length-append repeats components)

  pub elements_fit : l.end + length (marks_text 1 l.held.elements l) ≤ l.end + length (held_text l)
  elements_fit = omega (arith, text_parts)

  pub repeats_fit : {o : Line} → o ≡ past_elements l → o.end + length (marks_text 3 l.held.repeats o) ≤ l.end + length (held_text l)
  repeats_fit d =
      subst (λ (x : Line). x.end + length (marks_text 3 l.held.repeats x) ≤ l.end + length (held_text l)) (sym d)
      (omega (arith, text_parts, end_marks 1 l.held.elements l))

  pub components_fit : {o : Line} → o ≡ past_repeats l → o.end + length (marks_text 2 l.held.components o) ≤ l.end + length (held_text l)
  components_fit d =
      subst (λ (x : Line). x.end + length (marks_text 2 l.held.components x) ≤ l.end + length (held_text l)) (sym d)
      (omega (arith, text_parts, end_marks 1 l.held.elements l, end_marks 3 l.held.repeats (past_elements l)))

  module _ (more : ℕ) (r : Roomy l more) where
    pub room_elements : Room (past_elements l) (l.held.repeats + (l.held.components + more))
    room_elements = room_marks 1 l.held.elements l (room_less l (omega arith) r)

    pub room_repeats : Room (past_repeats l) (l.held.components + more)
    room_repeats = room_marks 3 l.held.repeats (past_elements l) room_elements

    pub room_held : Room (past_held l) more
    unfolding past_held
    room_held = room_marks 2 l.held.components (past_repeats l) room_repeats

-- ---- a byte and a separator

module _ (l : Line) where
  pub byte_parts : (b : ℕ) → length (byte_text b l) ≡ length (held_text l) + length (numbers_due (past_held l)) + 1
  unfolding byte_text
  byte_parts b =
      omega (arith, length-append (held_text l) (numbers_due (past_held l) ++ b ∷ []), length-append (numbers_due (past_held l)) (b ∷ []))

  pub end_byte : (b : ℕ) → (after_byte l).end ≡ l.end + length (byte_text b l)
  end_byte b = omega (arith, end_held l, byte_parts b)

  pub room_byte : {left less : ℕ} → less < left → Roomy l left → Roomy (after_byte l) less
  room_byte {left} {less} h r =
      room_less (after_byte l) (omega arith) (room_grown (past_held l) (room_held l (suc less) (room_less l (omega arith) r)))

  pub end_separator : (rank : ℕ) → (after_separator rank l).end ≡ l.end + length (separator_text rank l)
  unfolding after_separator separator_text
  end_separator rank = step (leb rank 0)
    where
      step : (t : Bool) → (if t then next_line 0 l else l).end ≡ l.end + length (if t then line_end l else [])
      step true = refl
      step false = sym (add-zero l.end)

  pub terminator_text : (rank : ℕ) → rank ≡ 0 → separator_text rank l ≡ line_end l
  unfolding separator_text
  terminator_text rank z = if_true (leb rank 0) (line_end l) [] (le-leb rank 0 (omega arith))

  pub no_text : (rank : ℕ) → (rank ≡ 0 → ⊥) → separator_text rank l ≡ []
  unfolding separator_text
  no_text rank z = if_false (leb rank 0) (line_end l) [] (lt-leb rank 0 (omega arith))

  pub after_terminator : (rank : ℕ) {m : Line} {h : Held} → rank ≡ 0 → m ≡ next_line 0 l → h ≡ separated l.held rank
      → holding h m ≡ after_separator rank l
  unfolding after_separator
  after_terminator rank {m} {h} z d e =
      ap₂ holding e (d ∙ sym (if_true (leb rank 0) (next_line 0 l) l (le-leb rank 0 (omega arith))))

  pub after_other : (rank : ℕ) {h : Held} → (rank ≡ 0 → ⊥) → h ≡ separated l.held rank → holding h l ≡ after_separator rank l
  unfolding after_separator
  after_other rank {h} z e =
      ap₂ holding e (sym (if_false (leb rank 0) (next_line 0 l) l (lt-leb rank 0 (omega arith))))

  pub room_separator : (rank : ℕ) {left less : ℕ} → less < left → Roomy l left → Roomy (after_separator rank l) less
  unfolding after_separator
  room_separator rank {left} {less} h r =
      by_rank (λ t k. Roomy (holding k (if t then next_line 0 l else l)) less) l.held rank
      (room_holding (next_line 0 l) nothing (room_next l 0 (room_less l (omega arith) r)))
      (room_holding l _ (room_less l (omega arith) r))
      (room_holding l _ (room_less l (omega arith) r))
      (room_holding l _ (room_less l (omega arith) r))
