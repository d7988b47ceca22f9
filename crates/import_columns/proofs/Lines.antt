-- A line is its four numbers, its value and a line feed: where it stands, and where none does. Assumes nothing.
use Rattle.std.specs.Prelude.{if◌then◌else◌, Some, None}
use Prim.Native.Nat.{ℕ, ◌+◌, ◌-◌, ◌≤◌, ◌<◌}
use mathlib.Core.Path.{◌≡◌, refl, sym, ap, ap₂, subst, ◌∙◌}
use mathlib.Core.Bool.{Bool, true, false, not, ◌||◌, true≢false}
use mathlib.Core.List.{List, [], ◌∷◌, ◌++◌, append_assoc}
use native.Mathlib.Omega.{arith}
use lib.Dec.{eqb}
use lib.ListN.{length, take, drop, get_or, length-append, length-drop}
use lib.Seq.{take_at, drop-drop, drop-append_seam, get_or-drop}
use Rattle.lists.specs.Lists.{member, begins, all}
use Rattle.lists.proofs.Texts.{and_both, if_true, if_false}
use Rattle.lists.proofs.Numbers.{drop_next}
use Rattle.lists.proofs.Tests.{says_begins}
use Rattle.values.specs.Spelling.{Bytes}
use Rattle.columns.specs.Lines.{tab, line_feed, in_decimal, line, value_line, fits_line}
use Rattle.columns.specs.Reading.{before}
use Rattle.column_laws.specs.declared.Position.{Position}
use Rattle.column_laws.specs.Positions.{line_at}
use Rattle.column_laws.proofs.Columned.{before_append}
use Rattle.column_lines.specs.Numbers.{cell, numbers_at}
use Rattle.column_walk.specs.declared.Line.{Line}
use Rattle.column_walk.specs.Walk.{value_of, Stands, Missing, Sought}
use Rattle.column_walk.proofs.Walk.{none_not_some, some_same}
use Rattle.import_columns.specs.Importing.{ends_value}

-- ---- what ends a value

pub ends_tested : (b : ℕ) → (eqb b 9 || (eqb b 13 || eqb b 10)) ≡ ends_value b
unfolding member
ends_tested b = step (eqb b 9) (eqb b 13) (eqb b 10)
  where
    step : (x y z : Bool) → (x || (y || z)) ≡ (x || (y || (z || false)))
    step true y z = refl
    step false true z = refl
    step false false true = refl
    step false false false = refl

module _ (t : ℕ → Bool) where
  -- what stands before the first is a front, and none of it passes
  before_front : (xs : Bytes) → xs ≡ before t xs ++ drop (length (before t xs)) xs
  unfolding before
  before_front [] = refl
  before_front (x ∷ xs) = step (t x) (before_front xs)
    where
      step : (b : Bool) → xs ≡ before t xs ++ drop (length (before t xs)) xs
          → x ∷ xs ≡ (if b then [] else x ∷ before t xs) ++ drop (length (if b then [] else x ∷ before t xs)) (x ∷ xs)
      step true e = refl
      step false e = ap (λ (l : Bytes). x ∷ l) e

  before_none : (xs : Bytes) → all (λ b. not (t b)) (before t xs) ≡ true
  unfolding before all
  before_none [] = refl
  before_none (x ∷ xs) = step (t x) refl (before_none xs)
    where
      step : (b : Bool) → t x ≡ b → all (λ y. not (t y)) (before t xs) ≡ true → all (λ y. not (t y)) (if b then [] else x ∷ before t xs) ≡ true
      step true d e = refl
      step false d e = and_both (not (t x)) (all (λ y. not (t y)) (before t xs)) (ap not d) e

  module _ (s : List ℕ) (i : ℕ) where
    -- from a place on, by the byte that stands there
    pub before_hit : i < length s → t (get_or s i 0) ≡ true → before t (drop i s) ≡ []
    unfolding before
    before_hit h e = ap (before t) (drop_next s i h) ∙ if_true (t (get_or s i 0)) [] (get_or s i 0 ∷ before t (drop (i + 1) s)) e

    pub before_miss : i < length s → t (get_or s i 0) ≡ false → length (before t (drop i s)) ≡ length (before t (drop (i + 1) s)) + 1
    unfolding before
    before_miss h e = ap length (ap (before t) (drop_next s i h) ∙ if_false (t (get_or s i 0)) [] (get_or s i 0 ∷ before t (drop (i + 1) s)) e) ∙ count (before t (drop (i + 1) s))
      where
        count : (l : Bytes) → length (get_or s i 0 ∷ l) ≡ length l + 1
        count l = omega arith

    pub before_end : length s ≤ i → length (before t (drop i s)) ≡ 0
    unfolding before
    before_end h = omega (arith, ap length (before_front (drop i s)), length-append (before t (drop i s)) (drop (length (before t (drop i s))) (drop i s)), length-drop i s)

-- ---- a line

line_is : (p : Position) (value rest : Bytes) → line_at p value ++ rest ≡ numbers_at p ++ (value ++ line_feed ∷ rest)
unfolding value_line line numbers_at cell
line_is p value rest = simp append_assoc

-- its numbers take some bytes
pub numbers_some : (p : Position) → 0 < length (numbers_at p)
unfolding numbers_at cell
numbers_some p =
    let front : Bytes = in_decimal p.segment in
    let more : Bytes = cell p.element ++ (cell p.repeat ++ cell p.component) in
    omega (arith, length-append (front ++ tab ∷ []) more, length-append front (tab ∷ []))

module _ (s : List ℕ) (place : ℕ) (p : Position) where
  -- its numbers do not stand there
  pub numbers_missing : begins (numbers_at p) (drop place s) ≡ false → Missing s place p
  numbers_missing h value rest fits e =
      true≢false (sym ((says_begins (numbers_at p) (drop place s)).1 (value ++ line_feed ∷ rest, e ∙ line_is p value rest)) ∙ h)

  module _ (there : begins (numbers_at p) (drop place s) ≡ true) (start : ℕ) (after : start ≡ place + length (numbers_at p)) where
    pub numbers_there : drop place s ≡ numbers_at p ++ drop start s
    numbers_there =
        let found = (says_begins (numbers_at p) (drop place s)).0 there in
        let rest : Bytes = found.0 in
        let left : drop start s ≡ rest =
        ap (λ (n : ℕ). drop n s) after ∙ sym (drop-drop (length (numbers_at p)) place s) ∙ ap (drop (length (numbers_at p))) found.1 ∙ drop-append_seam (numbers_at p) rest in
        found.1 ∙ ap (λ (l : Bytes). numbers_at p ++ l) (sym left)

    pub start_inside : start ≤ length s
    start_inside =
        omega (arith, after, ap length numbers_there, length-append (numbers_at p) (drop start s), length-drop place s, length-drop start s, numbers_some p)

    module _ (end : ℕ) (stop : end ≡ start + length (before ends_value (drop start s))) where
      abbrev found : Bytes
      found = before ends_value (drop start s)

      -- the value, and what follows it
      value_there : drop start s ≡ found ++ drop end s
      value_there =
          before_front ends_value (drop start s)
          ∙ ap (λ (l : Bytes). found ++ l) (drop-drop (length found) start s ∙ ap (λ (n : ℕ). drop n s) (sym stop))

      pub end_inside : end ≤ length s
      end_inside = omega (arith, stop, start_inside, ap length value_there, length-append found (drop end s), length-drop start s)

      -- any line that stands there has this value, and a line feed behind it
      feed_there : (value rest : Bytes) → fits_line value ≡ true → drop place s ≡ line_at p value ++ rest → drop end s ≡ line_feed ∷ rest
      unfolding fits_line member
      feed_there value rest fits e =
          let whole : drop start s ≡ value ++ line_feed ∷ rest =
          sym (drop-append_seam (numbers_at p) (drop start s)) ∙ ap (drop (length (numbers_at p))) (sym numbers_there ∙ e ∙ line_is p value rest) ∙ drop-append_seam (numbers_at p) (value ++ line_feed ∷ rest) in
          let same : found ≡ value = ap (before ends_value) whole ∙ before_append ends_value value line_feed rest fits refl in
          ap (λ (n : ℕ). drop n s) stop
          ∙ sym (drop-drop (length found) start s)
          ∙ ap₂ (λ (v l : Bytes). drop (length v) l) same whole
          ∙ drop-append_seam value (line_feed ∷ rest)

      pub end_missing : length s ≤ end → Missing s place p
      end_missing h value rest fits e = omega (arith, h, ap length (feed_there value rest fits e), length-drop end s)

      pub feed_missing : (get_or s end 0 ≡ line_feed → ⊥) → Missing s place p
      feed_missing h value rest fits e =
          h (ap (λ (n : ℕ). get_or s n 0) zero_more ∙ sym (get_or-drop end s 0 0) ∙ ap (λ (l : Bytes). get_or l 0 0) (feed_there value rest fits e))
        where
          zero_more : end ≡ end + 0
          zero_more = omega arith

      -- the line stands there
      pub line_stands : (l : Line) → l.position ≡ p → l.start ≡ start → l.end ≡ end → end < length s → get_or s end 0 ≡ line_feed → Stands s place p l
      unfolding fits_line
      line_stands l lp ls le h feed =
          let size : l.end - l.start ≡ length found = omega (arith, ls, le, stop) in
          let value : value_of s l ≡ found =
          ap₂ (λ (n m : ℕ). take n (drop m s)) size ls ∙ ap (take (length found)) value_there ∙ take_at found (drop end s) (length found) refl in
          let last : drop end s ≡ line_feed ∷ drop (l.end + 1) s =
          drop_next s end h ∙ ap₂ (λ (b n : ℕ). b ∷ drop (n + 1) s) feed (sym le) in
          record {
            position = lp;
            behind = omega (arith, ls, after);
            order = omega (arith, ls, le, stop);
            inside = omega (arith, le, h);
            fits = ap (all (λ b. not (ends_value b))) value ∙ before_none ends_value (drop start s);
            text =
                numbers_there
                ∙ ap (λ (t : Bytes). numbers_at p ++ t) (value_there ∙ ap₂ (λ (v t : Bytes). v ++ t) (sym value) last)
                ∙ sym (line_is p (value_of s l) (drop (l.end + 1) s));
          }

-- ---- what a search answers

module _ (s : List ℕ) (place : ℕ) (p : Position) (kind : ℕ) where
  pub sought_none : Missing s place p → Sought s place p kind None
  sought_none m = record { none = λ d. m; some = λ l e. absurd (none_not_some e) }

  pub sought_some : (l : Line) → l.kind ≡ kind → Stands s place p l → Sought s place p kind (Some l)
  sought_some l e stands =
      record {
        none = λ d. absurd (none_not_some (sym d));
        some = λ k d. subst (λ (j : Line). (j.kind ≡ kind) × Stands s place p j) (some_same d) (e, stands);
      }
