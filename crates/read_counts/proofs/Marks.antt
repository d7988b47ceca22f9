-- How a text of marks is read: a byte of a value makes the open value longer, a run of marks writes out as many values. Assumes nothing.
use Rattle.std.specs.Prelude.{if◌then◌else◌}
use Prim.Native.Nat.{ℕ, zero, suc, ◌+◌, ◌<◌}
use native.Mathlib.Omega.{arith}
use mathlib.Core.Path.{◌≡◌, refl, sym, ap, ◌∙◌}
use mathlib.Core.Bool.{Bool, true, false, ◌||◌}
use mathlib.Core.List.{List, [], ◌∷◌, ◌++◌, append_assoc}
use lib.Dec.{leb, eqb}
use lib.ListN.{length, replicate, length-append}
use borrow.Author.Tests.{eqb-false, lt-leb}
use Rattle.lists.specs.Lists.{member}
use Rattle.lists.proofs.Texts.{or_none_left, or_none_right, if_true, if_false}
use Rattle.characters.specs.Characters.{is_service, service_characters, has_repetition, has_release}
use Rattle.values.specs.Spelling.{spell_byte}
use Rattle.operations.specs.ValueList.{Item, table_from}
use Rattle.read_counts.specs.Marks.{marks, read_marks, run_out, run_next, item_next, item_grow, items_from, numbers_from}

-- a byte that is no mark and no release character
plain : (b : ℕ) → is_service marks b ≡ false → (leb b 3 ≡ false) × (eqb b 4 ≡ false)
unfolding is_service service_characters member has_repetition has_release marks
plain b h =
    let fourth = eqb b 4 || false in
    let third = eqb b 3 || fourth in
    let zeroth = eqb b 0 || third in
    let first = eqb b 1 || zeroth in
    let past = or_none_right (eqb b 2) first h in
    let last = or_none_right (eqb b 1) zeroth past in
    let lost = or_none_right (eqb b 0) third last in (
      lt-leb b 3 (above b (eqb-false b 0 (or_none_left (eqb b 0) third last)) (eqb-false b 1 (or_none_left (eqb b 1) zeroth past))
          (eqb-false b 2 (or_none_left (eqb b 2) first h)) (eqb-false b 3 (or_none_left (eqb b 3) fourth lost))),
      or_none_left (eqb b 4) false (or_none_right (eqb b 3) fourth lost),
    )
  where
    above : (n : ℕ) → (n ≡ 0 → ⊥) → (n ≡ 1 → ⊥) → (n ≡ 2 → ⊥) → (n ≡ 3 → ⊥) → 3 < n
    above zero a o t r = absurd (a refl)
    above (suc zero) a o t r = absurd (o refl)
    above (suc (suc zero)) a o t r = absurd (t refl)
    above (suc (suc (suc zero))) a o t r = absurd (r refl)
    above (suc (suc (suc (suc n)))) a o t r = omega arith

module _ {S B : Type 0} (out : S → List B) (next grow : ℕ → S → S) where
  abbrev read : S → List ℕ → List B
  read current text = read_marks out next grow current false text

  -- a byte of a value, however it is spelled, makes the open value longer
  pub read_byte : (current : S) (b : ℕ) (rest : List ℕ) → read current (spell_byte marks b ++ rest) ≡ read (grow b current) rest
  unfolding read_marks spell_byte marks
  read_byte current b rest = step (is_service marks b) refl
    where
      step : (t : Bool) → is_service marks b ≡ t → read current ((if t then 4 ∷ b ∷ [] else b ∷ []) ++ rest) ≡ read (grow b current) rest
      step true h = refl
      step false h =
          if_false (leb b 3) _ _ (plain b h).0 ∙ if_false (eqb b 4) (read_marks out next grow current true rest) (read (grow b current) rest) (plain b h).1

  -- a mark writes out the open value
  pub read_mark : (current : S) (kind : ℕ) (rest : List ℕ) → leb kind 3 ≡ true → read current (kind ∷ rest) ≡ out current ++ read (next kind current) rest
  unfolding read_marks
  read_mark current kind rest h = if_true (leb kind 3) (out current ++ read (next kind current) rest) _ h

  -- a run of marks of one kind
  pub read_run : (kind : ℕ) → leb kind 3 ≡ true → (count : ℕ) (current : S) (rest : List ℕ)
      → read current (replicate count kind ++ rest) ≡ run_out out next grow kind count current ++ read (run_next out next grow kind count current) rest
  unfolding run_out run_next
  read_run kind h zero current rest = refl
  read_run kind h (suc count) current rest =
      read_mark current kind (replicate count kind ++ rest) h
      ∙ ap (λ (l : List B). out current ++ l) (read_run kind h count (next kind current) rest)
      ∙ sym (append_assoc (out current) (run_out out next grow kind count (next kind current)) (read (run_next out next grow kind count (next kind current)) rest))

-- the table of the values that are read is the table that is read
pub table_read_lem : (start : ℕ) (l : Item) (released : Bool) (text : List ℕ)
    → table_from start (items_from l released text) ≡ numbers_from (record { kind = l.kind; start = start; size = length l.value }) released text
unfolding items_from numbers_from read_marks table_from
table_read_lem start l released [] = refl
table_read_lem start l true (x ∷ xs) =
    table_read_lem start (item_grow x l) false xs
    ∙ ap (λ (n : ℕ). numbers_from (record { kind = l.kind; start = start; size = n }) false xs) (length-append l.value (x ∷ []))
table_read_lem start l false (x ∷ xs) = step (leb x 3) (eqb x 4) (table_read_lem (start + length l.value) (item_next x l) false xs) (table_read_lem start l true xs)
    (table_read_lem start (item_grow x l) false xs
    ∙ ap (λ (n : ℕ). numbers_from (record { kind = l.kind; start = start; size = n }) false xs) (length-append l.value (x ∷ [])))
  where
    step : (t u : Bool)
        → table_from (start + length l.value) (items_from (item_next x l) false xs)
        ≡ numbers_from (record { kind = x; start = start + length l.value; size = 0 }) false xs
        → table_from start (items_from l true xs) ≡ numbers_from (record { kind = l.kind; start = start; size = length l.value }) true xs
        → table_from start (items_from (item_grow x l) false xs)
        ≡ numbers_from (record { kind = l.kind; start = start; size = length l.value + 1 }) false xs
        → table_from start
        (if t then l ∷ items_from (item_next x l) false xs else (if u then items_from l true xs else items_from (item_grow x l) false xs))
        ≡ (if t
        then l.kind ∷ start ∷ length l.value ∷ numbers_from (record { kind = x; start = start + length l.value; size = 0 }) false xs
        else (if u then numbers_from (record { kind = l.kind; start = start; size = length l.value }) true xs
        else numbers_from (record { kind = l.kind; start = start; size = length l.value + 1 }) false xs))
    step true u p q r = ap (λ (ns : List ℕ). l.kind ∷ start ∷ length l.value ∷ ns) p
    step false true p q r = q
    step false false p q r = r
