-- The check of a text, line by line: it comes to the end of the texts that are taken, and of no other. Assumes nothing.
use Prim.Native.Nat.{ℕ, ◌+◌, ◌≤◌, ◌<◌}
use mathlib.Core.Path.{◌≡◌, refl, sym, ap, subst, ◌∙◌}
use mathlib.Core.Bool.{Bool, true, false, true≢false}
use mathlib.Core.List.{List, ◌++◌}
use native.Mathlib.Omega.{arith}
use lib.ListN.{length, drop}
use Rattle.lists.specs.Lists.{begins}
use Rattle.lists.proofs.Tests.{says_begins}
use Rattle.values.specs.Spelling.{Bytes}
use Rattle.operations.specs.ValueList.{Item, rank_of}
use Rattle.columns.specs.Lines.{heading}
use Rattle.columns.specs.Reading.{is_columns}
use Rattle.column_laws.specs.declared.Position.{Position}
use Rattle.column_laws.specs.Positions.{at}
use Rattle.column_walk.specs.declared.Line.{Line}
use Rattle.column_walk.specs.Walk.{first_place, Within, Leading, Found}
use Rattle.column_walk.specs.Checking.{items_read, least_after, Taken, Passing}
use Rattle.column_walk.proofs.Walk.{within_start, within_line}
use Rattle.column_walk.proofs.Checking.{passing_start, passing_other, passing_idle, passing_next, passing_done, passing_end, heading_dropped, taken_columns, taken_items, columns_headed, none_taken}
use Rattle.std.specs.Prelude.{Option, Some, None}
use Rattle.std.specs.Bool.{then_some}
use Rattle.std.proofs.lemmas.Bool.{eqb-false}
use Rattle.std.proofs.Common.{eqb, eqb-true}
use Rattle.import_columns.specs.Importing.{checked_by}

-- ---- the answer

module _ (s : List ℕ) where
  abbrev answer : Option ℕ
  answer = checked_by (is_columns s) (length (items_read s))

  by_test : {t : Bool} → is_columns s ≡ t → checked_by t (length (items_read s)) ≡ answer
  by_test e = ap (λ (t : Bool). checked_by t (length (items_read s))) (sym e)

  other_is : ((items : List Item) → Taken s items → ⊥) → None ≡ answer
  other_is none = by_test (none_taken s none)

  -- the heading stands in front
  headed : begins heading s ≡ true → s ≡ heading ++ drop first_place s
  headed h =
      let found = (says_begins heading s).0 h in
      found.1 ∙ ap (λ (t : Bytes). heading ++ t) (sym (ap (drop first_place) found.1 ∙ heading_dropped found.0))

  lines_are : begins heading s ≡ true → (count : ℕ) → (items : List Item) × (Taken s items) × (length items ≡ count) → Some count ≡ answer
  lines_are h count (items, t, n) =
      ap Some (sym n ∙ ap length (sym (taken_items s items (headed h) t))) ∙ by_test (taken_columns s items (headed h) t)

  -- it does not
  pub not_headed : begins heading s ≡ false → None ≡ answer
  not_headed h = step (is_columns s) refl
    where
      step : (t : Bool) → is_columns s ≡ t → None ≡ answer
      step true e = absurd (true≢false (sym ((says_begins heading s).1 (drop first_place s, columns_headed s e)) ∙ h))
      step false e = by_test e

-- an answer that was given tells whether the text is taken
pub lines_told : (t : Bool) (n count : ℕ) → checked_by t n ≡ Some count → (t ≡ true) × (count ≡ n)
lines_told true n count e = (refl, cc)
lines_told false n count e = let no : ◌≡◌ {A = ℕ} 0 1 = cc in absurd (omega arith)

pub other_told : (t : Bool) (n : ℕ) → checked_by t n ≡ None → t ≡ false
other_told true n e = let no : ◌≡◌ {A = ℕ} 0 1 = cc in absurd (omega arith)
other_told false n e = refl

-- ---- line by line

-- the lines before the place are passed
pub record Checking (s : List ℕ) (place : ℕ) (p : Position) (n least : ℕ) : Type 0 where
  pub passing : Passing s place p n least
  pub within : Within p place
  pub behind : first_place ≤ place
  pub few : n ≤ place

pub checking_start : (s : List ℕ) {p : Position} → p ≡ at 0 0 0 0 → Checking s first_place p 0 0
checking_start s e =
    subst (λ (q : Position). Checking s first_place q 0 0) (sym e)
    (record { passing = passing_start s; within = within_start first_place; behind = omega arith; few = omega arith })

module _ (s : List ℕ) (place : ℕ) (p : Position) (n least : ℕ) (g : Checking s place p n least) where
  pub checking_other : place < length s → {found : Option Line} → Found s place p found → found ≡ None → None ≡ answer s
  checking_other h f e = other_is s (passing_other s place p n least g.passing h f e)

  module _ (l : Line) (f : Leading s place p l) where
    pub checking_idle : rank_of l.kind < least → None ≡ answer s
    checking_idle e = other_is s (passing_idle s place p n least g.passing l f e)

    pub checking_ahead : (place ≤ l.end) × (l.end < length s)
    checking_ahead = (omega (arith, f.1.behind, f.1.order), f.1.inside)

    pub checking_next : least ≤ rank_of l.kind → {k : ℕ} → k ≡ least_after l → Checking s (l.end + 1) l.position (n + 1) k
    checking_next low e =
        subst (λ (k : ℕ). Checking s (l.end + 1) l.position (n + 1) k) (sym e)
        (record {
          passing = passing_next s place p n least g.passing l f g.behind low;
          within = within_line s place p l g.within f.1;
          behind = omega (arith, g.behind, checking_ahead.0);
          few = omega (arith, g.few, checking_ahead.0);
        })

  pub checking_told : begins heading s ≡ true → length s ≤ place → then_some (eqb least 0) n ≡ answer s
  checking_told b h = step (eqb least 0) refl
    where
      step : (t : Bool) → eqb least 0 ≡ t → then_some t n ≡ answer s
      step true e = lines_are s b n (passing_done s place p n least g.passing g.behind h (eqb-true least 0 e))
      step false e = other_is s (passing_end s place p n least g.passing g.behind h (eqb-false least 0 e))
