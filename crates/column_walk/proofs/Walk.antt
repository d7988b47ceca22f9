-- From line to line: at most one line stands at a place, and it is that of the next value. Assumes nothing.
use Rattle.std.specs.Prelude.{if◌then◌else◌, Option, Some, None}
use Prim.Native.Nat.{ℕ, zero, suc, ◌+◌, ◌-◌, ◌≤◌, ◌<◌}
use mathlib.Core.Path.{◌≡◌, refl, sym, ap, ap₂, subst, ◌∙◌}
use mathlib.Core.Bool.{Bool, true, false}
use mathlib.Core.List.{List, [], ◌∷◌, ◌++◌, head-eq_of_cons-eq}
use native.Mathlib.Omega.{arith}
use lib.Dec.{eqb, leb}
use lib.ListN.{length, drop, length-append, length-take, length-drop, drop_of_length-le}
use lib.Seq.{drop-append_seam}
use borrow.Author.Tests.{eqb-true, ne_eqb, leb-true, le-leb}
use Rattle.lists.specs.Lists.{all}
use Rattle.lists.proofs.Texts.{and_left, and_right, and_both, if_false}
use Rattle.values.specs.Spelling.{Bytes}
use Rattle.operations.specs.ValueList.{Item}
use Rattle.trimming_laws.specs.Kinds.{first_kind, kinds_up_to3}
use Rattle.columns.specs.Lines.{tab, line_feed, in_decimal, line, value_line, fits_line}
use Rattle.columns.specs.Reading.{is_zero, items_in}
use Rattle.column_laws.specs.declared.Position.{Position}
use Rattle.column_laws.specs.Positions.{at, next_at, line_at, lines_at}
use Rattle.column_laws.proofs.Columned.{kind_by, item, value_items}
use Rattle.column_laws.proofs.Decimals.{zero_is, other_is}
use Rattle.column_walk.specs.declared.Line.{Line}
use Rattle.column_walk.specs.Walk.{first_place, position_at, Leads, Within, value_of, item_at, Stands, Missing, Sought, Leading, Found, Rest, Next}

-- ---- what a position tells

-- what begins with the value at a position, by which of its numbers are 0
abbrev kind_at : Position → ℕ
kind_at p = kind_by (is_zero (in_decimal p.element)) (is_zero (in_decimal p.repeat)) (is_zero (in_decimal p.component))

kind_next : (p : Position) (kind : ℕ) → kind ≤ 3 → kind_at (next_at p kind) ≡ kind
unfolding next_at
kind_next p zero h = ap (λ (z : Bool). kind_by z z z) zero_is
kind_next p (suc zero) h = ap₂ (λ (y z : Bool). kind_by y z z) (other_is (p.element + 1) (omega arith)) zero_is
kind_next p (suc (suc zero)) h =
    ap (λ (z : Bool). kind_by (is_zero (in_decimal p.element)) (is_zero (in_decimal p.repeat)) z) (other_is (p.component + 1) (omega arith))
kind_next p (suc (suc (suc zero))) h =
    ap₂ (λ (y z : Bool). kind_by (is_zero (in_decimal p.element)) y z) (other_is (p.repeat + 1) (omega arith)) zero_is
kind_next p (suc (suc (suc (suc k)))) h = absurd (omega arith)

kind_at_lem : (place : ℕ) (p : Position) (kind : ℕ) → Leads place kind → kind_at (position_at place p kind) ≡ kind
unfolding position_at
kind_at_lem place p kind leads = step (eqb place first_place) refl
  where
    step : (t : Bool) → eqb place first_place ≡ t → kind_at (if t then at 0 0 0 0 else next_at p kind) ≡ kind
    step true e = ap (λ (z : Bool). kind_by z z z) zero_is ∙ sym (leads.first (eqb-true place first_place e))
    step false e = kind_next p kind leads.low

-- behind the first line a position follows from the one before it
pub position_later : (place : ℕ) (p : Position) (kind : ℕ) → first_place < place → position_at place p kind ≡ next_at p kind
unfolding position_at
position_later place p kind h = if_false (eqb place first_place) (at 0 0 0 0) (next_at p kind) (ne_eqb place first_place (λ e. omega arith))

-- its numbers grow no faster than the places
within_next : (p : Position) (place kind : ℕ) → Within p place → Within (next_at p kind) (place + 1)
unfolding next_at
within_next p place kind w = step (leb kind 0) (leb kind 1) (eqb kind 3)
  where
    step : (a b d : Bool)
        → Within (if a then at (p.segment + 1) 0 0 0 else (if b then at p.segment (p.element + 1) 0 0 else (if d then at p.segment p.element (p.repeat + 1) 0 else at p.segment p.element p.repeat (p.component + 1)))) (place + 1)
    step true b d = record { segment = omega (arith, w.segment); element = omega arith; repeat = omega arith; component = omega arith }
    step false true d = record { segment = omega (arith, w.segment); element = omega (arith, w.element); repeat = omega arith; component = omega arith }
    step false false true = record { segment = omega (arith, w.segment); element = omega (arith, w.element); repeat = omega (arith, w.repeat); component = omega arith }
    step false false false = record { segment = omega (arith, w.segment); element = omega (arith, w.element); repeat = omega (arith, w.repeat); component = omega (arith, w.component) }

pub within_start : (place : ℕ) → Within (at 0 0 0 0) place
within_start place = record { segment = omega arith; element = omega arith; repeat = omega arith; component = omega arith }

pub within_line : (s : List ℕ) (place : ℕ) (p : Position) (l : Line) → Within p place → Stands s place (position_at place p l.kind) l
    → Within l.position (l.end + 1)
unfolding position_at
within_line s place p l w stands =
    subst (λ (q : Position). Within q (l.end + 1)) (sym stands.position) (higher (step (eqb place first_place)))
  where
    step : (t : Bool) → Within (if t then at 0 0 0 0 else next_at p l.kind) (place + 1)
    step true = within_start (place + 1)
    step false = within_next p place l.kind w

    high : place + 1 ≤ l.end + 1
    high = omega (arith, stands.behind, stands.order)

    higher : {q : Position} → Within q (place + 1) → Within q (l.end + 1)
    higher v =
        record {
          segment = omega (arith, v.segment, high);
          element = omega (arith, v.element, high);
          repeat = omega (arith, v.repeat, high);
          component = omega (arith, v.component, high);
        }

-- ---- values

pub value_length : (s : List ℕ) (l : Line) → l.start ≤ l.end → l.end ≤ length s → length (value_of s l) ≡ l.end - l.start
value_length s l o i = omega (arith, length-take (l.end - l.start) (drop l.start s), length-drop l.start s, o, i)

-- ---- one line at most

line_items : (place : ℕ) (p : Position) (kind : ℕ) → Leads place kind → (value rest : Bytes) → fits_line value ≡ true
    → items_in (line_at (position_at place p kind) value ++ rest) ≡ item kind value ∷ items_in rest
line_items place p kind leads value rest fits =
    let q : Position = position_at place p kind in
    value_items q.segment q.element q.repeat q.component value fits rest
    ∙ ap (λ (k : ℕ). item k value ∷ items_in rest) (kind_at_lem place p kind leads)

-- two lines that stand at one place are of one kind and have one value, and the same follows
module _ (place : ℕ) (p : Position) (t : Bytes) (j k : ℕ) (v w x y : Bytes) (jl : Leads place j) (kl : Leads place k)
    (vf : fits_line v ≡ true) (wf : fits_line w ≡ true)
    (ve : t ≡ line_at (position_at place p j) v ++ x) (we : t ≡ line_at (position_at place p k) w ++ y) where
  same_first : item j v ≡ item k w
  same_first =
      head-eq_of_cons-eq (sym (line_items place p j jl v x vf) ∙ ap items_in (sym ve ∙ we) ∙ line_items place p k kl w y wf)

  same_rest : x ≡ y
  same_rest =
      let front : Bytes = line_at (position_at place p j) v in
      sym (drop-append_seam front x)
      ∙ ap (drop (length front)) (sym ve ∙ we ∙ ap (λ (i : Item). line_at (position_at place p i.kind) i.value ++ y) (sym same_first))
      ∙ drop-append_seam front y

-- ---- a search

-- a line that was found is found, and no other one
pub none_not_some : {A : Type 0} {x : A} → None ≡ Some x → ⊥
none_not_some e = let no : ◌≡◌ {A = ℕ} 0 1 = cc in absurd (omega arith)

pub some_same : {A : Type 0} {x y : A} → Some x ≡ Some y → x ≡ y
some_same e = cc

-- the first line is the one of a new segment
pub found_first : (s : List ℕ) (p : Position) {found : Option Line} → Sought s first_place (at 0 0 0 0) 0 found → Found s first_place p found
unfolding position_at
found_first s p g =
    record {
      none = λ e kind leads. g.none e;
      some = λ l e. let (same, stands) = g.some l e in (record { low = omega (arith, same); first = λ d. same }, stands);
    }

module _ (s : List ℕ) (place : ℕ) (p : Position) (later : first_place < place) where
  -- one of this kind was found
  leading_by : (kind : ℕ) → kind ≤ 3 → {found : Option Line} → Sought s place (next_at p kind) kind found → (l : Line) → found ≡ Some l → Leading s place p l
  leading_by kind low g l e =
      let (same, stands) = g.some l e in (
        record { low = omega (arith, same, low); first = λ d. absurd (omega (arith, d, later)) },
        subst (λ (q : Position). Stands s place q l) (sym (position_later place p l.kind later ∙ ap (next_at p) same)) stands,
      )

  pub found_by_lem : (kind : ℕ) → kind ≤ 3 → {found : Option Line} → Sought s place (next_at p kind) kind found → {l : Line} → found ≡ Some l
      → Found s place p (Some l)
  found_by_lem kind low g {l} e =
      record {
        none = λ d. absurd (none_not_some (sym d));
        some = λ k d. subst (λ (j : Line). Leading s place p j) (some_same d) (leading_by kind low g l e);
      }

  -- each kind is looked for, the last one being a new segment
  pub found_last : {a b d found : Option Line} → Sought s place (next_at p 2) 2 a → a ≡ None → Sought s place (next_at p 3) 3 b → b ≡ None
      → Sought s place (next_at p 1) 1 d → d ≡ None → Sought s place (next_at p 0) 0 found → Found s place p found
  found_last {found = found} ga na gb nb gd nd g =
      record {
        none = λ e kind leads. subst (λ (q : Position). Missing s place q) (sym (position_later place p kind later)) (each kind leads.low e);
        some = λ l e. leading_by 0 (omega arith) g l e;
      }
    where
      each : (kind : ℕ) → kind ≤ 3 → found ≡ None → Missing s place (next_at p kind)
      each zero h e = g.none e
      each (suc zero) h e = gd.none nd
      each (suc (suc zero)) h e = ga.none na
      each (suc (suc (suc zero))) h e = gb.none nb
      each (suc (suc (suc (suc kind)))) h e = absurd (omega arith)

-- ---- the values still to come

-- the next value may stand at the place
rest_leads : (s : List ℕ) (place : ℕ) (p : Position) (x : Item) (more : List Item) → Rest s place p (x ∷ more) → Leads place x.kind
unfolding first_kind kinds_up_to3 all
rest_leads s place p x more r = record { low = leb-true x.kind 3 (and_left (leb x.kind 3) (kinds_up_to3 more) r.kinds); first = r.first }

-- where no line was found none is to come
pub rest_missing : (s : List ℕ) (place : ℕ) (p : Position) (items : List Item) → Rest s place p items → {found : Option Line} → Found s place p found
    → found ≡ None → items ≡ []
unfolding lines_at first_kind all
rest_missing s place p [] r f e = refl
rest_missing s place p (x ∷ more) r f e =
    absurd (f.none e x.kind (rest_leads s place p x more r) x.value (lines_at (next_at (position_at place p x.kind) (first_kind more)) more)
    (and_left (fits_line x.value) (all (λ i. fits_line i.value) more) r.fits) r.text)

module _ (s : List ℕ) (place : ℕ) (p : Position) (l : Line) where
  -- behind a line that stands, positions follow from its own
  after_line : first_place ≤ place → Stands s place (position_at place p l.kind) l → (kind : ℕ)
      → position_at (l.end + 1) l.position kind ≡ next_at (position_at place p l.kind) kind
  after_line h stands kind =
      position_later (l.end + 1) l.position kind (omega (arith, h, stands.behind, stands.order))
      ∙ ap (λ (q : Position). next_at q kind) stands.position

  -- the line that was found is that of the next value
  pub rest_next : (items : List Item) → Rest s place p items → Leading s place p l → Next s place p l items
  unfolding lines_at first_kind kinds_up_to3 all
  rest_next [] r (leads, stands) =
      let none : drop place s ≡ [] = r.text in
      absurd (omega (arith, stands.behind, stands.order, stands.inside, length-drop place s, ap length none))
  rest_next (x ∷ more) r (first, stands) =
      let leads : Leads place x.kind = rest_leads s place p x more r in
      let fine : fits_line x.value ≡ true = and_left (fits_line x.value) (all (λ i. fits_line i.value) more) r.fits in
      let there : Bytes = drop (l.end + 1) s in
      let here : Bytes = lines_at (next_at (position_at place p x.kind) (first_kind more)) more in
      let same : item l.kind (value_of s l) ≡ item x.kind x.value =
      same_first place p (drop place s) l.kind x.kind (value_of s l) x.value there here first leads stands.fits fine stands.text r.text in
      let left : there ≡ here =
      same_rest place p (drop place s) l.kind x.kind (value_of s l) x.value there here first leads stands.fits fine stands.text r.text in
      record {
        known = first.low;
        stands = stands;
        more = more;
        is = ap (λ (i : Item). i ∷ more) (sym same);
        rest =
            record {
              behind = omega (arith, r.behind, stands.behind, stands.order);
              text =
                  left
                  ∙ ap (λ (q : Position). lines_at q more)
                  (sym (after_line r.behind stands (first_kind more) ∙ ap (λ (i : Item). next_at (position_at place p i.kind) (first_kind more)) same));
              first = λ d. absurd (omega (arith, d, r.behind, stands.behind, stands.order));
              kinds = and_right (leb x.kind 3) (kinds_up_to3 more) r.kinds;
              fits = and_right (fits_line x.value) (all (λ i. fits_line i.value) more) r.fits;
            };
      }

  -- the value of a line that stands, in front of those that follow it
  pub rest_back : first_place ≤ place → Leads place l.kind → Stands s place (position_at place p l.kind) l → (more : List Item)
      → Rest s (l.end + 1) l.position more → Rest s place p (item_at s l ∷ more)
  unfolding lines_at first_kind kinds_up_to3 all
  rest_back h leads stands more r =
      record {
        behind = h;
        text =
            stands.text
            ∙ ap (λ (t : Bytes). line_at (position_at place p l.kind) (value_of s l) ++ t)
            (r.text ∙ ap (λ (q : Position). lines_at q more) (after_line h stands (first_kind more)));
        first = leads.first;
        kinds = and_both (leb l.kind 3) (kinds_up_to3 more) (le-leb l.kind 3 leads.low) r.kinds;
        fits = and_both (fits_line (value_of s l)) (all (λ i. fits_line i.value) more) stands.fits r.fits;
      }

-- at the end there is none
some_line : (q : Position) (value rest : Bytes) → [] ≡ line_at q value ++ rest → ⊥
unfolding value_line line
some_line q value rest e =
    let behind : Bytes =
    in_decimal q.element ++ tab ∷ (in_decimal q.repeat ++ tab ∷ (in_decimal q.component ++ tab ∷ (value ++ line_feed ∷ []))) in
    let front : Bytes = in_decimal q.segment in
    omega (arith, ap length e, length-append (front ++ tab ∷ behind) rest, length-append front (tab ∷ behind))

pub rest_none : (s : List ℕ) (place : ℕ) (p : Position) (items : List Item) → Rest s place p items → length s ≤ place → items ≡ []
unfolding lines_at first_kind
rest_none s place p [] r h = refl
rest_none s place p (x ∷ more) r h =
    let q : Position = position_at place p x.kind in
    absurd (some_line q x.value (lines_at (next_at q (first_kind more)) more) (sym (drop_of_length-le s h) ∙ r.text))

pub rest_end : (s : List ℕ) (place : ℕ) (p : Position) → first_place ≤ place → length s ≤ place → Rest s place p []
unfolding lines_at first_kind kinds_up_to3 all
rest_end s place p b h =
    record { behind = b; text = drop_of_length-le s h; first = λ d. refl; kinds = refl; fits = refl }
