-- The passes over a text that is taken, from line to line. Assumes nothing.
use Rattle.std.specs.Prelude.{Option, None, Ok}
use Prim.Native.Nat.{ℕ, ◌+◌, ◌-◌, ◌≤◌, ◌<◌}
use mathlib.Core.Path.{◌≡◌, refl, sym, ap, subst, ◌∙◌}
use mathlib.Core.Bool.{true, false}
use mathlib.Core.List.{List, [], ◌∷◌}
use native.Mathlib.Omega.{arith}
use lib.ListN.{length, drop}
use Rattle.lists.proofs.Tests.{says_begins}
use Rattle.stage_opening.proofs.Beginnings.{begins_length}
use Rattle.characters.specs.declared.Characters.{Characters}
use Rattle.refusals.specs.declared.Fault.TheVariants.{NeedsRelease}
use Rattle.refusals.specs.Refusals.{outcome, failed_at}
use Rattle.refusals.specs.Limits.{most_bytes, most_spelled}
use Rattle.values.specs.Tokens.{separator}
use Rattle.storing.specs.Sinks.{SinkLaws}
use Rattle.emission_laws.specs.declared.Measure.{Measure}
use Rattle.emission_laws.specs.Emission.{waiting}
use Rattle.emission_laws.proofs.Steps.{after_most}
use Rattle.held_separators.specs.Putting.{Fits, Puts}
use Rattle.operations.specs.ValueList.{Item}
use Rattle.value_list_text.specs.Composing.{record_tokens, first_measure, composed_text, short_length, HasRoom, Composes}
use Rattle.value_list_text.specs.Standing.{is_bare, first_bare}
use Rattle.value_list_text.proofs.Standing.{bare_here, bare_later, bare_none}
use Rattle.value_list_text.proofs.Rows.{Gone, record_length, gone_start, gone_next, gone_long}
use Rattle.value_list_text.proofs.Putting.{Underway, given_up, underway_start, next_fits, underway_next, too_long, end_fits, underway_end}
use Rattle.columns.specs.Lines.{heading, line}
use Rattle.columns.specs.Reading.{is_columns}
use Rattle.column_laws.specs.declared.Position.{Position}
use Rattle.column_laws.specs.Positions.{at}
use Rattle.column_walk.specs.declared.Line.{Line}
use Rattle.column_walk.specs.Walk.{first_place, Within, item_at, Leading, Found, Rest, Next}
use Rattle.column_walk.specs.Checking.{items_read}
use Rattle.column_walk.proofs.Walk.{within_start, within_line, value_length, rest_missing, rest_next}
use Rattle.column_walk.proofs.Checking.{columns_headed, columns_rest}
use Rattle.import_columns.specs.Importing.{is_line_in}

-- ---- the next line

-- A place that a pass has come to: the values whose lines follow.
pub record Come (s : List ℕ) (place : ℕ) (p : Position) (left : List Item) : Type 0 where
  pub rest : Rest s place p left
  pub within : Within p place
  pub inside : place ≤ length s

pub come_start : (s : List ℕ) → is_columns s ≡ true → {p : Position} → p ≡ at 0 0 0 0 → Come s first_place p (items_read s)
unfolding heading line
come_start s h e =
    subst (λ (q : Position). Come s first_place q (items_read s)) (sym e)
    (record {
      rest = columns_rest s h;
      within = within_start first_place;
      inside = omega (arith, begins_length heading s ((says_begins heading s).1 (drop first_place s, columns_headed s h)));
    })

-- no line was found: none is to come
pub come_end : (s : List ℕ) (place : ℕ) (p : Position) {left : List Item} → Come s place p left → {found : Option Line} → Found s place p found
    → found ≡ None → left ≡ []
come_end s place p {left} g f e = rest_missing s place p left g.rest f e

module _ (s : List ℕ) (place : ℕ) (p : Position) (l : Line) {left : List Item} (g : Come s place p left) (f : Leading s place p l) where
  pub next : Next s place p l left
  next = rest_next s place p l left g.rest f

  pub line_in : is_line_in s l
  line_in = (next.stands.order, omega (arith, next.stands.inside))

  pub line_inside : l.end < length s
  line_inside = next.stands.inside

  pub line_ahead : place ≤ l.end
  line_ahead = omega (arith, next.stands.behind, next.stands.order)

  pub come_next : Come s (l.end + 1) l.position next.more
  come_next = record { rest = next.rest; within = within_line s place p l g.within next.stands; inside = omega (arith, next.stands.inside) }

-- ---- 16

-- no line before the place has a value that cannot stand
pub record Releasing (c : Characters) (s : List ℕ) (place : ℕ) (p : Position) (n : ℕ) : Type 0 where
  pub left : List Item
  pub come : Come s place p left
  pub same : first_bare c 0 (items_read s) ≡ first_bare c n left
  pub few : n ≤ place

pub releasing_start : (c : Characters) (s : List ℕ) → is_columns s ≡ true → {p : Position} → p ≡ at 0 0 0 0 → Releasing c s first_place p 0
releasing_start c s h e = record { left = items_read s; come = come_start s h e; same = refl; few = omega arith }

module _ (c : Characters) (s : List ℕ) (place : ℕ) (p : Position) (n : ℕ) (g : Releasing c s place p n) where
  module _ (l : Line) (f : Leading s place p l) where
    abbrev here : Next s place p l g.left
    here = next s place p l g.come f

    pub releasing_fails : is_bare c (item_at s l) ≡ true → failed_at NeedsRelease n ≡ outcome (first_bare c 0 (items_read s))
    unfolding outcome
    releasing_fails t = sym (ap outcome (g.same ∙ bare_here c n here.is t))

    pub releasing_next : is_bare c (item_at s l) ≡ false → Releasing c s (l.end + 1) l.position (n + 1)
    releasing_next t =
        record {
          left = here.more;
          come = come_next s place p l g.come f;
          same = g.same ∙ bare_later c n here.is t;
          few = omega (arith, g.few, line_ahead s place p l g.come f);
        }

  pub releasing_done : {found : Option Line} → Found s place p found → found ≡ None → Ok tt ≡ outcome (first_bare c 0 (items_read s))
  unfolding outcome
  releasing_done f e = sym (ap outcome (g.same ∙ bare_none c n (come_end s place p g.come f e)))

-- ---- the text

-- the values before the place are put, and what is put is not over 32,000 bytes yet
pub record Putting (holds : List ℕ → ℕ → List ℕ → List ℕ) (room : List ℕ → ℕ) (c : Characters) (s : List ℕ) (place : ℕ) (p : Position) (m : Measure) (before now : List ℕ)
    : Type 0 where
  pub left : List Item
  pub come : Come s place p left
  pub gone : Gone c (items_read s) m left
  pub underway : Underway holds room c (items_read s) before now m left

module _ {holds : List ℕ → ℕ → List ℕ → List ℕ} {room : List ℕ → ℕ} (laws : SinkLaws holds room) (c : Characters) (s : List ℕ) where
  pub putting_start : is_columns s ≡ true → {p : Position} → p ≡ at 0 0 0 0 → {m : Measure} → m ≡ first_measure → (output : List ℕ)
      → Putting holds room c s first_place p m output output
  putting_start h e d output =
      record {
        left = items_read s;
        come = come_start s h e;
        gone = gone_start c (items_read s) d;
        underway = underway_start laws c (items_read s) output d;
      }

  module _ (few : length (items_read s) ≤ most_bytes) (place : ℕ) (p : Position) (m : Measure) {before now : List ℕ} (g : Putting holds room c s place p m before now) where
    pub putting_room : m.total + waiting m.held ≤ most_spelled
    putting_room = omega (arith, g.underway.short, g.gone.few, few)

    module _ (l : Line) (f : Leading s place p l) where
      abbrev next_line : Next s place p l g.left
      next_line = next s place p l g.come f

      line_length : length (item_at s l).value ≡ l.end - l.start
      line_length = value_length s l next_line.stands.order (omega (arith, next_line.stands.inside))

      -- the value alone is too long
      pub putting_long : {put : List ℕ} → most_bytes < l.end - l.start → Composes holds c (items_read s) before put None
      putting_long k = given_up c (items_read s) (omega (arith, k, gone_long c (items_read s) m g.gone (item_at s l) next_line.more next_line.is, line_length))

      pub putting_fits : HasRoom room (composed_text c (items_read s)) before → l.end - l.start ≤ most_bytes → Fits room c now m (record_tokens (item_at s l))
      putting_fits r k =
          next_fits laws c (items_read s) m g.gone g.underway (item_at s l) next_line.more next_line.is r
          (omega (arith, k, putting_room, line_length, record_length (item_at s l), after_most c m (record_tokens (item_at s l)) refl))

      module _ {later : List ℕ} (n : Measure) (put : Puts holds c now m (record_tokens (item_at s l)) later n) where
        pub putting_over : most_bytes < n.total → Composes holds c (items_read s) before later None
        putting_over k = too_long laws c (items_read s) m g.gone g.underway (item_at s l) next_line.more next_line.is put.1 k

        pub putting_next : n.total ≤ most_bytes → Putting holds room c s (l.end + 1) l.position n before later
        putting_next k =
            record {
              left = next_line.more;
              come = come_next s place p l g.come f;
              gone = gone_next c (items_read s) m g.gone (item_at s l) next_line.more next_line.is put.1;
              underway = underway_next laws c (items_read s) m g.gone g.underway (item_at s l) next_line.more next_line.is put k;
            }

    module _ {found : Option Line} (f : Found s place p found) (none : found ≡ None) where
      pub putting_last : HasRoom room (composed_text c (items_read s)) before → Fits room c now m (separator 0 0 ∷ [])
      putting_last = end_fits laws c (items_read s) m g.gone g.underway (come_end s place p g.come f none)

      pub putting_done : {later : List ℕ} {n : Measure} → Puts holds c now m (separator 0 0 ∷ []) later n → Composes holds c (items_read s) before later (short_length n.total)
      putting_done = underway_end laws c (items_read s) m g.gone g.underway (come_end s place p g.come f none)
