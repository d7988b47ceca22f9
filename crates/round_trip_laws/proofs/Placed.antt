-- Where a value that is located stands: the tokens before it reach its position, and no other value stands there. Assumes nothing.
use Prim.Native.Nat.{ℕ, zero, suc, ◌-◌}
use mathlib.Core.Path.{◌≡◌, refl, sym, ap, ap₂, subst, ◌∙◌}
use mathlib.Core.Bool.{Bool, true}
use mathlib.Core.Logic.{◌⊎◌, inl, inr}
use mathlib.Core.List.{List, [], ◌∷◌, map, cons≢nil}
use mathlib.Core.Option.{some}
use native.Mathlib.Omega.{arith}
use borrow.Author.Tests.{lt-leb}
use Rattle.lists.specs.Lists.{through}
use Rattle.nesting_laws.proofs.Positions.{Place, passed as passed_part, reached as reached_part, Separated, piece_parted, one_parting}
use Rattle.values.specs.Tokens.{Token, byte, separator, fault, ends, ends_part, segments, start}
use Rattle.values.specs.Values.{Value, bytes_of, end_place, ended_by, value_of}
use Rattle.values.specs.Trimming.{trimmed}
use Rattle.round_trip_laws.specs.Trips.{standing_at, Position, origin, passed, reached, Placed}
use Rattle.round_trip_laws.proofs.Positions.{ends_value_lem, spot_at, standing_piece}

-- ---- positions by depth

abbrev position_at : ℕ → ℕ → ℕ → ℕ → Position
position_at g e r k = record { segment = g; element = e; repeat = r; component = k }

abbrev spot : Position → Place 4
spot p = spot_at p.segment p.element p.repeat p.component

passed_spot : (p : Position) (t : Token) → spot (passed p t) ≡ passed_part ends_part 4 (spot p) t
unfolding passed ends
passed_spot p (byte b from place) = refl
passed_spot p (separator zero place) = refl
passed_spot p (separator (suc zero) place) = refl
passed_spot p (separator (suc (suc zero)) place) = refl
passed_spot p (separator (suc (suc (suc zero))) place) = refl
passed_spot p (separator (suc (suc (suc (suc k)))) place) =
    let r : ℕ = suc (suc (suc (suc k))) in
    rw (lt-leb r 0 (omega arith), lt-leb r 1 (omega arith), lt-leb r 2 (omega arith), lt-leb r 3 (omega arith))
passed_spot p (fault place) = refl

reached_spot : (p : Position) (ts : List Token) → spot (reached p ts) ≡ reached_part ends_part 4 (spot p) ts
unfolding reached
reached_spot p [] = refl
reached_spot p (t ∷ ts) =
    reached_spot (passed p t) ts ∙ ap (λ (q : Place 4). reached_part ends_part 4 q ts) (passed_spot p t)

separated_part : (ts : List Token) → (ts ≡ []) ⊎ (ended_by 3 ts ≡ true) → Separated ends_part ts
unfolding ended_by
separated_part [] h = tt
separated_part (t ∷ ts) (inl e) = absurd (cons≢nil e)
separated_part (t ∷ ts) (inr h) = h

part_separated : (ts : List Token) → Separated ends_part ts → (ts ≡ []) ⊎ (ended_by 3 ts ≡ true)
unfolding ended_by
part_separated [] h = inl refl
part_separated (t ∷ ts) h = inr h

-- ---- the value of a piece

start_through : (t : Token → Bool) (ts : List Token) → start (through t ts) ≡ start ts
unfolding through start
start_through t [] = refl
start_through t (x ∷ xs) = refl

-- what stands at a position of the trimmed segments stands at that position of the tokens
pub standing_placed : (ts : List Token) (g e r k : ℕ) (v : Value) → standing_at (map trimmed (segments ts)) g e r k ≡ some v
    → Placed ts (position_at g e r k) v
unfolding value_of
standing_placed ts g e r k v h =
    let s = standing_piece g e r k ts v h in
    let p = piece_parted ends_part ends_value_lem 3 (spot_at g e r k) ts s.0 s.1 in
    let began : start s.0 ≡ start p.rest = ap start (sym p.begins) ∙ start_through (ends 3) p.rest in
    subst (Placed ts (position_at g e r k)) {x = value_of s.0} s.2
    (record {
      before = p.before;
      rest = p.rest;
      parts = p.parts;
      reaches =
          ap (λ (q : Place 4). position_at q.0 q.1.0 q.1.1.0 q.1.1.1.0) (reached_spot origin p.before ∙ p.reaches);
      separated = part_separated p.before p.separated;
      there = p.there;
      bytes = ap bytes_of (sym p.begins);
      offset = began;
      spelled = ap₂ (λ (l : List Token) (n : ℕ). end_place l - n) (sym p.begins) began;
    })

-- ---- one value alone stands at a position

pub one_placed : (ts : List Token) (p : Position) (v w : Value) → Placed ts p v → Placed ts p w → v ≡ w
one_placed ts p v w a b =
    let same : a.rest ≡ b.rest =
    one_parting ends_part ends_value_lem 3 (spot_at 0 0 0 0) a.before b.before a.rest b.rest (sym a.parts ∙ b.parts)
    (sym (reached_spot origin a.before)
    ∙ ap spot (a.reaches ∙ sym b.reaches)
    ∙ reached_spot origin b.before)
    (separated_part a.before a.separated)
    (separated_part b.before b.separated) in
    let bytes : v.bytes ≡ w.bytes = a.bytes ∙ ap (λ (l : List Token). bytes_of (through (ends 3) l)) same ∙ sym b.bytes in
    let offset : v.offset ≡ w.offset = a.offset ∙ ap start same ∙ sym b.offset in
    let spelled : v.spelled ≡ w.spelled =
    a.spelled ∙ ap (λ (l : List Token). end_place (through (ends 3) l) - start l) same ∙ sym b.spelled in
    λ i. record { bytes = bytes i; offset = offset i; spelled = spelled i }
