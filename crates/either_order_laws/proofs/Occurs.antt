-- There is a shelf of version 2 with room for either of two accepted interchanges and not for both: an empty one with 93 free bytes, X, and a
-- shorter one (`shelf_cases`: `FitsEither`). Assumes nothing.
use Rattle.std.specs.Prelude.{if◌then◌else◌}
use Prim.Native.Nat.{ℕ, ◌≤◌}
use mathlib.Core.Path.{◌≡◌, refl, ap, ◌∙◌}
use mathlib.Core.Bool.{Bool, true, false, ◌||◌, false≢true}
use mathlib.Core.List.{List, [], ◌∷◌, map}
use native.Mathlib.Omega.{arith}
use lib.Dec.{T, eqb}
use lib.ListN.{length}
use borrow.Author.Tests.{eqb-true}
use Rattle.lists.specs.Lists.{any, is_empty}
use Rattle.lists.proofs.Texts.{same_length}
use Rattle.stages.specs.Contents.{normal_form}
use Rattle.operations.specs.Compare.{is_accepted}
use Rattle.shelves.specs.Layout.{version_two, total, occupied, free, length_of, text_of, kept, held, end_of}
use Rattle.shelves.specs.Soundness.{sound}
use Rattle.starred_cases.specs.Cases.{x}
use Rattle.shelf_cases.specs.Cases.{short}
use Rattle.shelf_cases.specs.CasesTwo.{narrow}
use Rattle.shelf_cases.specs.Theorem.{all_shelves_hold}
use Rattle.either_order_laws.specs.EitherOrder.{free_bytes, new_of, new_forms, Room, RoomForEither}
use Rattle.either_order_laws.proofs.Reordering.{Texts}
use Rattle.either_order_laws.proofs.NewTexts.{all_bytes}
use Rattle.either_order_laws.proofs.OnePut.{free_slots}

-- ---- what is computed of it

passed : (b : Bool) → T b → b ≡ true
passed true t = refl
passed false t = absurd t

none_in : (ks : List ℕ) → is_empty ks ≡ true → ks ≡ []
unfolding is_empty
none_in [] h = refl
none_in (k ∷ ks) h = absurd (false≢true h)

abbrev form_x : List ℕ
form_x = normal_form x

abbrev form_short : List ℕ
form_short = normal_form short

empty : occupied narrow ≡ []
empty = none_in (occupied narrow) (passed (is_empty (occupied narrow)) all_shelves_hold.1.1)

sizes : (length narrow ≡ 626) × (length form_x ≡ 93) × (length form_short ≡ 52)
sizes =
    let fits = all_shelves_hold.1 in (
      eqb-true (length narrow) 626 (passed (eqb (length narrow) 626) fits.2),
      eqb-true (length form_x) 93 (passed (eqb (length form_x) 93) fits.5),
      eqb-true (length form_short) 52 (passed (eqb (length form_short) 52) fits.6),
    )

-- ---- its room

free_slots_of : length (free narrow) ≡ 64
free_slots_of = omega (arith, free_slots narrow, ap length empty)

free_bytes_of : free_bytes version_two narrow ≡ 93
unfolding free_bytes end_of held total
free_bytes_of = omega (arith, ap (λ (ks : List ℕ). total (map (length_of version_two narrow) ks)) empty, sizes.0)

news : (inputs : Texts) → new_forms version_two narrow inputs ≡ new_of [] (map normal_form inputs)
unfolding new_forms kept
news inputs = ap (λ (ks : List ℕ). new_of (map (text_of version_two narrow) ks) (map normal_form inputs)) empty

news_one : (form : List ℕ) → new_of [] (form ∷ []) ≡ form ∷ []
unfolding new_of any
news_one form = refl

news_two : new_of [] (form_x ∷ form_short ∷ []) ≡ form_x ∷ form_short ∷ []
unfolding new_of any
news_two =
    ap (λ (b : Bool). form_x ∷ (if b || false then [] else form_short ∷ []))
    (same_length form_short form_x (λ e. omega (arith, sizes.1, sizes.2)))

fits_alone : (input : List ℕ) → length (normal_form input) ≤ 93 → Room version_two narrow (input ∷ [])
unfolding total
fits_alone input h =
    let e = news (input ∷ []) ∙ news_one (normal_form input) in
    record { slots = omega (arith, ap length e, free_slots_of); bytes = omega (arith, ap all_bytes e, free_bytes_of) }

not_both_lem : Room version_two narrow (x ∷ short ∷ []) → ⊥
unfolding total
not_both_lem r =
    let e = news (x ∷ short ∷ []) ∙ news_two in
    omega (arith, r.bytes, ap all_bytes e, free_bytes_of, sizes.1, sizes.2)

pub room_for_either : RoomForEither version_two narrow x short
room_for_either =
    let fits = all_shelves_hold.1 in
    record {
      sane = passed (sound version_two narrow) fits.0;
      accepted_a = passed (is_accepted x) fits.3;
      accepted_b = passed (is_accepted short) fits.4;
      room_a = fits_alone x (omega (arith, sizes.1));
      room_b = fits_alone short (omega (arith, sizes.2));
      not_both = not_both_lem;
    }
