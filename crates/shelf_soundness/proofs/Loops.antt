-- A test of each slot, and one of two tests. Assumes nothing.
use Rattle.std.specs.Prelude.{if◌then◌else◌}
use Prim.Native.Nat.{ℕ, ◌+◌, ◌-◌, ◌<◌}
use mathlib.Core.List.{List}
use lib.ListN.{length, get_or}
use Rattle.std.specs.Bool.{MatchBool}
use Rattle.std.specs.Prelude.{Option, MatchOption}
use denote.Param.Members.{Mut}
use Rattle.std.specs.declared.ops.Range.{Range}
use Rattle.std.specs.List.{AllWithin, HoldsAt}
use Rattle.std.specs.Fn.{Called}
use Rattle.std.specs.List.{FoldsTo, range_with_len}
use Rattle.std.specs.Iterator.{YieldsThen}
use Rattle.std.proofs.iter.Yields.{nat_range_steps}
use Rattle.std.proofs.lemmas.Iterator.{cases_from_all, YieldsList-from_range}
use Rattle.std.proofs.lemmas.List.FromFn.{length-range_with_len, get_or-range_with_len}
use mathlib.Core.Path.{◌≡◌, refl, sym, subst, ◌∙◌}
use mathlib.Core.Bool.{Bool, true, false, false≢true}
use native.Mathlib.Omega.{arith}
use Rattle.lists.proofs.Tests.{Says}
use Rattle.shelf_soundness.specs.Clauses.{Each}

-- what a test says of each slot from a number on, `all` over these slots says of them together
pub all_slots : {F : Type 0} {g : Mut F (ℕ × Unit {0}) Bool} (from : ℕ) (u : Range ℕ) (f : F) (r : Bool) (P : ℕ → Type 0)
    → (xs : List ℕ) × (o : Option ℕ) × (j : F) × YieldsThen nat_range_steps (record { start = from; end = 64 }) xs o u × FoldsTo (λ p x q. Called g p (x, tt) true q) f xs j × MatchOption o (r ≡ true) (λ x. (r ≡ false) × ((h : F) × Called g j (x, tt) false h))
    → ((k : ℕ) (q : F) → Called g f (k, tt) true q → (q ≡ f) × P k)
    → ((k : ℕ) (q : F) → Called g f (k, tt) false q → P k → ⊥)
    → Says r (Each P from)
all_slots from u f r P d hits misses = by r (cases_from_all u f r P (λ k. P k → ⊥) d (YieldsList-from_range from 64 _ refl refl) hits misses)
  where
    all : List ℕ
    all = range_with_len from (64 - from)

    long : length all ≡ 64 - from
    long = length-range_with_len from (64 - from)

    by : (t : Bool) → MatchBool t (AllWithin P all 0 (length all)) ((k : ℕ) × (k < length all) × HoldsAt (λ n. P n → ⊥) all k) → Says t (Each P from)
    by true h = (
      (λ e k a b. subst P {x = get_or all (k - from) 0} {y = k}
          (omega (arith, get_or-range_with_len from (64 - from) (k - from) 0 (omega arith)))
          (h (k - from) 0 (omega arith) (omega (arith, long)))),
      λ f. refl,
    )
    by false h = (
      (λ e. absurd (false≢true e)),
      λ each. absurd (h.2 0 (subst P (sym (get_or-range_with_len from (64 - from) h.0 0 (omega (arith, long, h.1)))) (each (from + h.0) (omega arith) (omega (arith, long, h.1))))),
    )

-- a test that fails does not pass
pub not_passed : {r t : Bool} → r ≡ t → r ≡ false → t ≡ true → ⊥
not_passed e f g = false≢true (sym f ∙ e ∙ g)

-- ---- one of two tests

-- what the first says where the choice is true, and the second where it is false
pub chosen : (b x y : Bool) → (if b then x else y) ≡ true → b ≡ true → x ≡ true
chosen true x y h e = h
chosen false x y h e = absurd (false≢true e)

pub other_chosen : (b x y : Bool) → (if b then x else y) ≡ true → b ≡ false → y ≡ true
other_chosen true x y h e = absurd (false≢true (sym e))
other_chosen false x y h e = h

pub choose : (b x y : Bool) → (b ≡ true → x ≡ true) → (b ≡ false → y ≡ true) → (if b then x else y) ≡ true
choose true x y f g = f refl
choose false x y f g = g refl
