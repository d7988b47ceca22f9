-- The number and the values of an answer determine it: two answers with the same number and values are equal. Assumes nothing.
use Rattle.answers.specs.declared.Unaccepted.TheVariants.{First, Second}
use Rattle.std.specs.Prelude.{Ok, Err, Some, None, Result, true, false}
use Prim.Native.Nat.{ℕ}
use mathlib.Core.Path.{◌≡◌, refl, sym, ap, ap₂}
use mathlib.Core.List.{List, [], ◌∷◌}
use mathlib.Core.Option.{Option, none, some}
use native.Mathlib.Omega.{arith}
use lib.ListN.{length, drop, get_or}
use Rattle.lists.specs.Lists.{maybe}
use Rattle.characters.specs.Characters.{spelled_out}
use Rattle.refusals.specs.declared.Refusal.{Refusal}
use Rattle.refusals.proofs.Order.{number_tells, number_not_zero}
use Rattle.answers.specs.declared.Figures.{Figures}
use Rattle.answers.specs.declared.Listed.{Listed}
use Rattle.answers.specs.Answers.{Answer, given, refused, refused_input, accepted, told_judged, told_stored, told_compared, told_located, told_listed, Stored, Judged, Compared, Located}

-- how many values an answer has, and the one at a number
abbrev values : Answer → ℕ
values a = length a.values

abbrev value : ℕ → Answer → ℕ
value k a = get_or a.values k 0

-- ---- an interchange and a refusal

pub accepted_tells : (i j : Figures) → accepted i ≡ accepted j → i ≡ j
unfolding accepted given spelled_out
accepted_tells i j e =
    λ k.
    record {
      characters =
          record {
            component = ap (value 0) e k;
            element = ap (value 1) e k;
            mark = ap (value 2) e k;
            release = ap (value 3) e k;
            repetition = ap (value 4) e k;
            terminator = ap (value 5) e k;
          };
      segments = record { 0 = ap (value 6) e k };
      messages = record { 0 = ap (value 7) e k };
      groups = record { 0 = ap (value 8) e k };
      length = ap (value 9) e k;
    }

pub refused_tells : (r q : Refusal) → refused r ≡ refused q → r ≡ q
unfolding refused
refused_tells r q e =
    ap₂ (λ f p. record { fault = f; place = p }) (number_tells r.fault q.fault (ap (λ (a : Answer). a.number) e)) (ap (value 0) e)

-- with the input that is refused
input_tells : (which : ℕ) (r q : Refusal) → refused_input which r ≡ refused_input which q → r ≡ q
unfolding refused refused_input
input_tells which r q e = refused_tells r q (ap (λ (a : Answer). record { number = a.number; values = drop 1 a.values }) e)

-- what is given has the number 0, and no refusal has
pub given_refused : (l : List ℕ) (r : Refusal) → given l ≡ refused r → ⊥
unfolding given refused
given_refused l r e = number_not_zero r.fault (sym (ap (λ (a : Answer). a.number) e))

given_input : (l : List ℕ) (which : ℕ) (r : Refusal) → given l ≡ refused_input which r → ⊥
unfolding given refused_input
given_input l which r e = number_not_zero r.fault (sym (ap (λ (a : Answer). a.number) e))

-- no accepted answer has the number and values of a refusal
pub different : (i : Figures) (r : Refusal) → accepted i ≡ refused r → ⊥
unfolding accepted
different i r e = given_refused _ r e

-- ---- what an answer says of the refusal, if any

-- an answer with the number 0 was not refused, and has the values that there were to give
pub given_is : (values l : List ℕ) (o : Option Refusal) → given l ≡ maybe (given values) refused o → (o ≡ none) × (l ≡ values)
unfolding maybe given
given_is values l none e = (refl, ap (λ (a : Answer). a.values) e)
given_is values l (some r) e = absurd (given_refused l r e)

-- an answer that is a refusal was refused with that refusal
pub refused_is : (values : List ℕ) (r : Refusal) (o : Option Refusal) → refused r ≡ maybe (given values) refused o → o ≡ some r
unfolding maybe
refused_is values r none e = absurd (given_refused values r (sym e))
refused_is values r (some q) e = ap some (sym (refused_tells r q e))

-- ---- the answers

pub judged_tells : (a b : Judged) → told_judged a ≡ told_judged b → a ≡ b
unfolding told_judged
judged_tells (Ok i) (Ok j) e = ap Ok (accepted_tells i j e)
judged_tells (Ok i) (Err r) e = absurd (different i r e)
judged_tells (Err r) (Ok i) e = absurd (different i r (sym e))
judged_tells (Err r) (Err q) e = ap Err (refused_tells r q e)

pub stored_tells : (a b : Stored) → told_stored a ≡ told_stored b → a ≡ b
unfolding told_stored given
stored_tells (Ok n) (Ok m) e = ap Ok (ap (value 0) e)
stored_tells (Ok n) (Err r) e = absurd (given_refused (n ∷ []) r e)
stored_tells (Err r) (Ok n) e = absurd (given_refused (n ∷ []) r (sym e))
stored_tells (Err r) (Err q) e = ap Err (refused_tells r q e)

pub compared_tells : (a b : Compared) → told_compared a ≡ told_compared b → a ≡ b
unfolding told_compared given refused_input
compared_tells (Ok true) (Ok true) e = refl
compared_tells (Ok true) (Ok false) e = absurd (omega (arith, ap (value 0) e))
compared_tells (Ok true) (Err (First q)) e = absurd (given_input (1 ∷ []) 1 q e)
compared_tells (Ok true) (Err (Second q)) e = absurd (given_input (1 ∷ []) 2 q e)
compared_tells (Ok false) (Ok true) e = absurd (omega (arith, ap (value 0) e))
compared_tells (Ok false) (Ok false) e = refl
compared_tells (Ok false) (Err (First q)) e = absurd (given_input (0 ∷ []) 1 q e)
compared_tells (Ok false) (Err (Second q)) e = absurd (given_input (0 ∷ []) 2 q e)
compared_tells (Err (First r)) (Ok true) e = absurd (given_input (1 ∷ []) 1 r (sym e))
compared_tells (Err (First r)) (Ok false) e = absurd (given_input (0 ∷ []) 1 r (sym e))
compared_tells (Err (First r)) (Err (First q)) e = ap (λ x. Err (First x)) (input_tells 1 r q e)
compared_tells (Err (First r)) (Err (Second q)) e = absurd (omega (arith, ap (value 0) e))
compared_tells (Err (Second r)) (Ok true) e = absurd (given_input (1 ∷ []) 2 r (sym e))
compared_tells (Err (Second r)) (Ok false) e = absurd (given_input (0 ∷ []) 2 r (sym e))
compared_tells (Err (Second r)) (Err (First q)) e = absurd (omega (arith, ap (value 0) e))
compared_tells (Err (Second r)) (Err (Second q)) e = ap (λ x. Err (Second x)) (input_tells 2 r q e)

pub located_tells : (a b : Located) → told_located a ≡ told_located b → a ≡ b
unfolding told_located given
located_tells (Ok (Some v)) (Ok (Some w)) e = ap₂ (λ (o n : ℕ). Ok (Some (record { offset = o; length = n }))) (ap (value 0) e) (ap (value 1) e)
located_tells (Ok (Some v)) (Ok None) e = absurd (omega (arith, ap values e))
located_tells (Ok (Some v)) (Err r) e = absurd (given_refused (v.offset ∷ v.length ∷ []) r e)
located_tells (Ok None) (Ok (Some v)) e = absurd (omega (arith, ap values e))
located_tells (Ok None) (Ok None) e = refl
located_tells (Ok None) (Err r) e = absurd (given_refused [] r e)
located_tells (Err q) (Ok (Some v)) e = absurd (given_refused (v.offset ∷ v.length ∷ []) q (sym e))
located_tells (Err q) (Ok None) e = absurd (given_refused [] q (sym e))
located_tells (Err q) (Err r) e = ap Err (refused_tells q r e)

pub listed_tells : (a b : Result Listed Refusal) → told_listed a ≡ told_listed b → a ≡ b
unfolding told_listed given
listed_tells (Ok v) (Ok w) e = ap₂ (λ (n m : ℕ). Ok (record { bytes = n; numbers = m })) (ap (value 0) e) (ap (value 1) e)
listed_tells (Ok v) (Err r) e = absurd (given_refused (v.bytes ∷ v.numbers ∷ []) r e)
listed_tells (Err r) (Ok v) e = absurd (given_refused (v.bytes ∷ v.numbers ∷ []) r (sym e))
listed_tells (Err r) (Err q) e = ap Err (refused_tells r q e)
