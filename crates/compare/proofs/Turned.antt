-- What Compare answers, from what it answers for the two inputs in the other order. Assumes nothing.
use Rattle.answers.specs.declared.Unaccepted.TheVariants.{First, Second}
use Rattle.std.specs.Prelude.{if◌then◌else◌, Ok, Err}
use Prim.Native.Nat.{ℕ}
use mathlib.Core.Path.{◌≡◌, refl, sym, ap, ◌∙◌}
use mathlib.Core.Bool.{Bool, true, false}
use mathlib.Core.List.{List, [], ◌∷◌}
use mathlib.Core.Option.{Option, none, some}
use Rattle.lists.specs.Lists.{maybe}
use Rattle.refusals.specs.declared.Refusal.{Refusal}
use Rattle.stages.specs.Stages.{refusal_of}
use Rattle.answers.specs.Answers.{given, refused_input, told_compared, Compared}
use Rattle.contracts.proofs.Told.{compared_tells}
use Rattle.operations.specs.Compare.{are_same, compare}
use Rattle.operations.proofs.Answered.{compare_by}
use Rattle.operations.proofs.Cases.{same_says}

-- ---- the answer, from what refuses the two inputs and from whether they are the same

answer_of : (o p : Option Refusal) → Bool → Compared
answer_of (some r) p t = Err (First r)
answer_of none (some r) t = Err (Second r)
answer_of none none true = Ok true
answer_of none none false = Ok false

answer_told : (o p : Option Refusal) (t : Bool)
    → told_compared (answer_of o p t) ≡ maybe (maybe (given ((if t then 1 else 0) ∷ [])) (refused_input 2) p) (refused_input 1) o
unfolding answer_of told_compared maybe
answer_told (some r) p t = refl
answer_told none (some r) t = refl
answer_told none none true = refl
answer_told none none false = refl

module _ (first second : List ℕ) where
  abbrev answer : Compared
  answer = answer_of (refusal_of first) (refusal_of second) (are_same first second)

  answered : told_compared answer ≡ compare first second
  answered =
      answer_told (refusal_of first) (refusal_of second) (are_same first second)
      ∙ sym (compare_by first second (refusal_of first) (refusal_of second) refl refl)

  -- two that are the same are so in either order
  same_turned : are_same first second ≡ true → are_same second first ≡ true
  same_turned h =
      let (e, f, forms) = (same_says first second).0 h in
      (same_says second first).1 (f, e, sym forms)

same_either : (a b : List ℕ) → are_same a b ≡ are_same b a
same_either a b = step (are_same a b) (are_same b a) (same_turned a b) (same_turned b a)
  where
    step : (t u : Bool) → (t ≡ true → u ≡ true) → (u ≡ true → t ≡ true) → t ≡ u
    step true u there back = sym (there refl)
    step false true there back = back refl
    step false false there back = refl

-- ---- turned round

-- the answer for the two inputs, from the answer in the other order and from what refuses the first
unfoldable pub turned : Compared → Option Refusal → Compared
turned (Ok same) o = Ok same
turned (Err (Second r)) o = Err (First r)
turned (Err (First r)) o = maybe (Err (Second r)) (λ q. Err (First q)) o

turned_answer : (o p : Option Refusal) (t : Bool) → turned (answer_of p o t) o ≡ answer_of o p t
unfolding turned answer_of maybe
turned_answer none none true = refl
turned_answer none none false = refl
turned_answer none (some r) t = refl
turned_answer (some q) none t = refl
turned_answer (some q) (some r) t = refl

module _ (first second : List ℕ) {r q : Compared} (told : told_compared r ≡ compare second first) (d : r ≡ q) where
  -- where this was answered in the other order, and this refuses the first
  pub turned_is : {o : Option Refusal} → refusal_of first ≡ o → told_compared (turned q o) ≡ compare first second
  turned_is e =
      let was : q ≡ answer second first = sym d ∙ compared_tells r (answer second first) (told ∙ sym (answered second first)) in
      ap told_compared
      (ap (turned q) (sym e)
      ∙ ap (λ (c : Compared). turned c (refusal_of first)) was
      ∙ ap (λ (t : Bool). turned (answer_of (refusal_of second) (refusal_of first) t) (refusal_of first)) (same_either second first)
      ∙ turned_answer (refusal_of first) (refusal_of second) (are_same first second))
      ∙ answered first second
