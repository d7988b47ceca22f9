-- Paper 01, "Try these fakes": what answers as Judge does cannot refuse everything, cannot accept everything, and cannot invent a count.
-- Assumes nothing.
use Prim.Native.Nat.{ℕ}
use mathlib.Core.Path.{◌≡◌, refl, sym, ap, ◌∙◌}
use mathlib.Core.Bool.{Bool, true, false}
use mathlib.Core.List.Memᴰ
use mathlib.Core.List.{List, [], ◌∷◌, ◌++◌}
use native.Mathlib.Omega.{arith}
use lib.ListN.{length, get_or, drop}
use lib.Dec.{T, eqb}
use borrow.Author.Tests.{eqb-true}
use Rattle.lists.specs.Lists.{same, all}
use Rattle.lists.proofs.Texts.{and_left}
use Rattle.characters.specs.declared.Characters.{Characters}
use Rattle.characters.specs.Characters.{spelled_out, advice_of}
use Rattle.stages.specs.Contents.{normal_form}
use Rattle.answers.specs.Answers.{Answer, given}
use Rattle.operations.specs.Judge.{judge}
use Rattle.starred_cases.specs.Cases.{Case, accepted, x, cases, says, meets, holds}
use Rattle.starred_cases.specs.Theorem.{all_cases_hold}
use Rattle.acceptance_laws.specs.Allowed.{WellOpened, advice, plus, control, Allowed}
use Rattle.acceptance_laws.specs.Counts.{messages, groups, told}
use Rattle.acceptance_laws.proofs.Each.{all_each}
use Rattle.acceptance_laws.proofs.Judged.{judged_accepted, judged_number}

passed : (t : Bool) → T t → t ≡ true
passed true h = refl
passed false h = absurd h

-- X of the paper is allowed
pub x_allowed : Allowed x
unfolding cases holds meets says
x_allowed =
    let case : Case = record { input = x; expected = accepted 5 1 0 93 } in
    let all_hold : all holds cases ≡ true = passed (all holds cases) all_cases_hold in
    let h : says (judge x) 6 0 counts ≡ true = (all_each holds cases).0 all_hold case (Memᴰ.tail (Memᴰ.head refl)) in
    (judged_number x).0
    (eqb-true (judge x).number 0 (and_left (eqb (judge x).number 0) (same (drop 6 (judge x).values) counts) h))
  where
    counts : List ℕ
    counts = 5 ∷ 1 ∷ 0 ∷ 93 ∷ []

-- an input of no bytes is not
pub empty_not_allowed : Allowed [] → ⊥
unfolding advice_of
empty_not_allowed a = begun a.opening
  where
    begun : WellOpened [] → ⊥
    begun (advice c gap rest u only e) = omega (arith, ap length e)
    begun (plus rest e) = omega (arith, ap length e)
    begun (control rest e) = omega (arith, ap length e)

module _ (answer : List ℕ → Answer) (as_judge : (s : List ℕ) → answer s ≡ judge s) where
  pub not_all_refused : ((s : List ℕ) → (answer s).number ≡ 0 → ⊥) → ⊥
  not_all_refused h = h x (ap (λ (a : Answer). a.number) (as_judge x) ∙ (judged_number x).1 x_allowed)

  pub not_all_accepted : ((s : List ℕ) → (answer s).number ≡ 0) → ⊥
  not_all_accepted h = empty_not_allowed ((judged_number []).0 (ap (λ (a : Answer). a.number) (sym (as_judge [])) ∙ h []))

  pub no_count_invented : (s : List ℕ) (a : Allowed s) (c : Characters) (n m g size : ℕ)
      → answer s ≡ given (spelled_out c ++ n ∷ m ∷ g ∷ size ∷ [])
      → (n ≡ length a.spelled.list) × (m ≡ messages a.order) × (g ≡ groups a.order) × (size ≡ length (normal_form s))
  unfolding given spelled_out
  no_count_invented s a c n m g size e = (at 6, at 7, at 8, at 9)
    where
      at : (i : ℕ) → get_or (spelled_out c ++ n ∷ m ∷ g ∷ size ∷ []) i 0 ≡ get_or (told s a) i 0
      at i = ap (λ (x : Answer). get_or x.values i 0) (sym e ∙ as_judge s ∙ judged_accepted s a)
