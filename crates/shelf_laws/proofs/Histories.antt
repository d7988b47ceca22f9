-- Over any list of operations the bytes held are those at the beginning and the lengths newly put, less the lengths removed.
-- Assumes nothing.
use Rattle.std.specs.Prelude.{if◌then◌else◌}
use Prim.Native.Nat.{ℕ, ◌+◌, ◌≤◌}
use mathlib.Core.Path.{◌≡◌, refl, ap, ◌∙◌}
use mathlib.Core.Bool.{Bool, true, false, ◌&&◌}
use mathlib.Core.List.{List, [], ◌∷◌}
use mathlib.Core.Logic.{⊎_elim}
use native.Mathlib.Omega.{arith}
use lib.Dec.{eqb}
use lib.ListN.{length, get_or}
use borrow.Author.Tests.{ne_eqb}
use Rattle.refusals.specs.declared.Refusal.{Refusal}
use Rattle.refusals.specs.Refusals.{number}
use Rattle.refusals.proofs.Order.{number_not_zero}
use Rattle.stages.specs.Contents.{normal_form}
use Rattle.answers.specs.Answers.{Answer, given, refused}
use Rattle.shelves.specs.Layout.{Layout, length_of, held, end_of}
use Rattle.shelves.specs.Answers.{new_at, copy_at}
use Rattle.shelves.specs.Operations.{lowest_free, put, put_shelf, remove, remove_shelf}
use Rattle.shelves.proofs.Sound.{Sound}
use Rattle.shelves.proofs.Copied.{held_as_lem}
use Rattle.shelf_laws.specs.Histories.{Operation, puts, gets, removes, is_given, is_new, after, newly_put, taken, after_all, all_put, all_removed}
use Rattle.shelf_laws.proofs.PutCases as put
use Rattle.shelf_laws.proofs.PutLaws as put_laws
use Rattle.shelf_laws.proofs.RemoveCases as remove
use Rattle.shelf_laws.proofs.RemoveLaws as remove_laws

-- what an answer tells

pub refused_not_given : (r : Refusal) → is_given (refused r) ≡ false
unfolding is_given refused
refused_not_given r = ne_eqb (number r.fault) 0 (number_not_zero r.fault)

refused_not_new : (r : Refusal) → is_new (refused r) ≡ false
unfolding is_new
refused_not_new r = ap (λ (b : Bool). b && eqb (get_or (refused r).values 1 0) 1) (refused_not_given r)

copy_not_new : (k : ℕ) → is_new (copy_at k) ≡ false
unfolding is_new is_given copy_at given
copy_not_new k = refl

new_is_new : (k : ℕ) → is_new (new_at k) ≡ true
unfolding is_new is_given new_at given
new_is_new k = refl

module _ (l : Layout) (head : 13 ≤ l.pairs) (s : List ℕ) where
  module _ (input : List ℕ) where
    abbrev counted : Answer → ℕ
    counted a = if is_new a then length (normal_form input) else 0

    -- Put adds what it newly puts
    put_adds : held l (put_shelf l s input) ≡ held l s + counted (put l s input)
    unfolding end_of
    put_adds =
        ⊎_elim (λ (c : put.Refusing l s input). nothing_new (ap (held l) c.stays) (ap is_new c.answer ∙ refused_not_new c.refusal))
        (⊎_elim (λ (c : put.Copying l s input). nothing_new (held_as_lem l head s (put_shelf l s input) c.copies) (ap is_new c.answer ∙ copy_not_new c.slot))
        (λ (c : put.Storing l s input).
        let e = ap is_new c.answer ∙ new_is_new (lowest_free l s) in
        let n : counted (put l s input) ≡ length (normal_form input) = ap (λ (b : Bool). if b then length (normal_form input) else 0) e in
        omega (arith, c.adds.end)))
        (put.put_cases l s input head)
      where
        nothing_new : held l (put_shelf l s input) ≡ held l s → is_new (put l s input) ≡ false → held l (put_shelf l s input) ≡ held l s + counted (put l s input)
        nothing_new stays e =
            let n : counted (put l s input) ≡ 0 = ap (λ (b : Bool). if b then length (normal_form input) else 0) e in
            omega arith

  module _ (slot : ℕ) where
    abbrev told : Answer → ℕ
    told a = if is_given a then get_or a.values 0 0 else 0

    -- Remove takes away what it answers
    remove_takes : held l (remove_shelf l s slot) + told (remove l s slot) ≡ held l s
    unfolding end_of is_given given
    remove_takes =
        ⊎_elim
        (λ (c : remove.Refusing l s slot).
        let e = ap is_given c.answer ∙ refused_not_given c.refusal in
        let n : told (remove l s slot) ≡ 0 = ap (λ (b : Bool). if b then get_or (remove l s slot).values 0 0 else 0) e in
        omega (arith, ap (held l) c.stays))
        (λ (c : remove.Taking l s slot).
        let n : told (remove l s slot) ≡ length_of l s slot = ap told c.answer in
        omega (arith, c.takes.end))
        (remove.remove_cases l s slot head)

  -- one operation: a sound shelf stays sound, and the lengths add up
  pub step : (o : Operation) → Sound l s → Sound l (after l s o) × (held l s + newly_put l s o ≡ held l (after l s o) + taken l s o)
  unfolding after newly_put taken
  step (puts input) was = (put_laws.keeps_sound l head s input was, omega (arith, put_adds input))
  step (gets slot) was = (was, omega arith)
  step (removes slot) was = (remove_laws.keeps_sound l head s slot was, omega (arith, remove_takes slot))

-- all of them
pub history : (l : Layout) → 13 ≤ l.pairs → (os : List Operation) (s : List ℕ) → Sound l s
    → Sound l (after_all l s os) × (held l s + all_put l s os ≡ held l (after_all l s os) + all_removed l s os)
unfolding after_all all_put all_removed
history l head [] s was = (was, omega arith)
history l head (o ∷ os) s was =
    let one = step l head s o was in
    let rest = history l head os (after l s o) one.0 in
    (rest.0, omega (arith, one.1, rest.1))
