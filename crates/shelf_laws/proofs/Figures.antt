-- The duplicates figure: a put that finds its copy raises it, up to its ceiling, and no other call changes it; so over any list of operations.
-- Assumes nothing.
use Rattle.std.specs.Prelude.{if◌then◌else◌}
use Prim.Native.Nat.{ℕ, ◌+◌, ◌≤◌, min}
use mathlib.Core.Path.{◌≡◌, refl, ap, ◌∙◌}
use mathlib.Core.Bool.{Bool, true, false, ◌&&◌}
use mathlib.Core.List.{List, [], ◌∷◌}
use mathlib.Core.Logic.{⊎_elim}
use native.Mathlib.Omega.{arith}
use lib.Dec.{eqb}
use lib.ListN.{get_or}
use Rattle.refusals.specs.declared.Refusal.{Refusal}
use Rattle.answers.specs.Answers.{given, refused}
use Rattle.shelves.specs.Layout.{Layout, held_figure, duplicates_of, held}
use Rattle.shelves.specs.Answers.{new_at, copy_at}
use Rattle.shelves.specs.Operations.{lowest_free, put, put_shelf, remove_shelf}
use Rattle.shelves.proofs.Sound.{Sound}
use Rattle.shelf_laws.specs.Histories.{Operation, puts, gets, removes, is_given, is_copy, after, copied, after_all, all_copied}
use Rattle.shelf_laws.proofs.PutCases as put
use Rattle.shelf_laws.proofs.PutLaws as put_laws
use Rattle.shelf_laws.proofs.RemoveCases as remove
use Rattle.shelf_laws.proofs.Histories.{refused_not_given, step}

-- what an answer tells

refused_not_copy : (r : Refusal) → is_copy (refused r) ≡ false
unfolding is_copy
refused_not_copy r = ap (λ (b : Bool). b && eqb (get_or (refused r).values 1 0) 0) (refused_not_given r)

new_not_copy : (k : ℕ) → is_copy (new_at k) ≡ false
unfolding is_copy is_given new_at given
new_not_copy k = refl

copy_is_copy : (k : ℕ) → is_copy (copy_at k) ≡ true
unfolding is_copy is_given copy_at given
copy_is_copy k = refl

abbrev counted : Bool → ℕ
counted b = if b then 1 else 0

module _ (l : Layout) (sums : 21 ≤ l.pairs) (s : List ℕ) where
  head : 13 ≤ l.pairs
  head = omega arith

  -- "rises by one at each put that finds its copy"
  raises : (input : List ℕ) (c : put.Copying l s input) → duplicates_of (put_shelf l s input) ≡ min (duplicates_of s + 1) 4294967295
  raises input c = c.copies.duplicates sums (omega (arith, c.was.least))

  pub put_raises : (input : List ℕ) (slot : ℕ) → put l s input ≡ copy_at slot → duplicates_of (put_shelf l s input) ≡ min (duplicates_of s + 1) 4294967295
  put_raises input slot e = raises input (put_laws.copy_case l head s input slot e).0

  -- a refused put or a new text leaves it
  pub put_leaves : (input : List ℕ) → ((k : ℕ) → put l s input ≡ copy_at k → ⊥) → duplicates_of (put_shelf l s input) ≡ duplicates_of s
  put_leaves input other =
      ⊎_elim (λ (c : put.Refusing l s input). ap duplicates_of c.stays)
      (⊎_elim (λ (c : put.Copying l s input). absurd (other c.slot c.answer))
      (λ (c : put.Storing l s input). c.adds.duplicates sums))
      (put.put_cases l s input head)

  -- so does Remove
  pub remove_leaves : (slot : ℕ) → duplicates_of (remove_shelf l s slot) ≡ duplicates_of s
  remove_leaves slot =
      ⊎_elim (λ (c : remove.Refusing l s slot). ap duplicates_of c.stays) (λ (c : remove.Taking l s slot). c.takes.duplicates sums)
      (remove.remove_cases l s slot head)

  -- one put: by what it answers
  put_counts : (input : List ℕ) → duplicates_of s ≤ 4294967295
      → duplicates_of (put_shelf l s input) ≡ min (duplicates_of s + counted (is_copy (put l s input))) 4294967295
  put_counts input small =
      ⊎_elim (λ (c : put.Refusing l s input). left (ap is_copy c.answer ∙ refused_not_copy c.refusal) (ap duplicates_of c.stays))
      (⊎_elim (λ (c : put.Copying l s input). more (ap is_copy c.answer ∙ copy_is_copy c.slot) (raises input c))
      (λ (c : put.Storing l s input). left (ap is_copy c.answer ∙ new_not_copy (lowest_free l s)) (c.adds.duplicates sums)))
      (put.put_cases l s input head)
    where
      left : is_copy (put l s input) ≡ false → duplicates_of (put_shelf l s input) ≡ duplicates_of s
          → duplicates_of (put_shelf l s input) ≡ min (duplicates_of s + counted (is_copy (put l s input))) 4294967295
      left e h = let n : counted (is_copy (put l s input)) ≡ 0 = ap counted e in omega arith

      more : is_copy (put l s input) ≡ true → duplicates_of (put_shelf l s input) ≡ min (duplicates_of s + 1) 4294967295
          → duplicates_of (put_shelf l s input) ≡ min (duplicates_of s + counted (is_copy (put l s input))) 4294967295
      more e h = let n : counted (is_copy (put l s input)) ≡ 1 = ap counted e in omega arith

  -- one operation
  counts : (o : Operation) → duplicates_of s ≤ 4294967295 → duplicates_of (after l s o) ≡ min (duplicates_of s + copied l s o) 4294967295
  unfolding after copied
  counts (puts input) small = put_counts input small
  counts (gets slot) small = omega arith
  counts (removes slot) small = omega (arith, remove_leaves slot)

-- all of them: the first figure is the sum of the lengths, the second what it was and the puts that found their copy, up to its ceiling
pub figures : (l : Layout) → 21 ≤ l.pairs → (os : List Operation) (s : List ℕ) → Sound l s → duplicates_of s ≤ 4294967295
    → (held_figure (after_all l s os) ≡ held l (after_all l s os))
    × (duplicates_of (after_all l s os) ≡ min (duplicates_of s + all_copied l s os) 4294967295)
unfolding after_all all_copied
figures l sums [] s was small = (was.summed sums, omega arith)
figures l sums (o ∷ os) s was small =
    let one = counts l sums s o small in
    let rest = figures l sums os (after l s o) (step l (omega arith) s o was).0 (omega arith) in
    (rest.0, omega (arith, rest.1))
