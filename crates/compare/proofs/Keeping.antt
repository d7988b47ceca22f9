-- What Keep hands back: one of the two inputs whole, or no byte of the first; and the same as a slice. Assumes nothing.
use Rattle.std.specs.Prelude.{if◌then◌else◌}
use Prim.Native.Nat.{ℕ, ◌≤◌, ◌<◌, zero-le}
use mathlib.Core.Path.{◌≡◌, sym, ap, subst, ◌∙◌}
use mathlib.Core.Bool.{Bool, true, false}
use mathlib.Core.List.{List}
use native.Mathlib.Nat.{zero-add, le_refl}
use lib.Dec.{ltb}
use lib.ListN.{length, take}
use lib.Seq.{length-take-le}
use borrow.Author.Tests.{lt-ltb, le-ltb}
use denote.Ref.{Bor}
use Rattle.answers.specs.Answers.{told_compared, Compared}
use Rattle.operations.specs.Compare.{Part, of_first, of_second, are_same, compare, keep}
use Rattle.contracts.specs.Promises.{IsPart, Handed}
use Rattle.compare.specs.declared.Kept.{Kept}
use Rattle.compare.specs.declared.Kept.TheVariants.{First, Second}
use Rattle.compare.specs.Parts.{part_of}
use Rattle.compare.proofs.Compared.{is_same, told_same}

-- ---- which part it is

module _ (first second : List ℕ) where
  -- the part is in the input that it is of
  abbrev Fits : Part → Type 0
  Fits (of_first offset n) = n ≤ length first
  Fits (of_second offset n) = n ≤ length second

  pub kept_fits : {r q : Kept} → part_of r ≡ keep first second → r ≡ q → Fits (part_of q)
  unfolding keep
  kept_fits e d = subst Fits (sym e ∙ ap part_of d) (step (are_same first second) (ltb (length second) (length first)))
    where
      step : (same shorter : Bool)
          → Fits (if same then (if shorter then of_second 0 (length second) else of_first 0 (length first)) else of_first 0 0)
      step true true = le_refl (length second)
      step true false = le_refl (length first)
      step false shorter = zero-le

  module _ {r q : Compared} (e : told_compared r ≡ compare first second) (d : r ≡ q) where
    -- the two are not the same
    pub kept_none : is_same q ≡ false → part_of (First 0) ≡ keep first second
    unfolding keep part_of
    kept_none h = rw (sym (told_same first second r q e d) ∙ h)

    module _ (h : is_same q ≡ true) where
      -- they are, and the second is shorter
      pub kept_second : length second < length first → part_of (Second (length second)) ≡ keep first second
      unfolding keep part_of
      kept_second k = rw (sym (told_same first second r q e d) ∙ h, lt-ltb (length second) (length first) k)

      -- they are, and it is not
      pub kept_first : length first ≤ length second → part_of (First (length first)) ≡ keep first second
      unfolding keep part_of
      kept_first k = rw (sym (told_same first second r q e d) ∙ h, le-ltb (length second) (length first) k)

-- ---- the part as a slice

-- so many bytes from a slice's start
front : (lent r : Bor (List ℕ)) (n : ℕ) → n ≤ length lent.now → r.ref_ptr ≡ lent.ref_ptr → r.now ≡ take n lent.now → IsPart lent 0 n r
front lent r n h p q = record {
  place = p ∙ ap (λ (k : ℕ). (lent.ref_ptr.0, k)) (sym (zero-add lent.ref_ptr.1));
  long = ap length q ∙ length-take-le n lent.now h;
  bytes = q;
}

module _ (first second r : Bor (List ℕ)) (kept : Kept) (e : part_of kept ≡ keep first.now second.now) where
  handed_as : {part : Part} → part_of kept ≡ part → Handed part first second r → Handed (keep first.now second.now) first second r
  handed_as d = subst (λ (part : Part). Handed part first second r) (sym d ∙ e)

  pub handed_first : {n : ℕ} → kept ≡ First n → r.ref_ptr ≡ first.ref_ptr → r.now ≡ take n first.now → Handed (keep first.now second.now) first second r
  unfolding part_of
  handed_first {n} d p q = handed_as (ap part_of d) (front first r n (kept_fits first.now second.now e d) p q)

  pub handed_second : {n : ℕ} → kept ≡ Second n → r.ref_ptr ≡ second.ref_ptr → r.now ≡ take n second.now → Handed (keep first.now second.now) first second r
  unfolding part_of
  handed_second {n} d p q = handed_as (ap part_of d) (front second r n (kept_fits first.now second.now e d) p q)
