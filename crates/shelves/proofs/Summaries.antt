-- What Put and Remove leave at the head of a shelf that has the two sums: each field as its step on the summary says. Assumes nothing.
use Prim.Native.Nat.{ℕ, ◌+◌, ◌≤◌}
use mathlib.Core.Path.{◌≡◌, ◌∙◌}
use mathlib.Core.List.{List}
use native.Mathlib.Nat.{mod-eq_of_lt}
use native.Mathlib.Omega.{arith}
use lib.ListN.{length}
use Rattle.shelves.specs.Layout.{Layout, map_of, held_figure, duplicates_of, Occupied, Free, length_of, held, end_of}
use Rattle.shelves.specs.Summary.{summary_of, put_new, put_copy, removed}
use Rattle.shelves.specs.Operations.{lowest_free, with_text, with_copy, without}
use Rattle.shelves.proofs.Sound.{Sound}
use Rattle.shelves.proofs.Added.{with_text_lem}
use Rattle.shelves.proofs.Removed.{without_text}
use Rattle.shelves.proofs.Copied.{with_copy_lem, map_as_lem, figure_as}

module _ (l : Layout) (sums : 21 ≤ l.pairs) (s : List ℕ) (was : Sound l s) where
  -- the texts fit in a shelf, so that their sum fits in 32 bits
  held_small : held l s ≤ 65536
  unfolding end_of
  held_small = omega (arith, was.room, was.most)

  figure_small : held_figure s ≤ 65536
  figure_small = omega (arith, was.summed sums, held_small)

  -- a new text: "the first" is its figure and the text's bytes, "the second" stays
  pub new_summary : (form : List ℕ) → Free s (lowest_free l s) → end_of l s + length form ≤ length s
      → (held_figure (with_text l s form) ≡ (put_new (summary_of s) (lowest_free l s) (length form)).held)
      × (duplicates_of (with_text l s form) ≡ (put_new (summary_of s) (lowest_free l s) (length form)).duplicates)
  unfolding put_new summary_of
  new_summary form free room =
      let a = with_text_lem l (omega arith) s form free room was.most in
      (a.held sums ∙ mod-eq_of_lt (let h = figure_small in omega (arith, was.most)), a.duplicates sums)

  -- a copy: the map and the text bytes held stay
  pub copy_summary : (map_of (with_copy l s) ≡ (put_copy (summary_of s)).map)
      × (held_figure (with_copy l s) ≡ (put_copy (summary_of s)).held)
      × (duplicates_of (with_copy l s) ≡ (put_copy (summary_of s)).duplicates)
  unfolding put_copy summary_of
  copy_summary =
      let c = with_copy_lem l s in
      (map_as_lem l (omega arith) s (with_copy l s) c, figure_as l (omega arith) s (with_copy l s) c, c.duplicates sums (omega (arith, was.least)))

  -- Remove leaves the duplicates figure
  pub removed_summary : (slot : ℕ) → Occupied s slot
      → (held_figure (without l s slot) ≡ (removed (summary_of s) slot (length_of l s slot)).held)
      × (duplicates_of (without l s slot) ≡ (removed (summary_of s) slot (length_of l s slot)).duplicates)
  unfolding removed summary_of
  removed_summary slot o =
      let r = without_text l (omega arith) s slot was o in
      (r.held sums ∙ mod-eq_of_lt (let h = figure_small in omega arith), r.duplicates sums)
