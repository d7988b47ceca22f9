-- A test of all bytes from a place on, one byte at a time. Assumes nothing.
use Rattle.std.proofs.Common.{◌≡◌, ℕ, ◌+◌, ◌<◌, ◌≤◌, Bool, true, false, ◌&&◌, List, length, get_or, drop, refl, ap, ◌∙◌, drop_of_length-le}
use Rattle.lists.specs.Lists.{all}
use Rattle.lists.proofs.Numbers.{drop_next}

module _ (t : ℕ → Bool) (s : List ℕ) (at : ℕ) where
  all_next : {b : Bool} → at < length s → t (get_or s at 0) ≡ b → all t (drop at s) ≡ (b && all t (drop (at + 1) s))
  unfolding all
  all_next h e = ap (all t) (drop_next s at h) ∙ ap (λ (b : Bool). b && all t (drop (at + 1) s)) e

  -- what was gathered, and this byte's answer, and the rest
  pub gathered_next : (inside : Bool) {b : Bool} → at < length s → t (get_or s at 0) ≡ b
      → (inside && all t (drop at s)) ≡ ((inside && b) && all t (drop (at + 1) s))
  gathered_next true h e = all_next h e
  gathered_next false h e = refl

  pub gathered_end : (inside : Bool) → length s ≤ at → (inside && all t (drop at s)) ≡ inside
  unfolding all
  gathered_end true h = ap (all t) (drop_of_length-le s h)
  gathered_end false h = refl
