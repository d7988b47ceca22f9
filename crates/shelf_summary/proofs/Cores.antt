-- What the core makes of a summary, field by field, and which fields stay. Assumes nothing.
use Prim.Native.Nat.{ℕ, ◌+◌, ◌-◌, ◌^◌, ◌<◌, min}
use mathlib.Core.Path.{◌≡◌, refl, ap, sym, subst, ◌∙◌}
use Rattle.refusals.specs.declared.Refusal.{Refusal}
use Rattle.answers.specs.Answers.{Stored}
use Rattle.std.specs.Prelude.{Ok, Err, Result}
use mathlib.Core.Bool.{true, false}
use native.Mathlib.Omega.{arith}
use Rattle.shelves.specs.declared.Summary.{Summary}
use Rattle.shelves.specs.Summary.{put_new, put_copy, removed}
use Rattle.shelf_summary.specs.declared.Placed.{Placed}
use Rattle.shelf_summary.specs.declared.Placed.TheVariants as placed
use Rattle.shelf_summary.specs.Steps.{after_put, PutStays, after_remove}

module _ (u : Summary) where
  -- a new text, from its map
  pub new_is : (slot size : ℕ) {m : ℕ} → m ≡ u.map + 2 ^ slot
      → ◌≡◌ {A = Summary} (record { map = m; held = u.held + size; duplicates = u.duplicates }) (put_new u slot size)
  unfolding put_new
  new_is slot size e = ap (λ (m : ℕ). record { map = m; held = u.held + size; duplicates = u.duplicates }) e

  -- a text taken out, from its map
  pub removed_is : (slot size : ℕ) {m : ℕ} → m ≡ u.map - 2 ^ slot
      → ◌≡◌ {A = Summary} (record { map = m; held = u.held - size; duplicates = u.duplicates }) (removed u slot size)
  unfolding removed
  removed_is slot size e = ap (λ (m : ℕ). record { map = m; held = u.held - size; duplicates = u.duplicates }) e

  abbrev pub counted : ℕ → Summary
  counted n = record { map = u.map; held = u.held; duplicates = n }

-- "alters only the fields that its own work concerns"
pub put_stays : (u : Summary) (p : Result Placed Refusal) → PutStays p u (after_put u p)
unfolding PutStays after_put put_new put_copy
put_stays u (Ok (placed.New slot size)) = refl
put_stays u (Ok (placed.Copy slot)) = (refl, refl)
put_stays u (Err r) = refl

pub remove_stays : (u : Summary) (slot : ℕ) (r : Stored) → (after_remove u slot r).duplicates ≡ u.duplicates
unfolding after_remove removed
remove_stays u slot (Ok size) = refl
remove_stays u slot (Err r) = refl
