-- What holds of a part holds of the case that a match shows; and which of a part's records cannot stand. Assumes nothing.
use Prim.Native.Nat.{ℕ, ◌+◌, ◌≤◌, ◌<◌}
use mathlib.Core.Path.{◌≡◌, sym, ap, subst, ◌∙◌}
use mathlib.Core.List.{List}
use native.Mathlib.Omega.{arith}
use lib.ListN.{length, get_or}
use Rattle.characters.specs.declared.Characters.{Characters}
use Rattle.refusals.specs.Refusals.{outcome, Outcome}
use Rattle.emission_laws.specs.declared.Measure.{Measure}
use Rattle.operations.specs.ValueList.{Item}
use Rattle.value_list_text.specs.Advancing.{records_tokens}
use Rattle.refusals.specs.Limits.{most_bytes}
use Rattle.acknowledgements.specs.Lent.{Lent}
use Rattle.lent_elements.specs.Leading.{Reaches, Advances}
use Rattle.acknowledgement_parts.specs.declared.Part.{Part}
use Rattle.acknowledgement_parts.specs.declared.Part.TheVariants.{Date}
use Rattle.acknowledgement_parts.specs.declared.Received.{Received}
use Rattle.acknowledgement_parts.specs.Parts.{parts_of, part_items, Fine, first_bare, Stands}

-- ---- the part of a number

pub chosen : (r : Received) {n : ℕ} (k : ℕ) → n ≡ k → get_or (parts_of r) k Date ≡ get_or (parts_of r) n Date
chosen r k e = ap (λ (n : ℕ). get_or (parts_of r) n Date) (sym e)

-- the last one
pub last : (n : ℕ) → 19 ≤ n → n < 20 → n ≡ 19
last n h k = omega (arith, h, k)

-- ---- the case that a match shows

module _ (s : List ℕ) (d : Characters) (l : Lent) {p q : Part} (e : p ≡ q) where
  pub items_as : part_items s d l p ≡ part_items s d l q
  items_as = ap (part_items s d l) e

  pub fine_as : Fine s d l p → Fine s d l q
  fine_as h = subst (Fine s d l) e h

  pub stands_as : (c : Characters) → Stands c s d p → Stands c s d q
  stands_as c h = subst (Stands c s d) e h

  pub few_as : (n : ℕ) → n + length (part_items s d l p) ≤ most_bytes → n + length (part_items s d l q) ≤ most_bytes
  few_as n h = subst (λ (items : List Item). n + length items ≤ most_bytes) items_as h

  pub reaches_as : (room : List ℕ → ℕ) (c : Characters) (m : Measure) (buffer : List ℕ) → Reaches room c buffer m (records_tokens (part_items s d l p))
      → Reaches room c buffer m (records_tokens (part_items s d l q))
  reaches_as room c m buffer f = subst (λ (items : List Item). Reaches room c buffer m (records_tokens items)) items_as f

  pub advances_as : {holds : List ℕ → ℕ → List ℕ → List ℕ} (c : Characters) (m : Measure) {buffer put : List ℕ} {r : Measure}
      → Advances holds c buffer m (part_items s d l q) put r → Advances holds c buffer m (part_items s d l p) put r
  advances_as {holds} c m {buffer} {put} {r} a = subst (λ (items : List Item). Advances holds c buffer m items put r) (sym items_as) a

  pub bare_as : (c : Characters) {o : Outcome} → o ≡ outcome (first_bare c 0 (part_items s d l q)) → o ≡ outcome (first_bare c 0 (part_items s d l p))
  bare_as c h = h ∙ ap (λ (items : List Item). outcome (first_bare c 0 items)) (sym items_as)
