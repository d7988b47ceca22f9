-- Records that begin a segment or an element drop what may differ; and how much of what one record after another holds back.
-- Assumes nothing.
use Rattle.std.specs.Prelude.{if◌then◌else◌}
use Prim.Native.Nat.{ℕ, ◌+◌, ◌≤◌}
use mathlib.Core.Path.{◌≡◌, refl, sym, ap, ap₂, ◌∙◌}
use mathlib.Core.Bool.{Bool}
use mathlib.Core.List.{List, [], ◌∷◌, ◌++◌}
use native.Mathlib.Omega.{arith}
use lib.Dec.{leb}
use lib.ListN.{length}
use borrow.Author.Tests.{le-leb}
use Rattle.lists.specs.Lists.{gather}
use Rattle.characters.specs.declared.Characters.{Characters}
use Rattle.values.specs.Tokens.{Token, separator}
use Rattle.emission_laws.specs.declared.Held.{Held}
use Rattle.emission_laws.specs.declared.Measure.{Measure}
use Rattle.emission_laws.specs.Emission.{nothing, waiting, separated, held_next, held_after, spelled_next, emitted, after}
use Rattle.emission_laws.proofs.Steps.{after_append}
use Rattle.held_separators.specs.Putting.{value_tokens}
use Rattle.operations.specs.ValueList.{Item, rank_of}
use Rattle.value_list_text.specs.Composing.{record_tokens}
use Rattle.value_list_text.proofs.Composed.{record_holds}
use Rattle.value_list_text.specs.Advancing.{records_tokens, Alike}

-- a segment or an element begins: what is held back after its separator
lead_is : (rank : ℕ) → rank ≤ 1 → (h : Held)
    → separated h rank ≡ (if leb rank 0 then nothing else record { elements = h.elements + 1; repeats = 0; components = 0 })
unfolding separated
lead_is rank l h =
    ap (λ (b : Bool).
    if leb rank 0 then nothing else (if b then record { elements = h.elements + 1; repeats = 0; components = 0 }
    else (if leb rank 2 then record { elements = h.elements; repeats = h.repeats + 1; components = 0 }
    else record { elements = h.elements; repeats = h.repeats; components = h.components + 1 })))
    (le-leb rank 1 l)

lead_held : (rank : ℕ) → rank ≤ 1 → (k n : Held) → k.elements ≡ n.elements → separated k rank ≡ separated n rank
lead_held rank l k n e =
    lead_is rank l k
    ∙ ap (λ (x : ℕ). if leb rank 0 then nothing else record { elements = x + 1; repeats = 0; components = 0 }) e
    ∙ sym (lead_is rank l n)

module _ (c : Characters) (l : Item) (ls : List Item) (low : rank_of l.kind ≤ 1) (k n : Held) (e : k.elements ≡ n.elements) where
  abbrev following : List Token
  following = value_tokens l.value ++ records_tokens ls

  -- what such records spell does not depend on what may differ, nor what they leave held back
  pub lead_emitted : emitted c k (records_tokens (l ∷ ls)) ≡ emitted c n (records_tokens (l ∷ ls))
  unfolding emitted spelled_next held_next gather
  lead_emitted =
      ap (λ (h : Held). (if leb (rank_of l.kind) 0 then c.terminator ∷ [] else []) ++ emitted c h following) (lead_held (rank_of l.kind) low k n e)

  lead_left : held_after k (records_tokens (l ∷ ls)) ≡ held_after n (records_tokens (l ∷ ls))
  unfolding held_after held_next gather
  lead_left = ap (λ (h : Held). held_after h following) (lead_held (rank_of l.kind) low k n e)

pub lead_alike : (c : Characters) (l : Item) (ls : List Item) → rank_of l.kind ≤ 1 → (m n : Measure) → Alike m n
    → Alike (after c m (records_tokens (l ∷ ls))) (after c n (records_tokens (l ∷ ls)))
unfolding after
lead_alike c l ls low m n a =
    record {
      total = ap₂ (λ (x y : ℕ). x + y) a.total (ap length (lead_emitted c l ls low m.held n.held a.elements));
      elements = ap (λ (h : Held). h.elements) (lead_left c l ls low m.held n.held a.elements);
    }

-- a terminator at the end
pub end_alike : (c : Characters) (m n : Measure) → Alike m n → after c m (separator 0 0 ∷ []) ≡ after c n (separator 0 0 ∷ [])
unfolding after emitted spelled_next held_after held_next separated
end_alike c m n a = ap (λ (x : ℕ). record { total = x + 1; held = nothing }) a.total

-- each record leaves one separator more held back, at most
pub records_few : (c : Characters) (m : Measure) (items : List Item) → waiting (after c m (records_tokens items)).held ≤ waiting m.held + length items
unfolding gather after held_after
records_few c m [] = omega arith
records_few c m (l ∷ ls) =
    let n : Measure = after c m (record_tokens l) in
    omega (
      arith,
      ap (λ (k : Measure). waiting k.held) (after_append c m (record_tokens l) (records_tokens ls)),
      records_few c n ls,
      record_holds c m l refl,
    )

pub alike_same : {m n : Measure} → m ≡ n → Alike m n
alike_same e = record { total = ap (λ (m : Measure). m.total) e; elements = ap (λ (m : Measure). m.held.elements) e }

pub alike_trans : {m n k : Measure} → Alike m n → Alike n k → Alike m k
alike_trans a b = record { total = a.total ∙ b.total; elements = a.elements ∙ b.elements }
