-- A text put record by record into any sink, as far as it is not over 32,000 bytes. Assumes nothing.
use Rattle.std.specs.Prelude.{None}
use Prim.Native.Nat.{ℕ, ◌≤◌, ◌<◌}
use mathlib.Core.Path.{◌≡◌, refl, sym, ap, subst, ◌∙◌}
use mathlib.Core.List.{List, [], ◌∷◌, ◌++◌}
use native.Mathlib.Omega.{arith}
use lib.ListN.{length}
use Rattle.characters.specs.declared.Characters.{Characters}
use Rattle.values.specs.Tokens.{Token, separator}
use Rattle.storing.specs.Sinks.{SinkLaws}
use Rattle.storing.proofs.Putting.{put_after, room_left}
use Rattle.emission_laws.specs.declared.Measure.{Measure}
use Rattle.emission_laws.specs.Emission.{nothing, emitted, after}
use Rattle.emission_laws.proofs.Steps.{emitted_append}
use Rattle.held_separators.specs.Putting.{Fits, Puts}
use Rattle.operations.specs.ValueList.{Item}
use Rattle.refusals.specs.Limits.{most_bytes}
use Rattle.value_list_text.specs.Composing.{record_tokens, list_tokens, first_measure, composed_text, short_length, HasRoom, Composes}
use Rattle.value_list_text.proofs.Composed.{ended_total}
use Rattle.value_list_text.proofs.Rows.{row_next, row_end, Gone, gone_most, gone_next, gone_end}
use Rattle.value_list_text.proofs.Lengths.{short_over}

-- What is left of the records, put from here, gives what all of them, put at the start, give; the text is not over 32,000 bytes yet.
pub record Underway (holds : List ℕ → ℕ → List ℕ → List ℕ) (room : List ℕ → ℕ) (c : Characters) (whole : List Item) (l₀ l₁ : List ℕ) (m : Measure) (left : List Item)
    : Type 0 where
  pub put : holds l₀ 8 (emitted c nothing (list_tokens whole)) ≡ holds l₁ m.total (emitted c m.held (list_tokens left))
  pub same_room : room l₁ ≡ room l₀
  pub short : m.total ≤ most_bytes

-- a text that is too long is given up
pub given_up : {holds : List ℕ → ℕ → List ℕ → List ℕ} (c : Characters) (whole : List Item) {l₀ put : List ℕ} → most_bytes < length (composed_text c whole)
    → Composes holds c whole l₀ put None
given_up c whole h = record { measured = short_over (length (composed_text c whole)) h; whole = λ s. absurd (omega arith) }

module _ {holds : List ℕ → ℕ → List ℕ → List ℕ} {room : List ℕ → ℕ} (laws : SinkLaws holds room) (c : Characters) (whole : List Item) where
  pub underway_start : (l₀ : List ℕ) {m : Measure} → m ≡ first_measure → Underway holds room c whole l₀ l₀ m whole
  underway_start l₀ e = subst (λ (m : Measure). Underway holds room c whole l₀ l₀ m whole) (sym e) (record { put = refl; same_room = refl; short = omega arith })

  module _ {l₀ l₁ : List ℕ} (m : Measure) {left : List Item} (g : Gone c whole m left) (u : Underway holds room c whole l₀ l₁ m left) where
    -- the next tokens, and what they leave
    passed : (us rest : List Token) → list_tokens left ≡ us ++ rest → {l₂ : List ℕ} {n : Measure} → Puts holds c l₁ m us l₂ n
        → holds l₀ 8 (emitted c nothing (list_tokens whole)) ≡ holds l₂ n.total (emitted c n.held rest)
    unfolding after
    passed us rest d {l₂} {n} (s, e) =
        u.put
        ∙ ap (holds l₁ m.total)
        (ap (emitted c m.held) d ∙ emitted_append c m.held us rest ∙ ap (λ (k : Measure). emitted c m.held us ++ emitted c k.held rest) (sym e))
        ∙ sym (put_after laws l₁ m.total (emitted c m.held us) (emitted c n.held rest) s (ap (λ (k : Measure). k.total) e) refl)

    module _ (l : Item) (ls : List Item) (d : left ≡ l ∷ ls) where
      -- there is room for the next record, wherever a place after it can be counted
      pub next_fits : HasRoom room (composed_text c whole) l₀ → (after c m (record_tokens l)).total ≤ 18446744073709551615 → Fits room c l₁ m (record_tokens l)
      unfolding after
      next_fits r h = omega (arith, r, u.same_room, gone_most c whole (after c m (record_tokens l)) (gone_next c whole m g l ls d refl))

      pub underway_next : {l₂ : List ℕ} {n : Measure} → Puts holds c l₁ m (record_tokens l) l₂ n → n.total ≤ most_bytes → Underway holds room c whole l₀ l₂ n ls
      underway_next p h = record {
        put = passed (record_tokens l) (list_tokens ls) (row_next l ls d) p;
        same_room = room_left laws l₁ m.total (emitted c m.held (record_tokens l)) p.0 ∙ u.same_room;
        short = h;
      }

      -- what is put is too long, and so is the text
      pub too_long : {put : List ℕ} {n : Measure} → n ≡ after c m (record_tokens l) → most_bytes < n.total → Composes holds c whole l₀ put None
      too_long {n = n} e h = given_up c whole (omega (arith, gone_most c whole n (gone_next c whole m g l ls d e), h))

    -- the last segment is ended
    module _ (d : left ≡ []) where
      pub end_fits : HasRoom room (composed_text c whole) l₀ → Fits room c l₁ m (separator 0 0 ∷ [])
      unfolding after
      end_fits r = let ended = gone_end c whole m g {n = after c m (separator 0 0 ∷ [])} d refl in omega (arith, r, u.same_room, u.short, ended, ended_total c m {n = after c m (separator 0 0 ∷ [])} refl)

      pub underway_end : {l₂ : List ℕ} {n : Measure} → Puts holds c l₁ m (separator 0 0 ∷ []) l₂ n → Composes holds c whole l₀ l₂ (short_length n.total)
      unfolding emitted
      underway_end {l₂} {n} p =
          record {
            measured = ap short_length (gone_end c whole m g d p.1);
            whole = λ s. sym (passed (separator 0 0 ∷ []) [] (row_end d) p ∙ laws.none l₂ n.total);
          }
