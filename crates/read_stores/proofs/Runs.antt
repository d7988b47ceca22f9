-- A value's bytes that are plain, after its first: they are put as they stand, and no record is. Assumes nothing.
use Prim.Native.Nat.{ℕ, ◌+◌, ◌-◌, ◌*◌, ◌≤◌, ◌<◌}
use mathlib.Core.Path.{◌≡◌, refl, sym, ap, subst, ◌∙◌}
use mathlib.Core.List.{List, [], ◌∷◌}
use native.Mathlib.Omega.{arith}
use lib.ListN.{length, take, drop}
use Rattle.characters.specs.declared.Characters.{Characters}
use Rattle.values.specs.Tokens.{Token, byte, tokens_at}
use Rattle.emission_laws.specs.Emission.{nothing}
use Rattle.storing.specs.Sinks.{SinkLaws}
use Rattle.storing.proofs.Putting.{room_left}
use Rattle.plain_runs.specs.Runs.{PlainRun}
use Rattle.plain_runs.proofs.Runs.{by_bytes, none_put, run_put}
use Rattle.read_counts.specs.declared.Listing.{Listing}
use Rattle.read_counts.specs.Tally.{end, longer, after_byte, byte_numbers}
use Rattle.read_counts.proofs.Records.{no_held}
use Rattle.read_counts.proofs.Runs.{none_waits, longer_none, longer_byte}
use Rattle.read_stores.proofs.Storing.{Listed, listed_byte}

module _ {holds : List ℕ → ℕ → List ℕ → List ℕ} {room : List ℕ → ℕ} (laws : SinkLaws holds room) (c : Characters) (s : List ℕ) {b₀ b₁ b₂ t₀ t₁ t₂ : List ℕ}
    {whole : List Token} (l : Listing) {ts : List Token} {left most b from place next to : ℕ} (g : Listed holds room b₀ b₁ t₀ t₁ whole l ts left most)
    (e : ts ≡ byte b from place ∷ tokens_at c s next) (less : length s - next < left) (p : b₂ ≡ holds b₁ (end l) (b ∷ []))
    (q : t₂ ≡ holds t₁ (l.records * 3) (byte_numbers l)) {m : Listing} (d : m ≡ after_byte l) (run : PlainRun c s next to) where
  pub listed_run : Listed holds room b₀ (holds b₂ (end m) (take (to - next) (drop next s))) t₀ t₂ whole (longer (to - next) m) (tokens_at c s to) (length s - to) most
  listed_run =
      by_bytes c s (λ k. Listed holds room b₀ (put k) t₀ t₂ whole (longer (k - next) m) (tokens_at c s k) (length s - k) most) run
      (λ k low high there is w. listed_byte laws (longer (k - next) m) w is (run_put laws s low there b₂ (end m) (end_longer (k - next)))
      (no_record (k - next)) (longer_byte m none_held (k - next) (omega arith)) (omega arith))
      (subst (λ (x : Listing). Listed holds room b₀ (put next) t₀ t₂ whole x (tokens_at c s next) (length s - next) most) (longer_none m none_held (next - next) (omega arith))
      (subst (λ (bs : List ℕ). Listed holds room b₀ bs t₀ t₂ whole m (tokens_at c s next) (length s - next) most) (none_put laws s next (end m) b₂)
      (listed_byte laws l g e p q d less)))
    where
      put : ℕ → List ℕ
      put k = holds b₂ (end m) (take (k - next) (drop next s))

      none_held : m.held ≡ nothing
      none_held = ap (λ (x : Listing). x.held) d

      end_longer : (n : ℕ) → end (longer n m) ≡ end m + n
      end_longer n = omega arith

      no_record : (n : ℕ) → t₂ ≡ holds t₂ (m.records * 3) (byte_numbers (longer n m))
      no_record n = sym (laws.none t₂ (m.records * 3)) ∙ ap (holds t₂ (m.records * 3)) (sym (no_held (longer n m) (none_waits m none_held)))

  pub run_fits : end m + (to - next) ≤ room b₂
  run_fits = omega (arith, listed_run.bytes.fits, room_left laws b₂ (end m) (take (to - next) (drop next s)) refl)

  -- as it is put and told
  pub run_told : {b₃ : List ℕ} {n : Listing} → b₃ ≡ holds b₂ (end m) (take (to - next) (drop next s)) → n ≡ longer (to - next) m
      → Listed holds room b₀ b₃ t₀ t₂ whole n (tokens_at c s to) (length s - to) most
  run_told {b₃} {n} h f =
      subst (λ (x : Listing). Listed holds room b₀ b₃ t₀ t₂ whole x (tokens_at c s to) (length s - to) most) (sym f)
      (subst (λ (bs : List ℕ). Listed holds room b₀ bs t₀ t₂ whole (longer (to - next) m) (tokens_at c s to) (length s - to) most) (sym h) listed_run)
