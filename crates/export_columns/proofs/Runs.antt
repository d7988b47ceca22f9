-- A value's bytes that are plain, after its first: they are put as they stand. Assumes nothing.
use Prim.Native.Nat.{ℕ, ◌+◌, ◌-◌, ◌≤◌, ◌<◌}
use mathlib.Core.Path.{◌≡◌, refl, sym, ap, ap₂, subst, ◌∙◌}
use mathlib.Core.Bool.{Bool, true}
use mathlib.Core.List.{List, [], ◌∷◌, ◌++◌}
use native.Mathlib.Omega.{arith}
use lib.ListN.{length, get_or, take, drop}
use Rattle.characters.specs.declared.Characters.{Characters}
use Rattle.values.specs.Tokens.{Token, byte, tokens_at}
use Rattle.values.specs.Spelling.{Bytes}
use Rattle.emission_laws.specs.declared.Held.{Held}
use Rattle.emission_laws.specs.Emission.{nothing, waiting}
use Rattle.storing.specs.Sinks.{SinkLaws}
use Rattle.storing.proofs.Putting.{room_left}
use Rattle.plain_runs.specs.Runs.{PlainRun}
use Rattle.plain_runs.proofs.Runs.{by_bytes, none_put, run_put}
use Rattle.export_columns.specs.declared.Line.{Line}
use Rattle.export_columns.specs.Printing.{numbers_due, past_held, grown, longer, after_byte, byte_text}
use Rattle.export_columns.proofs.Lines.{due_none, held_none, held_nothing}
use Rattle.export_columns.proofs.Steps.{Put, byte_put}

-- ---- a byte more

-- the value has a byte, after which nothing is held back
module _ (l : Line) (b : l.begun ≡ true) (h : l.held ≡ nothing) where
  none_waits : waiting l.held ≡ 0
  none_waits = ap waiting h

  longer_none : (n : ℕ) → n ≡ 0 → l ≡ longer n l
  longer_none n e = ap (λ (end : ℕ). record { end = end; position = l.position; begun = l.begun; held = l.held }) (omega arith)

  longer_byte : (n : ℕ) {more : ℕ} → more ≡ n + 1 → longer more l ≡ after_byte (longer n l)
  longer_byte n {more} e =
      ap₂ (λ (begun : Bool) (held : Held). record { end = l.end + more; position = l.position; begun = begun; held = held }) b h
      ∙ ap (λ (end : ℕ). record { end = end; position = l.position; begun = true; held = nothing })
      (omega (arith, ap length (due_none (longer n l) b)))
      ∙ ap (λ (x : Line). grown x) (held_none (longer n l) none_waits)

  one_text : (n x : ℕ) → x ∷ [] ≡ byte_text x (longer n l)
  unfolding byte_text
  one_text n x =
      let m : Line = longer n l in
      sym
      (ap (λ (text : Bytes). text ++ (numbers_due (past_held m) ++ x ∷ [])) (held_nothing m none_waits)
      ∙ ap (λ (o : Line). numbers_due o ++ x ∷ []) (sym (held_none m none_waits))
      ∙ ap (λ (text : Bytes). text ++ x ∷ []) (due_none m b))

-- ---- a run of them, after the first

module _ {holds : List ℕ → ℕ → List ℕ → List ℕ} {room : List ℕ → ℕ} (laws : SinkLaws holds room) (c : Characters) (s : List ℕ) {b₀ b₁ b₂ : List ℕ} {whole : List Token}
    (l : Line) {ts : List Token} {left b from place next to : ℕ} (g : Put holds room b₀ b₁ whole l ts left) (e : ts ≡ byte b from place ∷ tokens_at c s next)
    (less : length s - next < left) (p : b₂ ≡ holds b₁ l.end (byte_text b l)) {m : Line} (d : m ≡ after_byte l) (run : PlainRun c s next to) where
  pub put_run : Put holds room b₀ (holds b₂ m.end (take (to - next) (drop next s))) whole (longer (to - next) m) (tokens_at c s to) (length s - to)
  put_run =
      by_bytes c s (λ k. Put holds room b₀ (put k) whole (longer (k - next) m) (tokens_at c s k) (length s - k)) run
      (λ k low high there is w. byte_put laws (longer (k - next) m) w is
      (run_put laws s low there b₂ m.end refl ∙ ap (holds (put k) (m.end + (k - next))) (one_text m begun none_held (k - next) (get_or s k 0)))
      (longer_byte m begun none_held (k - next) (omega arith)) (omega arith))
      (subst (λ (x : Line). Put holds room b₀ (put next) whole x (tokens_at c s next) (length s - next)) (longer_none m begun none_held (next - next) (omega arith))
      (subst (λ (bs : List ℕ). Put holds room b₀ bs whole m (tokens_at c s next) (length s - next)) (none_put laws s next m.end b₂) (byte_put laws l g e p d less)))
    where
      put : ℕ → List ℕ
      put k = holds b₂ m.end (take (k - next) (drop next s))

      begun : m.begun ≡ true
      begun = ap (λ (x : Line). x.begun) d

      none_held : m.held ≡ nothing
      none_held = ap (λ (x : Line). x.held) d

  pub run_fits : m.end + (to - next) ≤ room b₂
  run_fits = omega (arith, put_run.goes.fits, room_left laws b₂ m.end (take (to - next) (drop next s)) refl)

  -- as it is put and told
  pub run_told : {b₃ : List ℕ} {n : Line} → b₃ ≡ holds b₂ m.end (take (to - next) (drop next s)) → n ≡ longer (to - next) m
      → Put holds room b₀ b₃ whole n (tokens_at c s to) (length s - to)
  run_told {b₃} {n} q f =
      subst (λ (x : Line). Put holds room b₀ b₃ whole x (tokens_at c s to) (length s - to)) (sym f)
      (subst (λ (bs : List ℕ). Put holds room b₀ bs whole (longer (to - next) m) (tokens_at c s to) (length s - to)) (sym q) put_run)
