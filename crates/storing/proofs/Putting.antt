-- One text put after the other, into any sink. Assumes nothing.
use Rattle.std.specs.Prelude.{if◌then◌else◌}
use Prim.Native.Nat.{ℕ, ◌+◌, ◌≤◌}
use native.Mathlib.Nat.{add-zero}
use native.Mathlib.Omega.{arith}
use mathlib.Core.Path.{◌≡◌, refl, sym, ap, ap₂, ◌∙◌}
use mathlib.Core.Bool.{Bool, true, false}
use mathlib.Core.List.{List, [], ◌∷◌, ◌++◌}
use lib.ListN.{length, length-append}
use mir.Val.{bool_byte}
use Rattle.characters.specs.declared.Characters.{Characters}
use Rattle.characters.specs.Characters.{is_service}
use Rattle.values.specs.Spelling.{spell_byte}
use Rattle.storing.specs.Sinks.{SinkLaws}

module _ {holds : List ℕ → ℕ → List ℕ → List ℕ} {room : List ℕ → ℕ} (laws : SinkLaws holds room) where
  -- a text put after another one
  pub put_after : (l₀ : List ℕ) {l₁ l₂ : List ℕ} (at : ℕ) {next : ℕ} (front text : List ℕ) → l₁ ≡ holds l₀ at front → next ≡ at + length front
      → l₂ ≡ holds l₁ next text → l₂ ≡ holds l₀ at (front ++ text)
  put_after l₀ at front text p n q =
      q ∙ ap₂ (λ (l : List ℕ) (i : ℕ). holds l i text) p n ∙ laws.joined l₀ at front text

  -- a text put changes no room
  pub room_left : (l₀ : List ℕ) {l₁ : List ℕ} (at : ℕ) (text : List ℕ) → l₁ ≡ holds l₀ at text → room l₁ ≡ room l₀
  room_left l₀ at text e = ap room e ∙ laws.same_room l₀ at text

  -- a service character is put after its release character, and another byte in its place
  pub byte_put : (c : Characters) (b : ℕ) {service : Bool} → service ≡ is_service c b → (l₀ : List ℕ) {l₁ l₂ : List ℕ} (at : ℕ)
      → l₁ ≡ holds l₀ at (c.release ∷ []) → l₂ ≡ holds l₁ (at + bool_byte service) (b ∷ []) → l₂ ≡ holds l₀ at (spell_byte c b)
  unfolding spell_byte
  byte_put c b {service} e l₀ at p q =
      q ∙ ap (λ (l : List ℕ). holds l (at + bool_byte service) (b ∷ [])) p ∙ step service
      ∙ ap (λ (t : Bool). holds l₀ at (if t then c.release ∷ b ∷ [] else b ∷ [])) e
    where
      step : (t : Bool) → holds (holds l₀ at (c.release ∷ [])) (at + bool_byte t) (b ∷ []) ≡ holds l₀ at (if t then c.release ∷ b ∷ [] else b ∷ [])
      step true = laws.joined l₀ at (c.release ∷ []) (b ∷ [])
      step false = ap (λ (k : ℕ). holds (holds l₀ at (c.release ∷ [])) k (b ∷ [])) (add-zero at) ∙ laws.over l₀ at c.release b

-- a whole text goes on after its front, which is put
pub record Going (holds : List ℕ → ℕ → List ℕ → List ℕ) (room : List ℕ → ℕ) (l₀ l₁ : List ℕ) (from to : ℕ) (whole rest : List ℕ) : Type 0 where
  pub put : holds l₀ from whole ≡ holds l₁ to rest
  pub fits : to + length rest ≤ room l₁
  pub same_room : room l₁ ≡ room l₀

module _ {holds : List ℕ → ℕ → List ℕ → List ℕ} {room : List ℕ → ℕ} (laws : SinkLaws holds room) {l₀ l₁ : List ℕ} {from to : ℕ} {whole rest : List ℕ}
    (g : Going holds room l₀ l₁ from to whole rest) where
  -- a front of what is left fits
  pub front_goes : (front left : List ℕ) → rest ≡ front ++ left → to + length front ≤ room l₁
  front_goes front left w = omega (arith, g.fits, ap length w, length-append front left)

  -- it is put: the rest of it is left
  pub going_step : {l₂ : List ℕ} {next : ℕ} (front left : List ℕ) → rest ≡ front ++ left → l₂ ≡ holds l₁ to front → next ≡ to + length front
      → Going holds room l₀ l₂ from next whole left
  going_step front left w e t =
      let same = room_left laws l₁ to front e in
      record {
        put = g.put ∙ ap (holds l₁ to) w ∙ sym (put_after laws l₁ to front left e t refl);
        fits = omega (arith, g.fits, same, t, ap length w, length-append front left);
        same_room = same ∙ g.same_room;
      }

  -- nothing is left: all is put
  pub going_done : rest ≡ [] → l₁ ≡ holds l₀ from whole
  going_done e = sym (g.put ∙ ap (holds l₁ to) e ∙ laws.none l₁ to)
