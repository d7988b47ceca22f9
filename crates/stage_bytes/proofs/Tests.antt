-- The tests as the code makes them, without a branch, and over the bytes from a place on. Assumes nothing.
use Rattle.std.specs.Prelude.{if◌then◌else◌}
use Prim.Native.Nat.{ℕ, ◌+◌, ◌≤◌, ◌<◌}
use mathlib.Core.Path.{◌≡◌, refl, sym, ap, ap₂, ◌∙◌}
use mathlib.Core.Bool.{Bool, true, false, not, ◌&&◌, ◌||◌, and_assoc, and-true, and-false}
use mathlib.Core.List.{List, [], ◌∷◌}
use native.Mathlib.Omega.{arith}
use lib.Dec.{eqb}
use lib.ListN.{length, get_or, drop, drop_of_length-le}
use borrow.Author.Tests.{eqb-true}
use Rattle.lists.proofs.Numbers.{drop_next}
use Rattle.characters.specs.declared.Characters.{Characters}
use Rattle.characters.specs.declared.Role.{Role}
use Rattle.characters.specs.declared.Role.TheVariants.{Separator, Release, Plain}
use Rattle.characters.specs.Characters.{has_release, has_repetition, is_service, is_break, role}
use Rattle.levels.specs.Levels.{in_level}
use Rattle.stage_bytes.specs.Orderly.{is_release, is_terminator, releases, may_break, orderly, service_apart, orderly_after, opening_orderly, all_orderly}

-- ---- one byte

module _ (c : Characters) where
  -- the part of a byte, by the tests for the five characters in their order
  abbrev played : (terminator element repetition component release : Bool) → Role
  played t e p k r =
      if t then Separator 0
      else (if e then Separator 1
      else (if p then Separator 2
      else (if k then Separator 3
      else (if r then Release else Plain))))

  played_release : (t e p k r : Bool) → (r && not (t || (e || (p || k)))) ≡ is_release (played t e p k r)
  played_release true e p k true = refl
  played_release true e p k false = refl
  played_release false true p k true = refl
  played_release false true p k false = refl
  played_release false false true k true = refl
  played_release false false true k false = refl
  played_release false false false true true = refl
  played_release false false false true false = refl
  played_release false false false false true = refl
  played_release false false false false false = refl

  played_terminator : (t e p k r : Bool) → t ≡ is_terminator (played t e p k r)
  played_terminator true e p k r = refl
  played_terminator false true p k r = refl
  played_terminator false false true k r = refl
  played_terminator false false false true r = refl
  played_terminator false false false false true = refl
  played_terminator false false false false false = refl

  -- where the release character is there, it is the repetition separator only if that is there too
  both_there : (t e k : Bool)
      → (has_release c && not (t || (e || (eqb c.release c.repetition || k))))
      ≡ (has_release c && not (t || (e || (has_repetition c && eqb c.release c.repetition || k))))
  unfolding has_release has_repetition
  both_there t e k = step (eqb c.release c.repetition) refl
    where
      step : (q : Bool) → eqb c.release c.repetition ≡ q
          → (not (eqb c.release 32) && not (t || (e || (q || k))))
          ≡ (not (eqb c.release 32) && not (t || (e || (not (eqb c.repetition 32) && q || k))))
      step false d = ap (λ (x : Bool). not (eqb c.release 32) && not (t || (e || (x || k)))) (sym (and-false (not (eqb c.repetition 32))))
      step true d =
          there (not (eqb c.release 32))
          ∙ ap (λ (n : ℕ). not (eqb c.release 32) && not (t || (e || (not (eqb n 32) && true || k)))) (eqb-true c.release c.repetition d)
        where
          there : (r : Bool) → (r && not (t || (e || true))) ≡ (r && not (t || (e || (r && true || k))))
          there true = refl
          there false = refl

  -- the release character, unless there is none or it is one of the separators
  pub releases_tests : (b : ℕ)
      → (eqb b c.release
      && (not (eqb c.release 32)
      && not
      (eqb c.release c.terminator
      || (eqb c.release c.element || (eqb c.release c.repetition || eqb c.release c.component)))))
      ≡ releases c b
  unfolding releases role has_release
  releases_tests b = step (eqb b c.release) refl
    where
      other : (r : Bool) → false ≡ (r && false)
      other true = refl
      other false = refl

      step : (f : Bool) → eqb b c.release ≡ f
          → (f
          && (not (eqb c.release 32)
          && not
          (eqb c.release c.terminator
          || (eqb c.release c.element || (eqb c.release c.repetition || eqb c.release c.component)))))
          ≡ is_release
          (played (eqb b c.terminator) (eqb b c.element) (has_repetition c && eqb b c.repetition) (eqb b c.component) (not (eqb c.release 32) && f))
      step false e =
          ap (λ (x : Bool). x && not
          (eqb b c.terminator
          || (eqb b c.element || (has_repetition c && eqb b c.repetition || eqb b c.component))))
          (other (not (eqb c.release 32)))
          ∙ played_release (eqb b c.terminator) (eqb b c.element) (has_repetition c && eqb b c.repetition) (eqb b c.component)
          (not (eqb c.release 32) && false)
      step true e =
          both_there (eqb c.release c.terminator) (eqb c.release c.element) (eqb c.release c.component)
          ∙ ap (λ (n : ℕ). not (eqb c.release 32) && not
          (eqb n c.terminator || (eqb n c.element || (has_repetition c && eqb n c.repetition || eqb n c.component))))
          (sym (eqb-true b c.release e))
          ∙ ap (λ (x : Bool). x && not
          (eqb b c.terminator
          || (eqb b c.element || (has_repetition c && eqb b c.repetition || eqb b c.component))))
          (sym (and-true (not (eqb c.release 32))))
          ∙ played_release (eqb b c.terminator) (eqb b c.element) (has_repetition c && eqb b c.repetition) (eqb b c.component)
          (not (eqb c.release 32) && true)

  terminator_tests : (b : ℕ) → eqb b c.terminator ≡ is_terminator (role c b)
  unfolding role
  terminator_tests b =
      played_terminator (eqb b c.terminator) (eqb b c.element) (has_repetition c && eqb b c.repetition) (eqb b c.component)
      (has_release c && eqb b c.release)

  module _ (fourth third second before : ℕ) where
    pub may_break_tests : {two three four broken : Bool} → two ≡ releases c second → three ≡ releases c third → four ≡ releases c fourth
        → broken ≡ is_break before
        → (broken || (eqb before c.terminator && (not two || (three && not four)))) ≡ may_break c fourth third second before
    unfolding may_break
    may_break_tests e f g h = cc (terminator_tests before)

    pub orderly_tests : (level b : ℕ) {service released broken may inside again : Bool} → service ≡ is_service c b → released ≡ releases c before
        → broken ≡ is_break b → may ≡ may_break c fourth third second before → inside ≡ in_level level b → again ≡ is_break b
        → ((inside && not again) || ((service && not released) || (broken && may))) ≡ orderly c level fourth third second before b
    unfolding orderly
    orderly_tests level b e f g h k l = cc

  pub apart_tests : {cr lf nil : Bool} → cr ≡ is_service c 13 → lf ≡ is_service c 10 → nil ≡ is_service c 0 → not (cr || (lf || nil)) ≡ service_apart c
  unfolding service_apart
  apart_tests e f g = cc

  pub opening_tests : (level a b d e : ℕ) {first second third fourth : Bool} → first ≡ orderly c level 0 0 0 0 a → second ≡ orderly c level 0 0 0 a b
      → third ≡ orderly c level 0 0 a b d → fourth ≡ orderly c level 0 a b d e
      → ((first && second) && (third && fourth)) ≡ opening_orderly c level a b d e
  unfolding opening_orderly
  opening_tests level a b d e p q r s = cc

-- ---- the bytes from a place on

module _ (c : Characters) (level : ℕ) (s : List ℕ) where
  -- fewer than four are not asked
  pub few_orderly : (start : ℕ) → length (drop start s) < 4 → false ≡ all_orderly c level (drop start s)
  unfolding all_orderly
  few_orderly start = few (drop start s)
    where
      few : (bytes : List ℕ) → length bytes < 4 → false ≡ all_orderly c level bytes
      few [] h = refl
      few (a ∷ []) h = refl
      few (a ∷ b ∷ []) h = refl
      few (a ∷ b ∷ d ∷ []) h = refl
      few (a ∷ b ∷ d ∷ e ∷ bs) h = absurd (omega arith)

  -- what follows the four bytes at a place
  abbrev pub window : ℕ → Bool
  window at = orderly_after c level (get_or s at 0) (get_or s (at + 1) 0) (get_or s (at + 2) 0) (get_or s (at + 3) 0) (drop (at + 4) s)

  -- the first four, and what follows them
  pub first_four : (start : ℕ) → start + 4 ≤ length s → {apart opening : Bool} → apart ≡ service_apart c
      → opening ≡ opening_orderly c level (get_or s start 0) (get_or s (start + 1) 0) (get_or s (start + 2) 0) (get_or s (start + 3) 0)
      → all_orderly c level (drop start s) ≡ ((apart && opening) && window start)
  unfolding all_orderly
  first_four start h e f = ap (all_orderly c level) four ∙ sym (ap₂ (λ (t u : Bool). (t && u) && window start) e f)
    where
      numbers : (start + 1 + 1 ≡ start + 2) × (start + 2 + 1 ≡ start + 3) × (start + 3 + 1 ≡ start + 4)
      numbers = (omega arith, omega arith, omega arith)

      four : drop start s ≡ get_or s start 0 ∷ get_or s (start + 1) 0 ∷ get_or s (start + 2) 0 ∷ get_or s (start + 3) 0 ∷ drop (start + 4) s
      four =
          cc (
            drop_next s start (omega arith),
            drop_next s (start + 1) (omega arith),
            drop_next s (start + 2) (omega arith),
            drop_next s (start + 3) (omega arith),
            numbers.0,
            numbers.1,
            numbers.2,
          )

  -- one byte more
  pub window_next : (at : ℕ) (found : Bool) → at + 4 < length s → {now : Bool}
      → now ≡ orderly c level (get_or s at 0) (get_or s (at + 1) 0) (get_or s (at + 2) 0) (get_or s (at + 3) 0) (get_or s (at + 4) 0)
      → (found && window at) ≡ ((found && now) && window (at + 1))
  unfolding orderly_after
  window_next at found h {now} e =
      ap (λ (l : List ℕ). found && orderly_after c level (get_or s at 0) (get_or s (at + 1) 0) (get_or s (at + 2) 0) (get_or s (at + 3) 0) l) (drop_next s (at + 4) h)
      ∙ ap (λ (t : Bool). found && t) moved
      ∙ sym (and_assoc found now (window (at + 1)))
    where
      numbers : (at + 1 + 1 ≡ at + 2) × (at + 1 + 2 ≡ at + 3) × (at + 1 + 3 ≡ at + 4) × (at + 1 + 4 ≡ at + 4 + 1)
      numbers = (omega arith, omega arith, omega arith, omega arith)

      moved : (orderly c level (get_or s at 0) (get_or s (at + 1) 0) (get_or s (at + 2) 0) (get_or s (at + 3) 0) (get_or s (at + 4) 0)
          && orderly_after c level (get_or s (at + 1) 0) (get_or s (at + 2) 0) (get_or s (at + 3) 0) (get_or s (at + 4) 0) (drop (at + 4 + 1) s))
          ≡ (now && window (at + 1))
      moved = cc (numbers.0, numbers.1, numbers.2, numbers.3)

  -- nothing follows
  pub window_end : (at : ℕ) (found : Bool) → length s ≤ at + 4 → (found && window at) ≡ found
  unfolding orderly_after
  window_end at found h =
      ap (λ (l : List ℕ). found && orderly_after c level (get_or s at 0) (get_or s (at + 1) 0) (get_or s (at + 2) 0) (get_or s (at + 3) 0) l) (drop_of_length-le s h)
      ∙ and-true found
