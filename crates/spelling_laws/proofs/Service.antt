-- What usable service characters are to one another, and which byte plays which part. Assumes nothing.
use Rattle.std.specs.Prelude.{if◌then◌else◌}
use Prim.Native.Nat.{ℕ, zero, suc, ◌-◌, ◌≤◌}
use mathlib.Core.Path.{◌≡◌, refl, sym, ap, ◌∙◌}
use mathlib.Core.Bool.{Bool, true, false, not, ◌&&◌, ◌||◌, false≢true, or-false}
use mathlib.Core.List.{[], ◌∷◌, ◌++◌}
use mathlib.Core.Logic.{⊎_elim}
use lib.Dec.{eqb, leb}
use native.Mathlib.Omega.{arith}
use borrow.Author.Tests.{eqb-true, leb-true}
use Rattle.lists.specs.Lists.{text, member, all_differ, all}
use Rattle.lists.proofs.Tests.{says_eq, says_not, says_all, says_member, fails}
use Rattle.lists.proofs.Texts.{and_left, and_right}
use Rattle.characters.specs.declared.Characters.{Characters}
use Rattle.characters.specs.declared.Role.{Role}
use Rattle.characters.specs.declared.Role.TheVariants.{Separator, Release, Plain}
use Rattle.characters.specs.Characters.{between, separates as parts, has_release, has_repetition, service_characters, is_service, usable, is_break, role}
use Rattle.characters.proofs.Words.{Usable, usable_says, terminator_role, element_role, repetition_role, component_role, release_role, break_says}
use Rattle.values.specs.Spelling.{separator_of}

-- a byte that plays this part is a service character
abbrev pub serves : Role → Bool
serves (Separator rank) = true
serves Release = true
serves Plain = false

-- there is a separator of this rank: one of four, of which the repetition separator may be missing
unfoldable pub separable : Characters → ℕ → Bool
separable c rank = leb rank 3 && (not (eqb rank 2) || has_repetition c)

pub separable_low : (c : Characters) (rank : ℕ) → separable c rank ≡ true → rank ≤ 3
unfolding separable
separable_low c rank h = leb-true rank 3 (and_left (leb rank 3) (not (eqb rank 2) || has_repetition c) h)

-- which byte plays a part
pub data Part (c : Characters) (b : ℕ) : Role → Type 0 where
  separates : (rank : ℕ) → separable c rank ≡ true → b ≡ separator_of c (3 - rank) → Part c b (Separator rank)
  releases : b ≡ c.release → has_release c ≡ true → Part c b Release
  plain : Part c b Plain

-- ---- any characters

module _ (c : Characters) (b : ℕ) where
  -- the part that a byte plays says which byte it is
  pub part : Part c b (role c b)
  unfolding role separable
  part =
      step (eqb b c.terminator) refl (eqb b c.element) refl (has_repetition c) refl (eqb b c.repetition) refl (eqb b c.component) refl
      (has_release c) refl (eqb b c.release) refl
    where
      step : (t : Bool) → eqb b c.terminator ≡ t → (e : Bool) → eqb b c.element ≡ e
          → (p : Bool) → has_repetition c ≡ p → (x : Bool) → eqb b c.repetition ≡ x → (k : Bool) → eqb b c.component ≡ k
          → (r : Bool) → has_release c ≡ r → (f : Bool) → eqb b c.release ≡ f
          → Part c b
          (if t then Separator 0 else (if e then Separator 1 else (if p && x then Separator 2 else (if k then Separator 3
          else (if r && f then Release else Plain)))))
      step true h e he p hp x hx k hk r hr f hf = separates 0 refl (eqb-true b c.terminator h)
      step false h true he p hp x hx k hk r hr f hf = separates 1 refl (eqb-true b c.element he)
      step false h false he true hp true hx k hk r hr f hf = separates 2 hp (eqb-true b c.repetition hx)
      step false h false he true hp false hx true hk r hr f hf = separates 3 refl (eqb-true b c.component hk)
      step false h false he false hp x hx true hk r hr f hf = separates 3 refl (eqb-true b c.component hk)
      step false h false he true hp false hx false hk true hr true hf = releases (eqb-true b c.release hf) hr
      step false h false he false hp x hx false hk true hr true hf = releases (eqb-true b c.release hf) hr
      step false h false he true hp false hx false hk true hr false hf = plain
      step false h false he false hp x hx false hk true hr false hf = plain
      step false h false he true hp false hx false hk false hr f hf = plain
      step false h false he false hp x hx false hk false hr f hf = plain

  -- the service characters are the bytes that play another part than a plain one
  pub service_serves : is_service c b ≡ serves (role c b)
  unfolding is_service service_characters member role
  service_serves =
      ap (λ (last : Bool). eqb b c.component || (eqb b c.element || (eqb b c.terminator || last))) (optional (has_repetition c) (has_release c))
      ∙ step (eqb b c.terminator) (eqb b c.element) (eqb b c.component) (has_repetition c && eqb b c.repetition) (has_release c && eqb b c.release)
    where
      -- the two that may be missing
      optional : (p r : Bool)
          → member b ((if p then c.repetition ∷ [] else []) ++ (if r then c.release ∷ [] else []))
          ≡ ((p && eqb b c.repetition) || (r && eqb b c.release))
      optional true true = ap (λ (last : Bool). eqb b c.repetition || last) (or-false (eqb b c.release))
      optional true false = refl
      optional false true = or-false (eqb b c.release)
      optional false false = refl

      step : (t e k y z : Bool)
          → (k || (e || (t || (y || z))))
          ≡ serves
          (if t then Separator 0 else (if e then Separator 1 else (if y then Separator 2 else (if k then Separator 3 else (if z then Release else Plain)))))
      step true e true y z = refl
      step true true false y z = refl
      step true false false y z = refl
      step false true true y z = refl
      step false true false y z = refl
      step false false true true z = refl
      step false false true false z = refl
      step false false false true z = refl
      step false false false false true = refl
      step false false false false false = refl

-- ---- usable characters

module _ (c : Characters) (u : usable c ≡ true) where
  facts : Usable c
  facts = (usable_says c).0 u

  -- what is there is no space
  repetition_there : has_repetition c ≡ true → c.repetition ≡ 32 → ⊥
  unfolding has_repetition
  repetition_there = (says_not (eqb c.repetition 32) (says_eq c.repetition 32)).0

  release_there : has_release c ≡ true → c.release ≡ 32 → ⊥
  unfolding has_release
  release_there = (says_not (eqb c.release 32) (says_eq c.release 32)).0

  -- the separator of a rank plays its part
  pub role_separator : (rank : ℕ) → separable c rank ≡ true → role c (separator_of c (3 - rank)) ≡ Separator rank
  unfolding separable
  role_separator zero h = terminator_role c facts
  role_separator (suc zero) h = element_role c facts
  role_separator (suc (suc zero)) h = repetition_role c facts (repetition_there h)
  role_separator (suc (suc (suc zero))) h = component_role c facts
  role_separator (suc (suc (suc (suc rank)))) h = absurd (omega (arith, separable_low c (suc (suc (suc (suc rank)))) h))

  pub role_release : has_release c ≡ true → role c c.release ≡ Release
  role_release r = release_role c facts (release_there r)

  -- no service character is a line break
  pub service_no_break : (b : ℕ) → is_service c b ≡ true → is_break b ≡ false
  unfolding usable is_service parts between member
  service_no_break b h =
      (fails (is_break b) (break_says b)).1 (⊎_elim (λ e. never 13 refl e) (λ e. never 10 refl e))
    where
      separating : parts b ≡ true
      separating =
          let front : Bool = member c.mark (text ".,") in
          let separate : Bool = all parts (service_characters c) in
          (says_all parts (λ x. (λ e. e, λ e. e)) (service_characters c)).0
          (and_right front separate (and_left (front && separate) (all_differ (c.mark ∷ service_characters c)) u))
          b
          ((says_member b (service_characters c)).0 h)

      never : (x : ℕ) → parts x ≡ false → b ≡ x → ⊥
      never x f e = false≢true (sym f ∙ sym (ap parts e) ∙ separating)
