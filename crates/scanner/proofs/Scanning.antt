-- One step of `scanned`, for each token that the scanner can find; and what follows a segment that `scanned` sees end. Assumes nothing.
use Rattle.std.specs.Prelude.{if◌then◌else◌}
use Prim.Native.Nat.{ℕ, zero, suc, ◌+◌, ◌-◌, ◌≤◌, ◌<◌}
use mathlib.Core.Path.{◌≡◌, refl, sym, ap, ◌∙◌, subst}
use mathlib.Core.List.{List, [], ◌∷◌}
use mathlib.Core.Logic.{inl, inr}
use mathlib.Core.Bool.{Bool, true, false, ◌&&◌, ◌||◌}
use native.Mathlib.Omega.{arith}
use native.Mathlib.Decide.{dec_le}
use native.Mathlib.Nat.{lt_of_not-le}
use lib.ListN.{length, get_or}
use lib.Dec.{eqb, leb}
use borrow.Author.Tests.{eqb-true, eqb-false, eq-eqb, ne_eqb, le-leb, lt-leb}
use Rattle.lists.specs.Lists.{beyond}
use Rattle.lists.proofs.Texts.{if_true, if_false, or_none_left, or_none_right}
use Rattle.characters.specs.declared.Characters.{Characters}
use Rattle.characters.specs.declared.Role.{Role}
use Rattle.characters.specs.declared.Role.TheVariants as role
use Rattle.characters.specs.Characters.{role as role_in, has_release, has_repetition, after_breaks}
use Rattle.values.proofs.Steps.{at_end, at_plain, at_terminator, at_separator, at_last_release, at_stray_release, at_released_release, at_released_separator}
use Rattle.values.specs.Tokens.{Token, byte, separator, fault, ends, tokens_at}
use Rattle.scanner.specs.declared.Lexed.TheVariants.{Byte, Separator, Stray, End}
use Rattle.scanner.specs.declared.Scanned.{Scanned}
use Rattle.scanner.specs.Scan.{Scanning, ended, stray, unended, scanned, releasing, Others, Passes, Scans}
use Rattle.scanner.proofs.Lexing.{Lexes}

-- the part of a byte that is no terminator: what is known where it is a release character
abbrev Inner : Type 0 → Role → Type 0
Inner R (role.Separator zero) = ⊥
Inner R (role.Separator (suc rank)) = Unit {0}
Inner R role.Release = R
Inner R role.Plain = Unit {0}

module _ (c : Characters) (b : ℕ) (no_terminator : b ≡ c.terminator → ⊥) where
  inner : (R : Type 0) → Inner R (if has_release c && eqb b c.release then role.Release else role.Plain) → Inner R (role_in c b)
  unfolding role_in
  inner R last =
      rw (ne_eqb b c.terminator no_terminator)
      (either (eqb b c.element) (role.Separator 1) _ tt
      (either (has_repetition c && eqb b c.repetition) (role.Separator 2) _ tt
      (either (eqb b c.component) (role.Separator 3) _ tt last)))
    where
      either : (t : Bool) (a o : Role) → Inner R a → Inner R o → Inner R (if t then a else o)
      either true a o k l = k
      either false a o k l = l

  -- it is the release character where it releases
  pub inner_role : Inner (b ≡ c.release) (role_in c b)
  inner_role = inner (b ≡ c.release) (step (has_release c) (eqb b c.release) (eqb-true b c.release))
    where
      step : (t u : Bool) → (u ≡ true → b ≡ c.release) → Inner (b ≡ c.release) (if t && u then role.Release else role.Plain)
      step true true h = h refl
      step true false h = tt
      step false u h = tt

-- the byte that releases the next one is told by what the release character is
module _ (c : Characters) (b release : ℕ) (e : release ≡ releasing c (role_in c c.release)) where
  -- no other byte does
  none_releases : (b ≡ release → ⊥) → role_in c b ≡ role.Release → b ≡ c.release → ⊥
  none_releases other d f = other (f ∙ sym (e ∙ ap (releasing c) (ap (role_in c) (sym f) ∙ d)))

  -- and that byte does, unless it is the terminator
  pub releases : b ≡ release → (b ≡ c.terminator → ⊥) → role_in c b ≡ role.Release
  releases d h = step (role_in c c.release) refl
    where
      step : (o : Role) → role_in c c.release ≡ o → role_in c b ≡ role.Release
      step (role.Separator rank) q = absurd (h (d ∙ e ∙ ap (releasing c) q))
      step role.Release q = ap (role_in c) (d ∙ e ∙ ap (releasing c) q) ∙ q
      step role.Plain q = absurd (h (d ∙ e ∙ ap (releasing c) q))

module _ (c : Characters) (s : List ℕ) (at : ℕ) where
  -- a byte that is neither tells nothing of how the segment ends
  pub scan_other : {release : ℕ} → release ≡ releasing c (role_in c c.release) → at < length s
      → (get_or s at 0 ≡ c.terminator → ⊥) → (get_or s at 0 ≡ release → ⊥) → scanned (tokens_at c s at) ≡ scanned (tokens_at c s (at + 1))
  unfolding scanned
  scan_other {release} e h t r = step (role_in c (get_or s at 0)) refl (inner_role c (get_or s at 0) t)
    where
      step : (o : Role) → role_in c (get_or s at 0) ≡ o → Inner (get_or s at 0 ≡ c.release) o → scanned (tokens_at c s at) ≡ scanned (tokens_at c s (at + 1))
      step (role.Separator zero) d k = absurd k
      step (role.Separator (suc rank)) d k =
          ap scanned (at_separator c s at rank h d)
          ∙ if_false (leb (suc rank) 0) (ended (tokens_at c s (at + 1))) (scanned (tokens_at c s (at + 1))) (lt-leb (suc rank) 0 (omega arith))
      step role.Release d k = absurd (none_releases c (get_or s at 0) release e r d k)
      step role.Plain d k = ap scanned (at_plain c s at h d)

  -- the terminator ends it
  pub scan_ends : at < length s → get_or s at 0 ≡ c.terminator → scanned (tokens_at c s at) ≡ ended (tokens_at c s (after_breaks s (at + 1)))
  unfolding role_in scanned
  scan_ends h e = ap scanned (at_terminator c s at h (simp (eq-eqb _ _ e)))

  -- a release character takes a byte with it that has a part, and no other
  module _ (h : at < length s) (e : role_in c (get_or s at 0) ≡ role.Release) where
    pub release_last : length s ≤ at + 1 → Passes c s at at
    unfolding scanned
    release_last k = inl (refl, ap scanned (at_last_release c s at (omega arith) e))

    pub release_stray : at + 1 < length s → role_in c (get_or s (at + 1) 0) ≡ role.Plain → Passes c s at at
    unfolding scanned
    release_stray k d = inl (refl, ap scanned (at_stray_release c s at k e d))

    pub release_separator : {rank : ℕ} → at + 1 < length s → role_in c (get_or s (at + 1) 0) ≡ role.Separator rank → Passes c s at (at + 1 + 1)
    unfolding scanned
    release_separator {rank} k d = inr (omega arith, omega arith, ap scanned (at_released_separator c s at rank k e d))

    pub release_release : at + 1 < length s → role_in c (get_or s (at + 1) 0) ≡ role.Release → Passes c s at (at + 1 + 1)
    unfolding scanned
    release_release k d = inr (omega arith, omega arith, ap scanned (at_released_release c s at k e d))

    pub release_taken : at + 1 < length s → (r : Role) → role_in c (get_or s (at + 1) 0) ≡ r → (r ≡ role.Plain → ⊥) → Passes c s at (at + 1 + 1)
    release_taken k (role.Separator rank) d other = release_separator k d
    release_taken k role.Release d other = release_release k d
    release_taken k role.Plain d other = absurd (other refl)

  -- the two answers of the step past a release character
  pub passed_none : {next : ℕ} → Passes c s at next → next ≡ at → scanned (tokens_at c s at) ≡ stray at
  passed_none (inl p) e = p.1
  passed_none (inr p) e = absurd (omega arith)

  pub passed_one : {next : ℕ} → Passes c s at next → (next ≡ at → ⊥)
      → (at < next) × (next ≤ length s) × (scanned (tokens_at c s at) ≡ scanned (tokens_at c s next))
  passed_one (inl p) h = absurd (h p.0)
  passed_one (inr p) h = p

  -- after the last byte nothing tells it
  pub scan_past : length s ≤ at → scanned (tokens_at c s at) ≡ unended
  unfolding scanned
  scan_past h = ap scanned (at_end c s at h)

  -- what a match on the scan's answer shows
  pub scans_as : {r answer : Scanned} → Scans c s at answer → answer ≡ r → Scans c s at r
  scans_as h e = subst (λ q. Scans c s at q) e h

  pub scan_byte : {b place next : ℕ} → Lexes c s at (Byte b place next) → scanned (tokens_at c s at) ≡ scanned (tokens_at c s next)
  unfolding scanned
  scan_byte l = ap scanned l.0

  pub scan_terminator : {rank next : ℕ} → Lexes c s at (Separator rank next) → rank ≡ 0
      → scanned (tokens_at c s at) ≡ ended (tokens_at c s next)
  unfolding scanned
  scan_terminator {rank} {next} l z =
      ap scanned l.0
      ∙ if_true (leb rank 0) (ended (tokens_at c s next)) (scanned (tokens_at c s next)) (le-leb rank 0 (omega arith))

  pub scan_separator : {rank next : ℕ} → Lexes c s at (Separator rank next) → (rank ≡ 0 → ⊥)
      → scanned (tokens_at c s at) ≡ scanned (tokens_at c s next)
  unfolding scanned
  scan_separator {rank} {next} l z =
      ap scanned l.0
      ∙ if_false (leb rank 0) (ended (tokens_at c s next)) (scanned (tokens_at c s next)) (lt-leb rank 0 (omega arith))

  pub scan_stray : {next : ℕ} → Lexes c s at (Stray next) → scanned (tokens_at c s at) ≡ stray at
  unfolding scanned
  scan_stray l = ap scanned l.0

  pub scan_end : Lexes c s at End → scanned (tokens_at c s at) ≡ unended
  unfolding scanned
  scan_end l = ap scanned l.0

-- bytes that are neither tell nothing of it, however many
module _ (c : Characters) (s : List ℕ) {release : ℕ} (e : release ≡ releasing c (role_in c c.release)) where
  scan_run : (n from : ℕ) → Others c.terminator release s from (from + n) → scanned (tokens_at c s from) ≡ scanned (tokens_at c s (from + n))
  scan_run zero from h = ap (λ (p : ℕ). scanned (tokens_at c s p)) (omega arith)
  scan_run (suc n) from h =
      let (inside, none) = h from (omega arith) (omega arith) in
      let b = get_or s from 0 in
      let t = or_none_left (eqb b c.terminator) (eqb b release) none in
      let r = or_none_right (eqb b c.terminator) (eqb b release) none in
      scan_other c s from e inside (eqb-false b c.terminator t) (eqb-false b release r)
      ∙ scan_run n (from + 1) (λ k l m. h k (omega arith) (omega arith))
      ∙ ap (λ (p : ℕ). scanned (tokens_at c s p)) (omega arith)

  pub scan_others : {from to : ℕ} → (from ≤ to) × Others c.terminator release s from to → scanned (tokens_at c s from) ≡ scanned (tokens_at c s to)
  scan_others {from} {to} (h, o) =
      let there : from + (to - from) ≡ to = omega arith in
      scan_run (to - from) from (λ k l m. o k l (omega arith)) ∙ ap (λ (p : ℕ). scanned (tokens_at c s p)) there

-- ---- bytes that are neither of two, from a place on

module _ (a b : ℕ) (s : List ℕ) (from : ℕ) where
  pub others_none : Others a b s from from
  others_none k l m = absurd (omega arith)

  -- one byte more
  pub others_next : {at : ℕ} {found now : Bool} → (found ≡ false → Others a b s from at) → at < length s
      → now ≡ (eqb (get_or s at 0) a || eqb (get_or s at 0) b) → (found || now) ≡ false → Others a b s from (at + 1)
  others_next {at} {found} {now} h i e n k l m =
      elim (dec_le (k + 1) at) [
        | yes q ↦ h (or_none_left found now n) k l (omega arith)
        | no q ↦
            let w : k ≡ at = omega (arith, lt_of_not-le q) in
            (omega arith, ap (λ (p : ℕ). eqb (get_or s p 0) a || eqb (get_or s p 0) b) w ∙ sym e ∙ or_none_right found now n)
      ]

  pub others_to : {at to : ℕ} → Others a b s from at → to ≤ at → Others a b s from to
  others_to h i k l m = h k l (omega arith)

  -- more of them
  pub others_more : {at to : ℕ} → Others a b s from at → Others a b s at to → Others a b s from to
  others_more {at} {to} h g k l m = elim (dec_le (k + 1) at) [ yes q ↦ h k l (omega arith) | no q ↦ g k (omega (arith, lt_of_not-le q)) m ]

-- what follows the terminator that a scan found, and something else where it found none
after : Scanning → List Token → List Token
after (ended rest) other = rest
after (stray place) other = other
after unended other = other

-- a scan that finds a terminator finds the first
scanned_after : (ts : List Token) → after (scanned ts) (beyond (ends 0) ts) ≡ beyond (ends 0) ts
unfolding scanned beyond ends after
scanned_after [] = refl
scanned_after (byte b from place ∷ ts) = scanned_after ts
scanned_after (fault place ∷ ts) = refl
scanned_after (separator rank place ∷ ts) = step (leb rank 0) (scanned_after ts)
  where
    step : (b : Bool) → after (scanned ts) (beyond (ends 0) ts) ≡ beyond (ends 0) ts
        → after (if b then ended ts else scanned ts) (if b then ts else beyond (ends 0) ts) ≡ (if b then ts else beyond (ends 0) ts)
    step true ih = refl
    step false ih = ih

pub ended_beyond : (ts : List Token) {rest : List Token} → scanned ts ≡ ended rest → rest ≡ beyond (ends 0) ts
unfolding after
ended_beyond ts e = ap (λ (found : Scanning). after found (beyond (ends 0) ts)) (sym e) ∙ scanned_after ts
