-- How a segment ends, past some of its bytes. Assumes nothing.
use Prim.Native.Nat.{ℕ, zero, suc, ◌+◌, ◌≤◌, ◌<◌}
use mathlib.Core.Path.{◌≡◌, refl, sym, ap, ◌∙◌, subst}
use mathlib.Core.Bool.{Bool, true, false, not, ◌&&◌, false≢true}
use mathlib.Core.List.{List}
use native.Mathlib.Omega.{arith}
use lib.ListN.{length, get_or}
use lib.Dec.{eqb}
use borrow.Author.Tests.{eqb-true, eqb-false}
use Rattle.lists.proofs.Texts.{or_none_left, or_none_right}
use Rattle.characters.specs.declared.Characters.{Characters}
use Rattle.characters.specs.declared.Role.{Role}
use Rattle.characters.specs.declared.Role.TheVariants as role
use Rattle.characters.specs.Characters.{role as role_in, is_service, after_breaks}
use Rattle.values.specs.Tokens.{tokens_at}
use Rattle.line_breaks.proofs.Passing.{after_least, after_most}
use Rattle.spelling_laws.proofs.Service.{serves, service_serves}
use Rattle.release_marks.specs.Marks.{misread, Reached}
use Rattle.release_marks.proofs.Reaching.{reached_next}
use Rattle.scanner.specs.declared.Scanned.{Scanned}
use Rattle.scanner.specs.declared.Scanned.TheVariants.{Ended, Stray, Unended}
use Rattle.scanner.specs.Scan.{scanned, ended, releasing, Others, Scans}
use Rattle.scanner.proofs.Scanning.{releases, scan_other, scan_others, scan_ends, release_separator, release_release, passed_one}
use Rattle.segment_ends.specs.declared.Passed.{Passed}
use Rattle.segment_ends.specs.declared.Passed.TheVariants as passed
use Rattle.segment_ends.specs.Moving.{Moves}
use Rattle.segment_ends.specs.Releases.{Told, Only, stops}

-- ---- one token

module _ (c : Characters) (s : List ℕ) (at : ℕ) where
  -- the terminator ends the segment
  pub ends_here : {next : ℕ} → at < length s → get_or s at 0 ≡ c.terminator → next ≡ after_breaks s (at + 1) → Scans c s at (Ended next)
  ends_here {next} h t n = (
    scan_ends c s at h t ∙ ap (λ (p : ℕ). ended (tokens_at c s p)) (sym n),
    omega (arith, n, after_least s (at + 1)),
    omega (arith, n, after_most s (at + 1) (omega arith)),
  )

  -- a release character takes a service character with it
  taken : role_in c (get_or s at 0) ≡ role.Release → at + 1 < length s → is_service c (get_or s (at + 1) 0) ≡ true
      → scanned (tokens_at c s at) ≡ scanned (tokens_at c s (at + 1 + 1))
  taken r h v = by_role (role_in c (get_or s (at + 1) 0)) refl (sym (service_serves c (get_or s (at + 1) 0)) ∙ v)
    where
      by_role : (o : Role) → role_in c (get_or s (at + 1) 0) ≡ o → serves o ≡ true
          → scanned (tokens_at c s at) ≡ scanned (tokens_at c s (at + 1 + 1))
      by_role (role.Separator rank) e w = (passed_one c s at (release_separator c s at (omega arith) r h e) (λ q. omega arith)).2
      by_role role.Release e w = (passed_one c s at (release_release c s at (omega arith) r h e) (λ q. omega arith)).2
      by_role role.Plain e w = absurd (false≢true w)

  module _ {release : ℕ} (e : release ≡ releasing c (role_in c c.release)) where
    -- another byte tells nothing,
    pub goes_past : at < length s → (get_or s at 0 ≡ c.terminator → ⊥) → (get_or s at 0 ≡ release → ⊥) → Moves c s at (passed.On (at + 1))
    goes_past h t r = (omega arith, omega arith, scan_other c s at e h t r)

    -- and so a release character, with the byte that it takes
    pub goes_over : at + 1 < length s → (get_or s at 0 ≡ c.terminator → ⊥) → get_or s at 0 ≡ release → is_service c (get_or s (at + 1) 0) ≡ true
        → Moves c s at (passed.On (at + 1 + 1))
    goes_over h t r v = (omega arith, omega arith, taken (releases c (get_or s at 0) release e r t) h v)

    -- bytes that are neither tell nothing, however many
    pub goes_far : {to : ℕ} → at ≤ to → Others c.terminator release s at to → scanned (tokens_at c s at) ≡ scanned (tokens_at c s to)
    goes_far h o = scan_others c s e (h, o)

  -- ---- what is told from a later place

  module _ {to : ℕ} (h : at ≤ to) (i : scanned (tokens_at c s at) ≡ scanned (tokens_at c s to)) where
    pub scans_from_lem : (r : Scanned) → Scans c s to r → Scans c s at r
    scans_from_lem (Ended next) q = (i ∙ q.0, omega arith, q.2)
    scans_from_lem (Stray place) q = i ∙ q
    scans_from_lem Unended q = i ∙ q

    pub moves_from : (r : Passed) → Moves c s to r → Moves c s at r
    moves_from (passed.Ended next) q = (i ∙ q.0, omega arith, q.2)
    moves_from (passed.On next) q = (omega arith, q.1, i ∙ q.2)
    moves_from passed.Other q = tt

  -- what a match on the answer shows
  pub moves_as : {r answer : Passed} → Moves c s at answer → answer ≡ r → Moves c s at r
  moves_as m q = subst (λ (a : Passed). Moves c s at a) q m

-- ---- between release characters

-- the byte that takes the next one with it is the release character, unless it is the terminator
pub release_role : (c : Characters) {release : ℕ} → release ≡ releasing c (role_in c c.release) → (release ≡ c.terminator → ⊥)
    → role_in c c.release ≡ role.Release
release_role c e t = step (role_in c c.release) refl
  where
    step : (o : Role) → role_in c c.release ≡ o → role_in c c.release ≡ role.Release
    step (role.Separator rank) q = absurd (t (e ∙ ap (releasing c) q))
    step role.Release q = q
    step role.Plain q = absurd (t (e ∙ ap (releasing c) q))

module _ (c : Characters) (s : List ℕ) where
  -- nothing is passed
  pub told_here : {from to : ℕ} → from ≡ to → Told c s from to
  told_here e = (omega arith, ap (λ (p : ℕ). scanned (tokens_at c s p)) e)

  module _ (r : role_in c c.release ≡ role.Release) where
    -- one byte more, of which it is known whether it is released
    pub told_next : (from : ℕ) (now next : Bool) (p : ℕ) → p < length s → stops c now next (get_or s p 0) ≡ false
        → Reached (Told c s from) c s now p → Reached (Told c s from) c s next (p + 1)
    unfolding stops
    told_next from now next p i f =
        let b = get_or s p 0 in
        reached_next (Told c s from) c s now next p (or_none_left (misread c now next b) (not now && eqb b c.terminator) f)
        (λ e. ap (role_in c) (eqb-true b c.release e) ∙ r)
        (λ t n g.
        let end = sym (ap (λ (t : Bool). not t && eqb b c.terminator) t) ∙ or_none_right (misread c now next b) (not now && eqb b c.terminator) f in
        (omega arith, g.1 ∙ scan_other c s p (sym (ap (releasing c) r)) i (eqb-false b c.terminator end) (eqb-false b c.release n)))
        (λ at e o q g.
        let there : at + 1 + 1 ≡ p + 1 = omega arith in
        let over = taken c s at o (omega arith) (ap (λ (x : ℕ). is_service c (get_or s x 0)) (sym e) ∙ q) in
        (omega arith, g.1 ∙ over ∙ ap (λ (x : ℕ). scanned (tokens_at c s x)) there))

    -- a release character with the byte that it takes
    pub told_taken : {from at : ℕ} → Told c s from at → at + 1 < length s → get_or s at 0 ≡ c.release → is_service c (get_or s (at + 1) 0) ≡ true
        → Told c s from (at + 1 + 1)
    told_taken {from} {at} g i e q = (omega (arith, g.0), g.1 ∙ taken c s at (ap (role_in c) e ∙ r) i q)

    -- it is a service character
    pub release_serves : {b : ℕ} → b ≡ c.release → is_service c b ≡ true
    release_serves {b} e = service_serves c b ∙ ap serves (ap (role_in c) e ∙ r)

    -- release characters side by side, two by two
    pub told_releases : (k : ℕ) {from at to : ℕ} → Told c s from at → to ≡ at + k + k → to ≤ length s → Only c.release s at to → Told c s from to
    told_releases zero {from} {at} {to} g e i o = let there : at ≡ to = omega arith in subst (Told c s from) there g
    told_releases (suc k) {from} {at} {to} g e i o =
        let first = o at (omega arith) (omega arith) in
        let second = o (at + 1) (omega arith) (omega arith) in
        told_releases k (told_taken g (omega arith) first (release_serves second)) (omega arith) i (λ j l m. o j (omega arith) m)

  -- one part after another
  pub told_more : {from mid to : ℕ} → Told c s from mid → Told c s mid to → Told c s from to
  told_more g h = (omega (arith, g.0, h.0), g.1 ∙ h.1)
