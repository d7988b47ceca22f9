-- Where all bytes are orderly, every byte of every value is in the level: by where reading stands and what the bytes before it were.
-- Assumes nothing.
use Rattle.std.specs.Prelude.{if◌then◌else◌}
use Prim.Native.Nat.{ℕ, zero, suc, ◌+◌}
use mathlib.Core.Path.{◌≡◌, refl, sym, ap, ap₂, ◌∙◌}
use mathlib.Core.Bool.{Bool, true, false, not, ◌&&◌, ◌||◌, false≢true}
use mathlib.Core.List.{List, [], ◌∷◌}
use mathlib.Core.Logic.{⊎_elim}
use mathlib.Core.Option.{none}
use borrow.Author.Tests.{not-true}
use lib.ListN.{drop}
use Rattle.lists.specs.Lists.{member}
use Rattle.lists.proofs.Texts.{and_left, and_right, or_none_left, or_none_right}
use Rattle.characters.specs.declared.Characters.{Characters}
use Rattle.characters.specs.declared.Role.{Role}
use Rattle.characters.specs.declared.Role.TheVariants.{Separator, Release, Plain}
use Rattle.characters.specs.Characters.{is_service, is_break, role}
use Rattle.characters.proofs.Words.{break_says}
use Rattle.values.specs.Tokens.{Reading, inside, released, passing, unreleased, reading, taken, tokens_from, tokens, tokens_at}
use Rattle.levels.specs.Levels.{in_level}
use Rattle.spelling_laws.proofs.Service.{serves, service_serves}
use Rattle.stage_walks.specs.Walks.{leveled}
use Rattle.stage_bytes.specs.Orderly.{is_release, is_terminator, releases, may_break, orderly, service_apart, orderly_after, opening_orderly, all_orderly}
use Rattle.stage_bytes.proofs.Inside.{passes}

none_of : (t : Bool) → (t && false) ≡ false
none_of true = refl
none_of false = refl

module _ (c : Characters) (level : ℕ) (apart : service_apart c ≡ true) where
  abbrev apart_from : Bool
  apart_from = is_service c 13 || (is_service c 10 || is_service c 0)

  -- no service character is a break, nor the byte 0
  no_service : apart_from ≡ false
  unfolding service_apart
  no_service = not-true apart_from apart

  zero_plain : is_service c 0 ≡ false
  zero_plain = or_none_right (is_service c 10) (is_service c 0) (or_none_right (is_service c 13) (is_service c 10 || is_service c 0) no_service)

  break_plain : (b : ℕ) → is_break b ≡ true → is_service c b ≡ false
  break_plain b e =
      ⊎_elim
      (λ (q : b ≡ 13). ap (is_service c) q ∙ or_none_left (is_service c 13) (is_service c 10 || is_service c 0) no_service)
      (λ (q : b ≡ 10). ap (is_service c) q ∙ or_none_left (is_service c 10) (is_service c 0) (or_none_right (is_service c 13) (is_service c 10 || is_service c 0) no_service))
      ((break_says b).0 e)

  service_unbroken : (b : ℕ) → is_service c b ≡ true → is_break b ≡ false
  service_unbroken b h = step (is_break b) refl
    where
      step : (t : Bool) → is_break b ≡ t → t ≡ false
      step true e = absurd (false≢true (sym (break_plain b e) ∙ h))
      step false e = refl

  -- a byte that plays a part is no break; a plain one is no service character, and releases nothing
  part_unbroken : (b : ℕ) {r : Role} → role c b ≡ r → serves r ≡ true → is_break b ≡ false
  part_unbroken b e h = service_unbroken b (service_serves c b ∙ ap serves e ∙ h)

  plain_releases : (b : ℕ) → is_service c b ≡ false → releases c b ≡ false
  unfolding releases
  plain_releases b h = step (role c b) (sym (service_serves c b) ∙ h)
    where
      step : (r : Role) → serves r ≡ false → is_release r ≡ false
      step (Separator rank) k = refl
      step Release k = k ∙ refl
      step Plain k = refl

  -- ---- the four bytes before

  -- what they were where reading stands
  abbrev Stands : Reading → (fourth third second before : ℕ) → Type 0
  Stands inside fourth third second before = (may_break c fourth third second before ≡ false) × ((releases c before && not (releases c second)) ≡ false)
  Stands (released from) fourth third second before = (releases c before ≡ true) × ((releases c second && not (releases c third)) ≡ false)
  Stands passing fourth third second before = releases c before ≡ false

  -- after a byte that is no break and no terminator, no break may stand
  quiet : (fourth third second before : ℕ) → is_break before ≡ false → is_terminator (role c before) ≡ false → may_break c fourth third second before ≡ false
  unfolding may_break
  quiet fourth third second before p q =
      ap₂ (λ (t u : Bool). t || (u && (not (releases c second) || (releases c third && not (releases c fourth))))) p q

  -- nor after a released one
  quiet_released : (fourth third second before : ℕ) → is_break before ≡ false → releases c second ≡ true → (releases c third && not (releases c fourth)) ≡ false
      → may_break c fourth third second before ≡ false
  unfolding may_break
  quiet_released fourth third second before p q r =
      ap (λ (t : Bool). t || (is_terminator (role c before) && (not (releases c second) || (releases c third && not (releases c fourth))))) p
      ∙ ap₂ (λ (t u : Bool). is_terminator (role c before) && (not t || u)) q r
      ∙ none_of (is_terminator (role c before))

  -- ---- one byte

  -- the byte is in the level where it is no service character that is not released and no break that may stand there
  in_level_lem : (fourth third second before b : ℕ) → orderly c level fourth third second before b ≡ true → (is_service c b && not (releases c before)) ≡ false
      → (is_break b && may_break c fourth third second before) ≡ false → (in_level level b ≡ true) × (is_break b ≡ false)
  unfolding orderly
  in_level_lem fourth third second before b = step (in_level level b) (is_break b) (is_service c b && not (releases c before)) (is_break b && may_break c fourth third second before)
    where
      step : (l k s t : Bool) → ((l && not k) || (s || t)) ≡ true → s ≡ false → t ≡ false → (l ≡ true) × (k ≡ false)
      step true false s t h p q = (refl, refl)
      step true true s t h p q = absurd (false≢true (sym (ap₂ (λ (x y : Bool). x || y) p q) ∙ h))
      step false k s t h p q = absurd (false≢true (sym (ap₂ (λ (x y : Bool). x || y) p q) ∙ h))

  -- what follows is in the level, wherever reading stands
  abbrev Goes : List ℕ → Type 0
  Goes bs = (state : Reading) (fourth third second before place : ℕ) → Stands state fourth third second before
      → orderly_after c level fourth third second before bs ≡ true → leveled level (tokens_from c state place bs) ≡ none

  module _ (b : ℕ) (bs : List ℕ) (go : Goes bs) (fourth third second before place : ℕ) (here : orderly c level fourth third second before b ≡ true)
      (after : orderly_after c level third second before b bs ≡ true) where
    -- reading goes on inside the segment after a byte that is no break, no terminator and no release character
    on : {r : Role} → role c b ≡ r → is_break b ≡ false → is_terminator r ≡ false → is_release r ≡ false → leveled level (tokens_from c inside (place + 1) bs) ≡ none
    unfolding releases
    on e p q n =
        go inside third second before b (place + 1)
        (quiet third second before b p (ap is_terminator e ∙ q), ap (λ (t : Bool). t && not (releases c before)) (ap is_release e ∙ n))
        after

    unreleased_level : (is_break b && may_break c fourth third second before) ≡ false → (releases c before && not (releases c second)) ≡ false
        → (r : Role) → role c b ≡ r → leveled level (unreleased r b place (tokens_from c (reading r place) (place + 1) bs)) ≡ none
    unfolding unreleased reading leveled releases
    unreleased_level q a (Separator zero) e = go passing third second before b (place + 1) (ap is_release e) after
    unreleased_level q a (Separator (suc rank)) e = on e (part_unbroken b e refl) refl refl
    unreleased_level q a Release e = go (released place) third second before b (place + 1) (ap is_release e, a) after
    unreleased_level q a Plain e =
        let (l, k) = in_level_lem fourth third second before b here (ap (λ (t : Bool). t && not (releases c before)) (service_serves c b ∙ ap serves e)) q in
        passes c level b place place (tokens_from c inside (place + 1) bs) l (on e k refl refl)

    -- after a release character any byte that is orderly is in the level
    module _ (r : releases c before ≡ true) (a : (releases c second && not (releases c third)) ≡ false) where
      before_unbroken : (is_break before ≡ false) × (is_terminator (role c before) ≡ false)
      unfolding releases
      before_unbroken = step (role c before) refl r
        where
          step : (o : Role) → role c before ≡ o → is_release o ≡ true → (is_break before ≡ false) × (is_terminator o ≡ false)
          step (Separator rank) e h = absurd (false≢true h)
          step Release e h = (part_unbroken before e refl, refl)
          step Plain e h = absurd (false≢true h)

      found : (in_level level b ≡ true) × (is_break b ≡ false)
      found =
          in_level_lem fourth third second before b here
          (ap (λ (t : Bool). is_service c b && not t) r ∙ none_of (is_service c b))
          (ap (λ (t : Bool). is_break b && t) (quiet fourth third second before before_unbroken.0 before_unbroken.1) ∙ none_of (is_break b))

      rest : leveled level (tokens_from c inside (place + 1) bs) ≡ none
      rest =
          go inside third second before b (place + 1)
          (quiet_released third second before b found.1 r a, ap (λ (t : Bool). releases c b && not t) r ∙ none_of (releases c b))
          after

      taken_level : (from : ℕ) (o : Role) → leveled level (taken o b from place (tokens_from c inside (place + 1) bs)) ≡ none
      unfolding taken leveled
      taken_level from (Separator rank) = passes c level b from place (tokens_from c inside (place + 1) bs) found.0 rest
      taken_level from Release = passes c level b from place (tokens_from c inside (place + 1) bs) found.0 rest
      taken_level from Plain = rest

    -- after a terminator a break is passed over
    passing_level : releases c before ≡ false → (t : Bool) → is_break b ≡ t
        → leveled level (if t then tokens_from c passing (place + 1) bs else unreleased (role c b) b place (tokens_from c (reading (role c b) place) (place + 1) bs))
        ≡ none
    passing_level r true e = go passing third second before b (place + 1) (plain_releases b (break_plain b e)) after
    passing_level r false e =
        unreleased_level (ap (λ (t : Bool). t && may_break c fourth third second before) e) (ap (λ (t : Bool). t && not (releases c second)) r) (role c b) refl

  goes : (bs : List ℕ) → Goes bs
  unfolding tokens_from leveled orderly_after
  goes [] inside fourth third second before place h o = refl
  goes [] (released from) fourth third second before place h o = refl
  goes [] passing fourth third second before place h o = refl
  goes (b ∷ bs) inside fourth third second before place h o =
      unreleased_level b bs (goes bs) fourth third second before place (and_left (orderly c level fourth third second before b) (orderly_after c level third second before b bs) o)
      (and_right (orderly c level fourth third second before b) (orderly_after c level third second before b bs) o)
      (ap (λ (t : Bool). is_break b && t) h.0 ∙ none_of (is_break b))
      h.1
      (role c b)
      refl
  goes (b ∷ bs) (released from) fourth third second before place h o =
      taken_level b bs (goes bs) fourth third second before place (and_left (orderly c level fourth third second before b) (orderly_after c level third second before b bs) o)
      (and_right (orderly c level fourth third second before b) (orderly_after c level third second before b bs) o) h.0 h.1 from (role c b)
  goes (b ∷ bs) passing fourth third second before place h o =
      passing_level b bs (goes bs) fourth third second before place (and_left (orderly c level fourth third second before b) (orderly_after c level third second before b bs) o)
      (and_right (orderly c level fourth third second before b) (orderly_after c level third second before b bs) o) h (is_break b) refl

  -- before the first byte
  pub orderly_leveled : (s : List ℕ) (start : ℕ) → orderly_after c level 0 0 0 0 (drop start s) ≡ true → leveled level (tokens_at c s start) ≡ none
  unfolding tokens_at tokens is_break member
  orderly_leveled s start o =
      goes (drop start s) inside 0 0 0 0 start
      (quiet 0 0 0 0 refl zero_unended, ap (λ (t : Bool). t && not (releases c 0)) (plain_releases 0 zero_plain))
      o
    where
      step : (r : Role) → serves r ≡ false → is_terminator r ≡ false
      step (Separator rank) k = absurd (false≢true (sym k))
      step Release k = refl
      step Plain k = refl

      zero_unended : is_terminator (role c 0) ≡ false
      zero_unended = step (role c 0) (sym (service_serves c 0) ∙ zero_plain)

-- the whole test
pub all_orderly_leveled : (c : Characters) (level : ℕ) (s : List ℕ) (start : ℕ) → all_orderly c level (drop start s) ≡ true
    → leveled level (tokens_at c s start) ≡ none
unfolding all_orderly opening_orderly orderly_after
all_orderly_leveled c level s start h =
    let (apart, o) = opened (drop start s) h in orderly_leveled c level apart s start o
  where
    opened : (bytes : List ℕ) → all_orderly c level bytes ≡ true → (service_apart c ≡ true) × (orderly_after c level 0 0 0 0 bytes ≡ true)
    opened [] k = absurd (false≢true k)
    opened (a ∷ []) k = absurd (false≢true k)
    opened (a ∷ b ∷ []) k = absurd (false≢true k)
    opened (a ∷ b ∷ d ∷ []) k = absurd (false≢true k)
    opened (a ∷ b ∷ d ∷ e ∷ bs) k =
        step (service_apart c) (orderly c level 0 0 0 0 a) (orderly c level 0 0 0 a b) (orderly c level 0 0 a b d) (orderly c level 0 a b d e)
        (orderly_after c level a b d e bs) k
      where
        step : (p q r s t u : Bool) → ((p && ((q && r) && (s && t))) && u) ≡ true → (p ≡ true) × ((q && (r && (s && (t && u)))) ≡ true)
        step true true true true true u m = (refl, m)
        step true true true true false u m = absurd (false≢true m)
        step true true true false t u m = absurd (false≢true m)
        step true true false s t u m = absurd (false≢true m)
        step true false r s t u m = absurd (false≢true m)
        step false q r s t u m = absurd (false≢true m)
