-- A run of ordinary bytes is spelled as it stands, byte by byte. Assumes nothing.
use Prim.Native.Nat.{ℕ, zero, suc, ◌+◌, ◌-◌, ◌≤◌, ◌<◌}
use mathlib.Core.Path.{◌≡◌, refl, sym, ap, ap₂, ◌∙◌}
use mathlib.Core.Bool.{Bool, true, false, ◌&&◌, ◌||◌, false≢true, and-false}
use mathlib.Core.List.{List, [], ◌∷◌, ◌++◌}
use native.Mathlib.Omega.{arith}
use native.Mathlib.Decide.{dec_le}
use native.Mathlib.Nat.{lt_of_not-le}
use lib.Dec.{eqb}
use lib.ListN.{length, get_or, set, take, drop, length-drop}
use lib.Seq.{sets, take-suc, get_or-drop, length-take-le}
use borrow.Author.Tests.{ne_eqb, not-true}
use Rattle.lists.proofs.Numbers.{drop_next}
use Rattle.lists.proofs.Texts.{and_left, and_right, or_none_left, or_none_right, if_false}
use Rattle.characters.specs.declared.Characters.{Characters}
use Rattle.characters.specs.declared.Role.TheVariants.{Plain}
use Rattle.characters.specs.Characters.{role, is_service}
use Rattle.values.specs.Tokens.{byte, separator, tokens_at}
use Rattle.values.specs.Spelling.{spell_byte}
use Rattle.values.proofs.Steps.{at_plain}
use Rattle.spelling_laws.proofs.Service.{serves, service_serves}
use Rattle.emission_laws.specs.declared.Measure.{Measure}
use Rattle.emission_laws.specs.Emission.{nothing, separated, let_out, emitted, held_next, held_after, after}
use Rattle.emission_laws.proofs.Steps.{byte_first}
use Rattle.storing.specs.Sinks.{SinkLaws}
use Rattle.storing.specs.Kept.{stored_laws}
use Rattle.storing.proofs.Putting.{put_after}
use Rattle.ordinary_runs.specs.Runs.{is_ordinary, quiet, Run, RunFits}

-- ---- under quiet characters an ordinary byte is no service character

module _ (c : Characters) (q : quiet c ≡ true) (b : ℕ) (o : is_ordinary b ≡ true) where
  apart : (x : ℕ) → is_ordinary x ≡ false → eqb b x ≡ false
  apart x f = ne_eqb b x (λ e. false≢true (sym f ∙ ap is_ordinary (sym e) ∙ o))

  pub role_plain : role c b ≡ Plain
  unfolding role quiet
  role_plain =
      let C = is_ordinary c.component in
      let E = is_ordinary c.element in
      let L = is_ordinary c.release in
      let R = is_ordinary c.repetition in
      let T = is_ordinary c.terminator in
      let all = not-true (C || (E || (L || (R || T)))) q in
      let e = or_none_right C (E || (L || (R || T))) all in
      let l = or_none_right E (L || (R || T)) e in
      let r = or_none_right L (R || T) l in
      simp (
        apart c.terminator (or_none_right R T r),
        apart c.element (or_none_left E (L || (R || T)) e),
        apart c.repetition (or_none_left R T r),
        apart c.component (or_none_left C (E || (L || (R || T))) all),
        apart c.release (or_none_left L (R || T) l),
        and-false,
      )

  unserved : is_service c b ≡ false
  unserved = service_serves c b ∙ ap serves role_plain

-- ---- a run

-- it lies in the input
pub run_inside : {calm : Bool} (s : List ℕ) {from to : ℕ} → Run calm s from to → from ≤ length s → to ≤ length s
run_inside s {from} {to} (h, o) i =
    elim (dec_le to from) [
      | yes k ↦ omega arith
      | no k ↦ let (c, l, p) = o (to - 1) (omega (arith, lt_of_not-le k)) (omega (arith, lt_of_not-le k)) in omega arith
    ]

-- it is emitted as it stands
module _ (c n : Characters) (s : List ℕ) {calm : Bool} (q : calm ≡ (quiet c && quiet n)) where
  step : (k at : ℕ) → ((p : ℕ) → at ≤ p → p < at + k → (calm ≡ true) × (p < length s) × (is_ordinary (get_or s p 0) ≡ true))
      → emitted n nothing (tokens_at c s at) ≡ take k (drop at s) ++ emitted n nothing (tokens_at c s (at + k))
  unfolding let_out spell_byte
  step zero at h = let there : at ≡ at + 0 = omega arith in ap (λ (p : ℕ). emitted n nothing (tokens_at c s p)) there
  step (suc k) at h =
      let (calm-is, inside, o) = h at (omega arith) (omega arith) in
      let both = sym q ∙ calm-is in
      let b = get_or s at 0 in
      let there : at + 1 + k ≡ at + suc k = omega arith in
      ap (emitted n nothing) (at_plain c s at inside (role_plain c (and_left (quiet c) (quiet n) both) b o))
      ∙ byte_first n nothing b at at (tokens_at c s (at + 1))
      ∙ ap₂ (λ (l m : List ℕ). l ++ m) (if_false (is_service n b) (n.release ∷ b ∷ []) (b ∷ []) (unserved n (and_right (quiet c) (quiet n) both) b o))
      (step k (at + 1) (λ p x y. h p (omega arith) (omega arith)))
      ∙ ap₂ (λ (l : List ℕ) (p : ℕ). take (suc k) l ++ emitted n nothing (tokens_at c s p)) (sym (drop_next s at inside)) there

  pub run_text : {from to : ℕ} → Run calm s from to
      → emitted n nothing (tokens_at c s from) ≡ take (to - from) (drop from s) ++ emitted n nothing (tokens_at c s to)
  run_text {from} {to} (h, o) =
      let there : from + (to - from) ≡ to = omega arith in
      step (to - from) from (λ p x y. o p x (omega arith))
      ∙ ap (λ (p : ℕ). take (to - from) (drop from s) ++ emitted n nothing (tokens_at c s p)) there

module _ (s : List ℕ) {from at : ℕ} (l : from ≤ at) where
  -- it has its bytes
  pub run_length : at ≤ length s → length (take (at - from) (drop from s)) ≡ at - from
  run_length h = length-take-le (at - from) (drop from s) (omega (arith, length-drop from s))

  -- there is room for a byte more
  pub run_room : {calm : Bool} (into room : ℕ) → RunFits calm s from into room → Run calm s from (at + 1) → into + (at - from) < room
  run_room into room fits run = omega (arith, fits (at + 1) run)

-- ---- a run is put, into any sink

module _ {holds : List ℕ → ℕ → List ℕ → List ℕ} {room : List ℕ → ℕ} (laws : SinkLaws holds room) (s : List ℕ) where
  -- nothing of it
  pub empty_run_put : (from into : ℕ) (buffer : List ℕ) → buffer ≡ holds buffer into (take (from - from) (drop from s))
  empty_run_put from into buffer =
      let none : 0 ≡ from - from = omega arith in
      sym (laws.none buffer into) ∙ ap (λ (k : ℕ). holds buffer into (take k (drop from s))) none

  -- a byte more
  pub longer_run_put : {from at : ℕ} → from ≤ at → (buffer : List ℕ) (into : ℕ) {front whole : List ℕ} {to : ℕ} → at < length s
      → front ≡ holds buffer into (take (at - from) (drop from s)) → to ≡ into + (at - from) → whole ≡ holds front to (get_or s at 0 ∷ [])
      → whole ≡ holds buffer into (take (at + 1 - from) (drop from s))
  longer_run_put {from} {at} l buffer into h e d last =
      let passed = take (at - from) (drop from s) in
      let next : at + 1 - from ≡ suc (at - from) = omega arith in
      let there : from + (at - from) ≡ at = omega arith in
      put_after laws buffer into passed (get_or s at 0 ∷ []) e (d ∙ ap (λ (k : ℕ). into + k) (sym (run_length s l (omega arith)))) last
      ∙ sym (ap (λ (k : ℕ). holds buffer into (take k (drop from s))) next
      ∙ ap (holds buffer into) (take-suc (drop from s) (at - from) 0 (omega (arith, length-drop from s)))
      ∙ ap (λ (b : ℕ). holds buffer into (passed ++ (b ∷ []))) (get_or-drop from s (at - from) 0 ∙ ap (λ (k : ℕ). get_or s k 0) there))

-- the same where it is stored
pub none_stored : (s : List ℕ) (from into : ℕ) (buffer : List ℕ) → buffer ≡ sets buffer into (take (from - from) (drop from s))
none_stored s = empty_run_put stored_laws s

pub run_stored : (s : List ℕ) {from at : ℕ} → from ≤ at → (buffer : List ℕ) (into : ℕ) {stored : List ℕ} {to : ℕ} → at < length s
    → stored ≡ sets buffer into (take (at - from) (drop from s)) → to ≡ into + (at - from)
    → set stored to (get_or s at 0) ≡ sets buffer into (take (at + 1 - from) (drop from s))
run_stored s l buffer into h e d = longer_run_put stored_laws s l buffer into h e d refl

-- ---- the run, from a place on

module _ (s : List ℕ) (from : ℕ) where
  pub run_none : {calm : Bool} → Run calm s from from
  run_none = (omega arith, λ k l m. absurd (omega arith))

  pub run_next_lem : {calm : Bool} {at : ℕ} → calm ≡ true → Run calm s from at → at < length s → is_ordinary (get_or s at 0) ≡ true → Run calm s from (at + 1)
  run_next_lem {calm} {at} t (h, o) i e = (
    omega arith,
    λ k l m. elim (dec_le (k + 1) at) [
      | yes q ↦ o k l (omega arith)
      | no q ↦ let w : k ≡ at = omega (arith, lt_of_not-le q) in (t, omega arith, ap (λ (p : ℕ). is_ordinary (get_or s p 0)) w ∙ e)
    ],
  )

-- after a byte of a value nothing is held back
pub none_held : (n : Characters) (m : Measure) (b : ℕ) {l : Measure} → l ≡ after n m (byte b 0 0 ∷ []) → l.held ≡ nothing
unfolding after held_after held_next
none_held n m b e = ap (λ (v : Measure). v.held) e

-- and after a terminator
pub none_after : (n : Characters) (m : Measure) {rank : ℕ} {l : Measure} → rank ≡ 0 → l ≡ after n m (separator rank 0 ∷ []) → l.held ≡ nothing
unfolding after held_after held_next separated
none_after n m e d = ap (λ (v : Measure). v.held) d ∙ ap (separated m.held) e
