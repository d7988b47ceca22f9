-- Bytes between which nothing is idle, up to the last one of a value, are a clear part: they are emitted as they stand, without line breaks.
-- Assumes nothing.
use Rattle.std.specs.Prelude.{if◌then◌else◌}
use Prim.Native.Nat.{ℕ, zero, suc, ◌+◌, ◌-◌, ◌≤◌, ◌<◌}
use mathlib.Core.Path.{◌≡◌, refl, sym, ap, subst, ◌∙◌}
use mathlib.Core.Bool.{Bool, true, false, not}
use mathlib.Core.List.{List, ◌∷◌, ◌++◌}
use native.Mathlib.Omega.{arith}
use native.Mathlib.Decide.{dec_le}
use native.Mathlib.Nat.{lt_of_not-le}
use native.Mathlib.Numerals.{add-one}
use lib.Dec.{leb}
use lib.ListN.{length, get_or, take, drop}
use lib.Seq.{slice-cons, slice_empty}
use borrow.Author.Tests.{le-leb}
use Rattle.lists.specs.Lists.{those, all}
use Rattle.lists.proofs.Numbers.{drop_next}
use Rattle.characters.specs.declared.Characters.{Characters}
use Rattle.characters.specs.Characters.{is_service}
use Rattle.values.specs.Tokens.{Token, inside, tokens, tokens_at}
use Rattle.values.specs.Values.{is_fault}
use Rattle.stages.specs.Contents.{normal_characters}
use Rattle.emission_laws.specs.Emission.{nothing, let_out, emitted}
use Rattle.line_breaks.specs.Unbroken.{unbroken}
use Rattle.verbatim.specs.Verbatim.{is_normal, faultless, is_visible, visible, Sound}
use Rattle.verbatim.proofs.Held.{nothing_kept}
use Rattle.verbatim.proofs.Emitted.{Printed, normal_printed, named, led_by, after_release, Keeps, Stands, stands_on, value_stands, Leads, leads_on, value_leads}
use Rattle.clear_parts.specs.Clear.{Clear, EndsInValue, ClearPart}

-- ---- nothing is idle from a place up to another

module _ (c : Characters) (s : List ℕ) {from : ℕ} where
  pub clear_none : Clear c s from from
  clear_none k l m = absurd (omega arith)

  -- nor in two parts, one after the other
  pub clear_more : {mid to : ℕ} → Clear c s from mid → Clear c s mid to → Clear c s from to
  clear_more {mid} f g k l m = elim (dec_le mid k) [ yes h ↦ g k h m | no h ↦ f k l (lt_of_not-le h) ]

  -- nor up to an earlier place
  pub clear_less : {to end : ℕ} → to ≤ end → Clear c s from end → Clear c s from to
  clear_less e g k l m = g k l (omega arith)

  -- the last byte has another after it
  pub clear_inside : {to : ℕ} → Clear c s from to → from < to → to ≤ length s
  clear_inside {to} g m = omega (arith, (g (to - 1) (omega arith) (omega arith)).0)

-- what holds at a place, and at each before it where it holds at the next
backwards : (P : ℕ → Type 0) {last : ℕ} (first count : ℕ) → first + count ≡ last → P last → ((at : ℕ) → first ≤ at → at < last → P (at + 1) → P at) → P first
backwards P first zero e p next = let there : first ≡ first + zero = omega arith in subst P (sym (there ∙ e)) p
backwards P first (suc count) e p next =
    next first (omega arith) (omega arith) (backwards P (first + 1) count (omega arith) p (λ at l m. next at (omega arith) m))

-- ---- what is emitted of a part whose last byte is one of a value

module _ (c : Characters) (s : List ℕ) (last : ℕ) (within : last + 1 ≤ length s) (bare : is_service c (get_or s last 0) ≡ false) (high : 32 ≤ get_or s last 0) where
  -- what is emitted after the part
  abbrev beyond : List ℕ
  beyond = emitted c nothing (tokens_at c s (last + 1))

  -- the bytes from a place on without line breaks, and then that
  abbrev text_from : ℕ → List ℕ
  text_from at = unbroken (drop at (take (last + 1) s)) ++ beyond

  text_end : text_from (last + 1) ≡ beyond
  unfolding unbroken those
  text_end = ap (λ (l : List ℕ). unbroken l ++ beyond) (slice_empty (last + 1) s)

  text_next : (at : ℕ) → at < last + 1 → led_by (get_or s at 0) (text_from (at + 1)) ≡ text_from at
  unfolding unbroken those
  text_next at h =
      step (leb 32 (get_or s at 0)) (unbroken (drop (at + 1) (take (last + 1) s)))
      ∙ sym (ap (λ (l : List ℕ). unbroken l ++ beyond)
      (slice-cons at (last + 1) s 0 h within ∙ ap (λ (k : ℕ). get_or s at 0 ∷ drop k (take (last + 1) s)) (sym (add-one at))))
    where
      step : (t : Bool) (bs : List ℕ) → (if t then get_or s at 0 ∷ (bs ++ beyond) else bs ++ beyond) ≡ (if t then get_or s at 0 ∷ bs else bs) ++ beyond
      step true bs = refl
      step false bs = refl

  -- the bytes from a place on stand as this text
  abbrev StandsAt : ℕ → Type 0
  StandsAt at = Stands c (get_or s at 0) at (drop at s) (text_from at)

  stands_at : (at : ℕ) → at < last + 1 → Stands c (get_or s at 0) at (get_or s at 0 ∷ drop (at + 1) s) (led_by (get_or s at 0) (text_from (at + 1))) → StandsAt at
  stands_at at h p =
      subst (λ (bs : List ℕ). Stands c (get_or s at 0) at bs (text_from at)) (sym (drop_next s at (omega arith)))
      (subst (Stands c (get_or s at 0) at (get_or s at 0 ∷ drop (at + 1) s)) (text_next at h) p)

  stands_last : StandsAt last
  unfolding tokens_at tokens
  stands_last =
      stands_at last (omega arith)
      (subst (λ (text : List ℕ). Stands c (get_or s last 0) last (get_or s last 0 ∷ drop (last + 1) s) (led_by (get_or s last 0) text)) (sym text_end)
      (value_stands c (get_or s last 0) last (drop (last + 1) s) bare (le-leb 32 (get_or s last 0) high)))

  module _ (from : ℕ) (first : from ≤ last) where
    -- what every token that is read from a place on is, every token after the part is
    leads : (t : Token → Bool) → all t (tokens_at c s from) ≡ true → all t (tokens_at c s (last + 1)) ≡ true
    unfolding tokens_at tokens
    leads t =
        let end = tokens_at c s (last + 1) in
        backwards (λ at. Leads t c at (drop at s) end) from (last - from) (omega arith)
        (subst (λ (bs : List ℕ). Leads t c last bs end) (sym (drop_next s last (omega arith)))
        (value_leads t c (get_or s last 0) last (drop (last + 1) s) bare (le-leb 32 (get_or s last 0) high)))
        (λ at l m go.
        subst (λ (bs : List ℕ). Leads t c at bs end) (sym (drop_next s at (omega arith)))
        (leads_on t c (get_or s at 0) at (drop (at + 1) s) end go))
        inside

    module _ (printed : Printed c) (g : Clear c s from last) (sound : Sound c s from) where
      stands : emitted c nothing (tokens_at c s from) ≡ text_from from
      unfolding tokens_at tokens Keeps after_release let_out
      stands =
          backwards StandsAt from (last - from) (omega arith) stands_last
          (λ at l m go.
          stands_at at (omega arith)
          (stands_on c printed (get_or s at 0) (get_or s (at + 1) 0) at (drop (at + 1) s) (text_from (at + 1)) (g at l m).1 go))
          inside nothing (λ rank q e. nothing_kept rank) sound.0 sound.1

      sound_after : Sound c s (last + 1)
      unfolding faultless visible
      sound_after = (leads (λ t. not (is_fault t)) sound.0, leads is_visible sound.1)

-- ---- clear parts

module _ (c : Characters) (repetition : ℕ) (s : List ℕ) where
  -- nothing is one
  pub part_none : (at : ℕ) → ClearPart c repetition s at at
  unfolding unbroken those
  part_none at =
      let onward = emitted (normal_characters c.mark repetition) nothing (tokens_at c s at) in
      (omega arith, λ i. i, λ sound. (ap (λ (l : List ℕ). unbroken l ++ onward) (sym (slice_empty at s)), sound))

  module _ (p : 32 ≤ repetition) (v : is_normal c repetition ≡ true) where
    part_some : {from last : ℕ} → from ≤ last → Clear c s from last → last + 1 ≤ length s → is_service c (get_or s last 0) ≡ false → 32 ≤ get_or s last 0
        → ClearPart c repetition s from (last + 1)
    part_some {from} {last} l g within bare high =
        let normal = named c repetition v in
        let printed = subst Printed normal (normal_printed c.mark repetition (le-leb 32 repetition p)) in (
          omega arith,
          λ i. within,
          λ sound. (
            subst (λ (m : Characters). emitted m nothing (tokens_at c s from) ≡ unbroken (drop from (take (last + 1) s)) ++ emitted m nothing (tokens_at c s (last + 1)))
                (sym normal) (stands c s last within bare high from l printed g sound),
            sound_after c s last within bare high from l printed g sound,
          ),
        )

    -- where nothing is idle up to a place, the bytes before an earlier place, at which a byte of a value ends, are a part
    pub part_back : {from to end : ℕ} → Clear c s from end → from ≤ to → to ≤ end → EndsInValue c s from to → ClearPart c repetition s from to
    part_back {from} {to} {end} g l m last =
        elim (dec_le to from) [
          | yes k ↦ let there : from ≡ to = omega arith in subst (ClearPart c repetition s from) there (part_none from)
          | no k ↦
              let later : from < to = lt_of_not-le k in
              let there : to - 1 + 1 ≡ to = omega arith in
              subst (ClearPart c repetition s from) there
              (part_some {last = to - 1} (omega arith) (clear_less c s (omega arith) g) (omega (arith, clear_inside c s g (omega arith))) (last later).0 (last later).1)
        ]
