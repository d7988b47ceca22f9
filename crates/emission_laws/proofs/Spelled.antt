-- What the machine emits is the trimmed contents, spelled: what it still has to emit of a part, by the depth of the part. Assumes nothing.
use Prim.Native.Nat.{ℕ, zero, suc, ◌+◌, ◌-◌, ◌≤◌, ◌<◌}
use native.Mathlib.Omega.{arith}
use mathlib.Core.Path.{◌≡◌, refl, sym, ap, ap₂, ◌∙◌}
use mathlib.Core.Bool.{true, false, false≢true}
use mathlib.Core.List.{List, [], ◌∷◌, ◌++◌, map, append_assoc, append-nil}
use lib.Dec.{leb}
use lib.ListN.{replicate}
use borrow.Author.Tests.{leb-true, leb-false, le-leb, not-false}
use Rattle.lists.specs.Lists.{is_empty, all, gather, through, cut, last_or, beyond}
use Rattle.lists.proofs.Texts.{and_left}
use Rattle.lists.proofs.Pieces.{cut_first, beyond_hit, beyond_miss}
use Rattle.characters.specs.declared.Characters.{Characters}
use Rattle.values.specs.Tokens.{Token, byte, separator, fault, ends, ends_part, Segment, segments}
use Rattle.values.specs.Values.{ended_by, ends_inside}
use Rattle.values.specs.Trimming.{contents_of}
use Rattle.values.proofs.Ends.{ended_next}
use Rattle.values.specs.Spelling.{separator_of, spell_byte, spell_segment, spell}
use Rattle.emission_laws.specs.declared.Held.{Held}
use Rattle.emission_laws.specs.Emission.{nothing, separated, held_next, let_out, spelled_next, emitted}
use Rattle.emission_laws.proofs.Cases.{by_spelling, known}
use Rattle.emission_laws.proofs.Runs.{held, held_none, held_more, held_full}
use Rattle.emission_laws.proofs.Parts.{byte_within, fault_within, separator_ends, through_hit, through_miss, text_of, text_none, text_step, text_byte, text_fault, text_separator, contents_spelled}

-- ---- what is held back, by the depth of what it separates

abbrev held_at : Held → ℕ → ℕ
held_at h zero = h.components
held_at h (suc zero) = h.repeats
held_at h (suc (suc zero)) = h.elements
held_at h (suc (suc (suc depth))) = 0

-- after the separator of a depth: one more of its own, none of those of parts in it, and all others
separated_own : (h : Held) (end : ℕ) → end ≤ 2 → held_at (separated h (3 - end)) end ≡ held_at h end + 1
unfolding separated
separated_own h zero k = refl
separated_own h (suc zero) k = refl
separated_own h (suc (suc zero)) k = refl
separated_own h (suc (suc (suc end))) k = absurd (omega arith)

separated_inner : (h : Held) (end n : ℕ) → end ≤ 2 → n < end → held_at (separated h (3 - end)) n ≡ 0
unfolding separated
separated_inner h zero n k l = absurd (omega arith)
separated_inner h (suc zero) zero k l = refl
separated_inner h (suc zero) (suc n) k l = absurd (omega arith)
separated_inner h (suc (suc zero)) zero k l = refl
separated_inner h (suc (suc zero)) (suc zero) k l = refl
separated_inner h (suc (suc zero)) (suc (suc n)) k l = absurd (omega arith)
separated_inner h (suc (suc (suc end))) n k l = absurd (omega arith)

separated_outer : (h : Held) (end n : ℕ) → end ≤ 2 → end < n → held_at (separated h (3 - end)) n ≡ held_at h n
unfolding separated
separated_outer h end zero k l = absurd (omega arith)
separated_outer h zero (suc zero) k l = refl
separated_outer h (suc end) (suc zero) k l = absurd (omega arith)
separated_outer h zero (suc (suc zero)) k l = refl
separated_outer h (suc zero) (suc (suc zero)) k l = refl
separated_outer h (suc (suc end)) (suc (suc zero)) k l = absurd (omega arith)
separated_outer h end (suc (suc (suc n))) k l = refl

module _ (c : Characters) where
  -- ---- inside a segment

  -- the rest of a part, spelled, with separators held back: its first part, and those after it
  unfoldable within : (n : ℕ) → Held → List Token → List ℕ
  within zero h g = text_of c 0 g
  within (suc n) h g =
      held (held_at h n) (separator_of c n)
      (within n h (through (ends_part n) g) ++ held 1 (separator_of c n) (text_of c (suc n) (beyond (ends_part n) g)))

  -- where no separator of parts in it is held back, the rest is all of it
  within_none : (n : ℕ) (h : Held) → ((k : ℕ) → k < n → held_at h k ≡ 0) → (g : List Token) → within n h g ≡ text_of c n g
  unfolding within
  within_none zero h z g = refl
  within_none (suc n) h z g =
      let others : List ℕ = held 1 (separator_of c n) (text_of c (suc n) (beyond (ends_part n) g)) in
      ap (λ (k : ℕ). held k (separator_of c n) (within n h (through (ends_part n) g) ++ others)) (z n (omega arith))
      ∙ held_none (separator_of c n) (within n h (through (ends_part n) g) ++ others)
      ∙ ap (λ (l : List ℕ). l ++ others) (within_none n h (λ k l. z k (omega (arith, l))) (through (ends_part n) g))
      ∙ sym (text_step c n g)

  nothing_held : (k : ℕ) → held_at nothing k ≡ 0
  nothing_held zero = refl
  nothing_held (suc zero) = refl
  nothing_held (suc (suc zero)) = refl
  nothing_held (suc (suc (suc k))) = refl

  within_start : (n : ℕ) (g : List Token) → within n nothing g ≡ text_of c n g
  within_start n g = within_none n nothing (λ k l. nothing_held k) g

  -- the rest of a part whose first token does not end the first part in it
  within_miss : (n : ℕ) (h : Held) (t : Token) (g : List Token) → ends_part n t ≡ false
      → within (suc n) h (t ∷ g)
      ≡ held (held_at h n) (separator_of c n)
      (within n h (t ∷ through (ends_part n) g) ++ held 1 (separator_of c n) (text_of c (suc n) (beyond (ends_part n) g)))
  unfolding within
  within_miss n h t g e =
      ap₂ (λ (first rest : List Token).
      held (held_at h n) (separator_of c n) (within n h first ++ held 1 (separator_of c n) (text_of c (suc n) rest)))
      (through_miss (ends_part n) t g e)
      (beyond_miss (ends_part n) refl e)

  -- and of one whose first token does
  within_hit : (n : ℕ) (h : Held) (t : Token) (g : List Token) → ends_part n t ≡ true
      → within (suc n) h (t ∷ g) ≡ held (held_at h n) (separator_of c n) (within n h (t ∷ []) ++ held 1 (separator_of c n) (text_of c (suc n) g))
  unfolding within
  within_hit n h t g e =
      ap₂ (λ (first rest : List Token).
      held (held_at h n) (separator_of c n) (within n h first ++ held 1 (separator_of c n) (text_of c (suc n) rest)))
      (through_hit (ends_part n) t g e)
      (beyond_hit (ends_part n) refl e)

  -- ---- a byte of a value lets out what is held back

  -- the separators that are held back in front of a part
  abbrev out : ℕ → Held → List ℕ
  out zero h = []
  out (suc n) h = replicate (held_at h n) (separator_of c n) ++ out n h

  -- what a byte spells is not empty
  spells : (front : List ℕ) (b : ℕ) (s r : List ℕ) → is_empty ((front ++ (spell_byte c b ++ s)) ++ r) ≡ false
  unfolding is_empty
  spells [] b s r = by_spelling (λ z. is_empty ((z ++ s) ++ r) ≡ false) c b refl refl
  spells (x ∷ front) b s r = refl

  within_byte : (n : ℕ) (h : Held) (b from place : ℕ) (g : List Token)
      → within n h (byte b from place ∷ g) ≡ out n h ++ (spell_byte c b ++ text_of c n g)
  unfolding within
  within_byte zero h b from place g = text_byte c 0 b from place g
  within_byte (suc n) h b from place g =
      let x : ℕ = separator_of c n in
      let first : List ℕ = text_of c n (through (ends_part n) g) in
      let others : List ℕ = held 1 x (text_of c (suc n) (beyond (ends_part n) g)) in
      within_miss n h (byte b from place) g (byte_within n b from place)
      ∙ ap (λ (l : List ℕ). held (held_at h n) x (l ++ others)) (within_byte n h b from place (through (ends_part n) g))
      ∙ held_full (held_at h n) x ((out n h ++ (spell_byte c b ++ first)) ++ others) (spells (out n h) b first others)
      ∙ ap (λ (l : List ℕ). replicate (held_at h n) x ++ l)
      (append_assoc (out n h) (spell_byte c b ++ first) others
      ∙ ap (λ (l : List ℕ). out n h ++ l) (append_assoc (spell_byte c b) first others ∙ ap (λ (l : List ℕ). spell_byte c b ++ l) (sym (text_step c n g))))
      ∙ sym (append_assoc (replicate (held_at h n) x) (out n h) (spell_byte c b ++ text_of c (suc n) g))

  -- in a segment these are all of them
  out_all : (h : Held) → out 3 h ≡ let_out c h
  unfolding let_out
  out_all h =
      ap (λ (l : List ℕ). replicate h.elements c.element ++ (replicate h.repeats c.repetition ++ l))
      (append-nil (replicate h.components c.component))

  segment_byte : (h : Held) (b from place : ℕ) (g : Segment)
      → within 3 h (byte b from place ∷ g) ≡ spelled_next c h (byte b from place) ++ within 3 nothing g
  unfolding spelled_next
  segment_byte h b from place g =
      within_byte 3 h b from place g
      ∙ ap₂ (λ (l m : List ℕ). l ++ (spell_byte c b ++ m)) (out_all h) (sym (within_start 3 g))
      ∙ sym (append_assoc (let_out c h) (spell_byte c b) (within 3 nothing g))

  within_fault : (n : ℕ) (h : Held) (place : ℕ) (g : List Token) → within n h (fault place ∷ g) ≡ within n h g
  unfolding within
  within_fault zero h place g = text_fault c 0 place g
  within_fault (suc n) h place g =
      within_miss n h (fault place) g (fault_within n place)
      ∙ ap (λ (l : List ℕ).
      held (held_at h n) (separator_of c n) (l ++ held 1 (separator_of c n) (text_of c (suc n) (beyond (ends_part n) g))))
      (within_fault n h place (through (ends_part n) g))

  -- ---- separators

  -- what ends a part right away drops what is held back
  within_ended : (n end : ℕ) → n ≤ suc end → end ≤ 3 → (h : Held) (place : ℕ) → within n h (separator (3 - end) place ∷ []) ≡ []
  unfolding within held
  within_ended zero end l k h place = text_separator c (3 - end) place
  within_ended (suc n) end l k h place =
      let t : Token = separator (3 - end) place in
      within_hit n h t [] (separator_ends n end place k ∙ le-leb n end (omega arith))
      ∙ ap₂ (λ (first rest : List ℕ). held (held_at h n) (separator_of c n) (first ++ held 1 (separator_of c n) rest))
      (within_ended n end (omega arith) k h place)
      (text_none c (suc n))

  -- the separator of a depth is held back after those of its own, and drops those of parts in it
  within_own : (end : ℕ) → end ≤ 2 → (h : Held) (place : ℕ) (g : List Token)
      → within (suc end) h (separator (3 - end) place ∷ g) ≡ within (suc end) (separated h (3 - end)) g
  unfolding within
  within_own end k h place g =
      let x : ℕ = separator_of c end in
      let after : Held = separated h (3 - end) in
      let others : List ℕ = held 1 x (text_of c (suc end) (beyond (ends_part end) g)) in
      within_hit end h (separator (3 - end) place) g (separator_ends end end place (omega arith) ∙ le-leb end end (omega arith))
      ∙ ap (λ (l : List ℕ). held (held_at h end) x (l ++ held 1 x (text_of c (suc end) g))) (within_ended end end (omega arith) (omega arith) h place)
      ∙ held_more (held_at h end) x (text_of c (suc end) g)
      ∙ ap₂ (λ (m : ℕ) (l : List ℕ). held m x l) (sym (separated_own h end k))
      (text_step c end g
      ∙ ap (λ (l : List ℕ). l ++ others) (sym (within_none end after (λ n l. separated_inner h end n k l) (through (ends_part end) g))))

  -- and leaves those of deeper parts
  within_separator : (n end : ℕ) → end ≤ 2 → end < n → (h : Held) (place : ℕ) (g : List Token)
      → within n h (separator (3 - end) place ∷ g) ≡ within n (separated h (3 - end)) g
  unfolding within
  within_separator zero end k l h place g = absurd (omega arith)
  within_separator (suc n) end k l h place g = step (leb n end) refl (λ m. within_separator n end k m h place (through (ends_part n) g))
    where
      step : (b : _) → leb n end ≡ b
          → (end < n → within n h (separator (3 - end) place ∷ through (ends_part n) g) ≡ within n (separated h (3 - end)) (through (ends_part n) g))
          → within (suc n) h (separator (3 - end) place ∷ g) ≡ within (suc n) (separated h (3 - end)) g
      step true e more =
          let low : n ≤ end = leb-true n end e in
          let same : n ≡ end = omega arith in
          rw same (within_own end k h place g)
      step false e more =
          let deeper : end < n = leb-false n end e in
          let others : List ℕ = held 1 (separator_of c n) (text_of c (suc n) (beyond (ends_part n) g)) in
          within_miss n h (separator (3 - end) place) g (separator_ends n end place (omega arith) ∙ e)
          ∙ ap₂ (λ (m : ℕ) (l : List ℕ). held m (separator_of c n) (l ++ others)) (sym (separated_outer h end n k deeper)) (more deeper)

  -- ---- segment by segment

  -- the terminator of the first segment, and all segments after it
  abbrev following : List Token → List ℕ
  following ts = c.terminator ∷ spell c (map contents_of (segments (beyond (ends 0) ts)))

  spell_first : (t : Token) (ts : List Token)
      → spell c (map contents_of (segments (t ∷ ts))) ≡ within 3 nothing (through (ends 0) (t ∷ ts)) ++ following (t ∷ ts)
  unfolding spell gather segments
  spell_first t ts =
      let g : Segment = through (ends 0) (t ∷ ts) in
      let others : List ℕ = spell c (map contents_of (segments (beyond (ends 0) (t ∷ ts)))) in
      ap (λ (gs : List Segment). gather (spell_segment c) (map contents_of gs)) (cut_first (ends 0) t ts)
      ∙ ap (λ (l : List ℕ). l ++ others) (contents_spelled c g ∙ ap (λ (l : List ℕ). l ++ c.terminator ∷ []) (sym (within_start 3 g)))
      ∙ append_assoc (within 3 nothing g) (c.terminator ∷ []) others

  -- the machine emits the rest of the segment in which it stands, and all segments after it
  emits : (ts : List Token) → ended_by 0 ts ≡ true → all known ts ≡ true → (h : Held)
      → emitted c h ts ≡ within 3 h (through (ends 0) ts) ++ following ts
  unfolding emitted spelled_next held_next separated through beyond ends ended_by last_or all known spell gather segments cut
  emits [] e a h = absurd (false≢true e)
  emits (byte b from place ∷ ts) e a h =
      ap (λ (l : List ℕ). spelled_next c h (byte b from place) ++ l) (emits ts (ended_next 0 (byte b from place) ts refl e) a nothing)
      ∙ sym (ap (λ (l : List ℕ). l ++ following ts) (segment_byte h b from place (through (ends 0) ts)) ∙ append_assoc (spelled_next c h (byte b from place)) _ _)
  emits (separator zero place ∷ []) e a h =
      sym (ap (λ (l : List ℕ). l ++ following (separator zero place ∷ [])) (within_ended 3 3 (omega arith) (omega arith) h place))
  emits (separator zero place ∷ t ∷ ts) e a h =
      ap (λ (l : List ℕ). c.terminator ∷ l) (emits (t ∷ ts) e a nothing ∙ sym (spell_first t ts))
      ∙ sym (ap (λ (l : List ℕ). l ++ following (separator zero place ∷ t ∷ ts)) (within_ended 3 3 (omega arith) (omega arith) h place))
  emits (separator (suc zero) place ∷ ts) e a h =
      emits ts (ended_next 0 (separator 1 place) ts refl e) a (separated h 1)
      ∙ sym (ap (λ (l : List ℕ). l ++ following ts) (within_separator 3 2 (omega arith) (omega arith) h place (through (ends 0) ts)))
  emits (separator (suc (suc zero)) place ∷ ts) e a h =
      emits ts (ended_next 0 (separator 2 place) ts refl e) a (separated h 2)
      ∙ sym (ap (λ (l : List ℕ). l ++ following ts) (within_separator 3 1 (omega arith) (omega arith) h place (through (ends 0) ts)))
  emits (separator (suc (suc (suc zero))) place ∷ ts) e a h =
      emits ts (ended_next 0 (separator 3 place) ts refl e) a (separated h 3)
      ∙ sym (ap (λ (l : List ℕ). l ++ following ts) (within_separator 3 0 (omega arith) (omega arith) h place (through (ends 0) ts)))
  emits (separator (suc (suc (suc (suc n)))) place ∷ ts) e a h =
      let low : suc (suc (suc (suc n))) ≤ 3 = leb-true (suc (suc (suc (suc n)))) 3 (and_left (leb (suc (suc (suc (suc n)))) 3) (all known ts) a) in
      absurd (omega arith)
  emits (fault place ∷ ts) e a h =
      emits ts (ended_next 0 (fault place) ts refl e) a h
      ∙ sym (ap (λ (l : List ℕ). l ++ following ts) (within_fault 3 h place (through (ends 0) ts)))

  -- the trimmed contents of tokens that do not end inside a segment, spelled, are what the machine emits
  pub spelled_emitted : (ts : List Token) → ends_inside ts ≡ false → all known ts ≡ true
      → spell c (map contents_of (segments ts)) ≡ emitted c nothing ts
  unfolding ends_inside is_empty spell gather segments cut emitted
  spelled_emitted [] h a = refl
  spelled_emitted (t ∷ ts) h a = spell_first t ts ∙ sym (emits (t ∷ ts) (not-false (ended_by 0 (t ∷ ts)) h) a nothing)
