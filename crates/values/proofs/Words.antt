-- How bytes are read, byte by byte, and where a segment, an element and a value end. Assumes nothing.
use Prim.Native.Nat.{ℕ, zero, suc, ◌+◌, ◌≤◌}
use mathlib.Core.Path.{◌≡◌, refl, sym, ap, ◌∙◌}
use mathlib.Core.Bool.{Bool, true, false, not, false≢true}
use mathlib.Core.List.Memᴰ
use mathlib.Core.List.{List, [], ◌∷◌, ◌++◌, append-nil, append_assoc, nil≢cons, cons≢nil, head-eq_of_cons-eq, Memᴰ}
use mathlib.Core.Option.{none, some}
use mathlib.Core.Logic.{inl, inr, ⊎_elim}
use native.Mathlib.Omega.{arith}
use borrow.Author.Tests.{leb-true, le-leb, ne_eqb}
use Rattle.lists.specs.Lists.{member, is_empty, through, at, last_or, cut, each_led_by, joined, gather, maybe, all}
use Rattle.lists.proofs.Pieces.{cut_append, cut_none, cut_first}
use Rattle.lists.proofs.Tests.{Says, says_both, says_not, says_as, says_all, last_stands, last_is, never_empty}
use Rattle.characters.specs.declared.Characters.{Characters}
use Rattle.characters.specs.declared.Role.{Role}
use Rattle.characters.specs.declared.Role.TheVariants.{Separator, Release, Plain}
use Rattle.characters.specs.Characters.{is_service, role, is_break}
use Rattle.characters.proofs.Words.{Usable, break_says, terminator_role, element_role, repetition_role, component_role, release_role, plain_role, service_role}
use Rattle.values.specs.Tokens.{Token, byte, separator, fault, inside, released, passing, unreleased, reading, taken, tokens_from, tokens, ends, place_of, Segment, segments, start, ends_part}
use Rattle.nesting.specs.Nesting.{nested, spelled, trim}
use Rattle.values.specs.Values.{byte_of, bytes_of, value_of, values_of, repeats_of, elements_of, is_fault, ended_by, ends_inside, finished}
use Rattle.values.specs.Trimming.{trim_repeat, trim_element, trim_segment, value_at}
use Rattle.values.specs.Spelling.{Bytes, SegmentList, separator_of, spell_byte, spell_value, spell_repeat, spell_element, spell_segment, spell, leads_break, begins_broken, spell_apart}
use Rattle.values.proofs.Steps.{tokens_role}
pub use Rattle.values.specs.Notions.{Unended, LeadsBreak}

module _ (c : Characters) (u : Usable c) (place : ℕ) where
  pub read_end : tokens c place [] ≡ []
  unfolding tokens tokens_from
  read_end = refl

  -- "An unreleased terminator ends a segment, an element separator an element, a component separator a component."; request 2026-10: a
  -- repetition separator, where there is one, ends a repeat
  pub read_separators : (more : List ℕ)
      → (tokens c place (c.terminator ∷ more) ≡ separator 0 place ∷ tokens_from c passing (place + 1) more)
      × (tokens c place (c.element ∷ more) ≡ separator 1 place ∷ tokens c (place + 1) more)
      × ((c.repetition ≡ 32 → ⊥) → tokens c place (c.repetition ∷ more) ≡ separator 2 place ∷ tokens c (place + 1) more)
      × (tokens c place (c.component ∷ more) ≡ separator 3 place ∷ tokens c (place + 1) more)
  unfolding tokens unreleased reading
  read_separators more = (
    tokens_role c place c.terminator more (Separator 0) (terminator_role c u),
    tokens_role c place c.element more (Separator 1) (element_role c u),
    λ n. tokens_role c place c.repetition more (Separator 2) (repetition_role c u n),
    tokens_role c place c.component more (Separator 3) (component_role c u),
  )

  -- "Carriage returns and line feeds directly after a segment terminator .. are to be passed over, however many."
  pub read_breaks : (more : List ℕ)
      → (tokens_from c passing place [] ≡ [])
      × (tokens_from c passing place (13 ∷ more) ≡ tokens_from c passing (place + 1) more)
      × (tokens_from c passing place (10 ∷ more) ≡ tokens_from c passing (place + 1) more)
      × ((b : ℕ) → (b ≡ 13 → ⊥) → (b ≡ 10 → ⊥) → tokens_from c passing place (b ∷ more) ≡ tokens c place (b ∷ more))
  unfolding tokens_from tokens is_break member
  read_breaks more = (refl, refl, refl, λ b cr lf. rw (ne_eqb b 13 cr, ne_eqb b 10 lf))

  -- a byte that is no service character is a value's
  pub read_value : (b : ℕ) (more : List ℕ) → is_service c b ≡ false
      → tokens c place (b ∷ more) ≡ byte b place place ∷ tokens c (place + 1) more
  unfolding tokens unreleased reading
  read_value b more h = tokens_role c place b more Plain (plain_role c b h)

  -- "The release character takes the next byte with it."
  module _ (n : c.release ≡ 32 → ⊥) where
    two : place + 1 + 1 ≡ place + 2
    two = omega arith

    read_release : (more : List ℕ) → tokens c place (c.release ∷ more) ≡ tokens_from c (released place) (place + 1) more
    unfolding unreleased reading
    read_release more = tokens_role c place c.release more Release (release_role c u n)

    pub read_released : (b : ℕ) (more : List ℕ) → is_service c b ≡ true
        → tokens c place (c.release ∷ b ∷ more) ≡ byte b place (place + 1) ∷ tokens c (place + 2) more
    unfolding tokens tokens_from taken
    read_released b more h =
        read_release (b ∷ more)
        ∙ ⊎_elim
        (λ k. ap (λ (r : Role). taken r b place (place + 1) (tokens c (place + 1 + 1) more)) k.1)
        (λ k. ap (λ (r : Role). taken r b place (place + 1) (tokens c (place + 1 + 1) more)) k)
        (service_role c u b h)
        ∙ ap (λ (n : ℕ). byte b place (place + 1) ∷ tokens c n more) two

    -- "release followed by no service character, or by the end"
    pub read_stray : (b : ℕ) (more : List ℕ) → is_service c b ≡ false
        → tokens c place (c.release ∷ b ∷ more) ≡ fault place ∷ tokens c (place + 2) more
    unfolding tokens tokens_from taken
    read_stray b more h =
        read_release (b ∷ more)
        ∙ ap (λ (r : Role). taken r b place (place + 1) (tokens c (place + 1 + 1) more)) (plain_role c b h)
        ∙ ap (λ (n : ℕ). fault place ∷ tokens c n more) two

    pub read_last : tokens c place (c.release ∷ []) ≡ fault place ∷ []
    unfolding tokens_from
    read_last = read_release []

-- ---- what ends a piece

-- a separator of the kind or of a lower one
pub ends_says : (rank : ℕ) (t : Token) → Says (ends rank t) ((k : ℕ) × (q : ℕ) × (t ≡ separator k q) × (k ≤ rank))
unfolding ends
ends_says rank (byte b from place) = (λ h. absurd (false≢true h), λ h. absurd (not_separator h.2))
  where
    not_separator : {k q : ℕ} → byte b from place ≡ separator k q → ⊥
    not_separator e = let z : ◌≡◌ {A = ℕ} 0 1 = cc in omega arith
ends_says rank (separator k q) = (
  λ h. (k, q, refl, leb-true k rank h),
  λ h. le-leb k rank (let e : k ≡ h.0 = cc h.2 in omega (arith, h.3)),
)
ends_says rank (fault place) = (λ h. absurd (false≢true h), λ h. absurd (not_separator h.2))
  where
    not_separator : {k q : ℕ} → fault place ≡ separator k q → ⊥
    not_separator e = let z : ◌≡◌ {A = ℕ} 0 1 = cc in omega arith

-- the last is such a separator
pub ended_says : (rank : ℕ) (ts : List Token)
    → Says (ended_by rank ts) ((before : List Token) × (k : ℕ) × (q : ℕ) × (ts ≡ before ++ separator k q ∷ []) × (k ≤ rank))
unfolding ended_by last_or
ended_says rank [] = (λ h. absurd (false≢true h), λ h. absurd (never_empty h.0 (separator h.1 h.2) h.3))
ended_says rank (t ∷ ts) =
    let (before, stands) = last_stands t ts in
    says_as (ends_says rank (last_or t ts))
    (λ h. (before, h.0, h.1, stands ∙ ap (λ (l : Token). before ++ l ∷ []) h.2, h.3))
    (λ h. (h.1, h.2, last_is h.0 (separator h.1 h.2) t ts h.3, h.4))

-- "the body ends inside a segment": there are tokens, and the last is no terminator
pub inside_says : (ts : List Token)
    → Says (ends_inside ts)
    ((ts ≡ [] → ⊥) × ((before : List Token) (q : ℕ) → ts ≡ before ++ separator 0 q ∷ [] → ⊥))
unfolding ends_inside is_empty
inside_says [] = (λ h. absurd (false≢true h), λ h. absurd (h.0 refl))
inside_says (t ∷ ts) =
    says_as (says_not (ended_by 0 (t ∷ ts)) (ended_says 0 (t ∷ ts)))
    (λ h. (λ e. absurd (cons≢nil e), λ before q e. h (before, 0, q, e, omega arith)))
    (λ h k. h.1 k.0 k.2 (k.3 ∙ ap (λ (n : ℕ). k.0 ++ separator n k.2 ∷ []) (omega (arith, k.4))))

pub fault_says : (t : Token) → Says (is_fault t) ((q : ℕ) × (t ≡ fault q))
unfolding is_fault
fault_says (byte b from place) = (λ h. absurd (false≢true h), λ h. absurd (not_fault h.0 h.1))
  where
    not_fault : (q : ℕ) → byte b from place ≡ fault q → ⊥
    not_fault q e = let z : ◌≡◌ {A = ℕ} 0 1 = cc in omega arith
fault_says (separator k place) = (λ h. absurd (false≢true h), λ h. absurd (not_fault h.0 h.1))
  where
    not_fault : (q : ℕ) → separator k place ≡ fault q → ⊥
    not_fault q e = let z : ◌≡◌ {A = ℕ} 0 1 = cc in omega arith
fault_says (fault place) = (λ h. (place, refl), λ h. refl)

-- "A segment is finished when its terminator ends it and no fault 4 lies in it."
pub finished_says : (g : Segment)
    → Says (finished g)
    (((before : List Token) × (q : ℕ) × (g ≡ before ++ separator 0 q ∷ [])) × ((q : ℕ) → Memᴰ (fault q) g → ⊥))
unfolding finished
finished_says g =
    says_as
    (says_both (ended_by 0 g) (all (λ t. not (is_fault t)) g) (ended_says 0 g)
    (says_all (λ t. not (is_fault t)) (λ t. says_not (is_fault t) (fault_says t)) g))
    (λ h. (
      (h.0.0, h.0.2, h.0.3 ∙ ap (λ (n : ℕ). h.0.0 ++ separator n h.0.2 ∷ []) (omega (arith, h.0.4))),
      λ q m. h.1 (fault q) m (q, refl),
    ))
    (λ h. (
      (h.0.0, 0, h.0.1, h.0.2, omega arith),
      λ t m k. h.1 k.0 (Memᴰ.cast (sym k.1) m),
    ))

-- ---- segments

unended_none : (ts : List Token) → Unended ts → all (λ t. not (ends 0 t)) ts ≡ true
unended_none ts h =
    (says_all (λ t. not (ends 0 t)) (λ t. says_not (ends 0 t) (ends_says 0 t)) ts).1
    (λ t m k. h k.1 (Memᴰ.cast (sym (k.2 ∙ ap (λ (n : ℕ). separator n k.1) (omega (arith, k.3)))) m))

-- a terminator ends a segment, and is its last token
pub segment_ended : (before : List Token) (q : ℕ) (rest : List Token) → Unended before
    → segments (before ++ separator 0 q ∷ rest) ≡ (before ++ separator 0 q ∷ []) ∷ segments rest
unfolding segments
segment_ended before q rest h =
    cut_append (ends 0) before (separator 0 q) rest (unended_none before h) ((ends_says 0 (separator 0 q)).1 (0, q, refl, omega arith))

-- what no terminator ends is one segment, and nothing is none
pub segment_unended : (t : Token) (ts : List Token) → Unended (t ∷ ts) → segments (t ∷ ts) ≡ (t ∷ ts) ∷ []
unfolding segments
segment_unended t ts h = cut_none (ends 0) t ts (unended_none (t ∷ ts) h)

pub no_segment : segments [] ≡ []
unfolding segments cut
no_segment = refl

-- a segment starts where its first token is spelled: at the release character, where it has one
pub start_is : (ts : List Token) (b from place rank : ℕ)
    → (start (byte b from place ∷ ts) ≡ from) × (start (separator rank place ∷ ts) ≡ place) × (start (fault place ∷ ts) ≡ place)
unfolding start place_of
start_is ts b from place rank = (refl, refl, refl)

-- what is read from a place on starts there
pub start_tokens : (c : Characters) (place : ℕ) (bytes : List ℕ) → (tokens c place bytes ≡ [] → ⊥) → start (tokens c place bytes) ≡ place
unfolding tokens tokens_from start place_of taken unreleased reading
start_tokens c place [] h = absurd (h refl)
start_tokens c place (b ∷ bs) h = step (role c b) (after bs)
  where
    -- after a release character
    after : (more : List ℕ) → start (tokens_from c (released place) (place + 1) more) ≡ place
    after [] = refl
    after (d ∷ ds) = taking (role c d)
      where
        taking : (r : Role) → start (taken r d place (place + 1) (tokens_from c inside (place + 1 + 1) ds)) ≡ place
        taking (Separator rank) = refl
        taking Release = refl
        taking Plain = refl

    step : (r : Role) → start (tokens_from c (released place) (place + 1) bs) ≡ place
        → start (unreleased r b place (tokens_from c (reading r place) (place + 1) bs)) ≡ place
    step (Separator zero) e = refl
    step (Separator (suc rank)) e = refl
    step Release e = e
    step Plain e = refl

-- and so does its first segment
pub start_first : (ts : List Token) (g : Segment) (gs : List Segment) → segments ts ≡ g ∷ gs → start g ≡ start ts
unfolding segments cut start through
start_first [] g gs e = absurd (nil≢cons e)
start_first (t ∷ ts) g gs e = ap start (sym (head-eq_of_cons-eq (sym (cut_first (ends 0) t ts) ∙ e)))

-- ---- values

-- what stands at an element, a repeat and a component is at that component of what stands at that repeat of what stands at that element
pub value_at_lem : {A : Type 0} (segment : List (List (List A))) (element repeat component : ℕ)
    → ((repeats : List (List A)) (values : List A) → at segment element ≡ some repeats → at repeats repeat ≡ some values
    → value_at segment element repeat component ≡ at values component)
    × ((repeats : List (List A)) → at segment element ≡ some repeats → at repeats repeat ≡ none → value_at segment element repeat component ≡ none)
    × (at segment element ≡ none → value_at segment element repeat component ≡ none)
unfolding value_at maybe
value_at_lem segment element repeat component = (λ repeats values e k. rw (e, k), λ repeats e k. rw (e, k), λ e. rw e)

-- ---- one definition for every depth: a segment is of depth 3

-- a segment is cut as parts of any depth are,
pub elements_nested : (segment : Segment) → elements_of segment ≡ nested ends_part value_of 3 segment
unfolding elements_of repeats_of values_of
elements_nested segment = refl

-- trimmed as they are,
pub trimmed_nested : {A : Type 0} (is_blank : A → Bool) (segment : List (List (List A))) → trim_segment is_blank segment ≡ trim A is_blank 3 segment
unfolding trim_segment trim_element trim_repeat
trimmed_nested is_blank segment = refl

-- and spelled as they are, before its terminator
pub spelled_nested : (c : Characters) (segment : List (List (List Bytes)))
    → spell_segment c segment ≡ spelled (separator_of c) (spell_value c) 3 segment ++ c.terminator ∷ []
unfolding spell_segment spell_element spell_repeat
spelled_nested c segment = refl

-- the bytes of a value are those of its tokens, in their order
pub bytes_are : (b from place rank : ℕ) (ts : List Token)
    → (bytes_of [] ≡ [])
    × (bytes_of (byte b from place ∷ ts) ≡ b ∷ bytes_of ts)
    × (bytes_of (separator rank place ∷ ts) ≡ bytes_of ts)
    × (bytes_of (fault place ∷ ts) ≡ bytes_of ts)
unfolding bytes_of byte_of gather
bytes_are b from place rank ts = (refl, refl, refl, refl)

-- ---- spelling

module _ (c : Characters) where
  -- "each service character inside a value being released and nothing else"
  pub spelled_value : (b : ℕ) (more : List ℕ)
      → (spell_value c [] ≡ [])
      × (is_service c b ≡ true → spell_value c (b ∷ more) ≡ c.release ∷ b ∷ spell_value c more)
      × (is_service c b ≡ false → spell_value c (b ∷ more) ≡ b ∷ spell_value c more)
  unfolding spell_value spell_byte gather
  spelled_value b more = (refl, λ e. rw e, λ e. rw e)

  -- a separator between two components, another between two repeats, another between two elements, the terminator after a segment
  pub spelled_segment : (u v w x : Bytes)
      → spell_segment c (((u ∷ v ∷ []) ∷ (w ∷ []) ∷ []) ∷ ((x ∷ []) ∷ []) ∷ [])
      ≡ spell_value c u ++ c.component ∷ spell_value c v ++ c.repetition ∷ spell_value c w ++ c.element ∷ spell_value c x ++ c.terminator ∷ []
  unfolding spell_segment spell_element spell_repeat joined each_led_by
  spelled_segment u v w x = simp (append-nil, append_assoc)

  -- one segment after the other
  pub spelled_list : (segment : List (List (List Bytes))) (list : SegmentList)
      → (spell c [] ≡ []) × (spell c (segment ∷ list) ≡ spell_segment c segment ++ spell c list)
  unfolding spell gather
  spelled_list segment list = (refl, refl)

-- ---- line breaks

pub leads_says : (value : Bytes) → Says (leads_break value) (LeadsBreak value)
unfolding leads_break at maybe
leads_says [] = (λ h. absurd (false≢true h), λ h. ⊎_elim (λ e. absurd (nil≢cons e)) (λ e. absurd (nil≢cons e)) h.1)
leads_says (b ∷ bs) =
    says_as (break_says b)
    (⊎_elim (λ e. (bs, inl (ap (λ (x : ℕ). x ∷ bs) e))) (λ e. (bs, inr (ap (λ (x : ℕ). x ∷ bs) e))))
    (λ h. ⊎_elim (λ e. inl (head-eq_of_cons-eq e)) (λ e. inr (head-eq_of_cons-eq e)) h.1)

-- "No segment of a list may begin with a break": it is its first value that does
pub broken_says : (value : Bytes) (values : List Bytes) (repeats : List (List Bytes)) (elements : List (List (List Bytes)))
    → Says (begins_broken (((value ∷ values) ∷ repeats) ∷ elements)) (LeadsBreak value)
unfolding begins_broken value_at at maybe
broken_says value values repeats elements = leads_says value

-- the list with what stands between its segments: after each segment its own
pub spell_apart_lem : (c : Characters) (segment : List (List (List Bytes))) (segments : SegmentList) (gap : Bytes) (between : List Bytes)
    → (spell_apart c [] (gap ∷ between) ≡ [])
    × (spell_apart c (segment ∷ segments) [] ≡ spell_segment c segment ++ spell_apart c segments [])
    × (spell_apart c (segment ∷ segments) (gap ∷ between) ≡ spell_segment c segment ++ (gap ++ spell_apart c segments between))
unfolding spell_apart
spell_apart_lem c segment segments gap between = (refl, refl, refl)
