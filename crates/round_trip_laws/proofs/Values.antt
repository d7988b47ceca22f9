-- Value lists: what refusals 15 and 16 ask of a table is what the shape and the service characters ask of the list of segments.
-- Assumes nothing.
use Prim.Native.Nat.{ℕ, zero, suc, ◌+◌, ◌%◌, ◌≤◌}
use mathlib.Core.Path.{◌≡◌, refl, sym, ap, fun_ext, ◌∙◌}
use mathlib.Core.Bool.{Bool, true, false, not, ◌&&◌, ◌||◌, true≢false, and-true, and-false}
use mathlib.Core.List.{List, [], ◌∷◌, ◌++◌, append-eq-nil_iff}
use mathlib.Core.Logic.{◌↔◌, ⊎_elim}
use native.Mathlib.Omega.{arith}
use lib.ListN.{length, length-append}
use lib.Dec.{eqb, ltb, leb}
use borrow.Author.Tests.{ltb-false, le-leb, ne_eqb, not-true}
use Rattle.lists.specs.Lists.{is_empty, is_single, all, any, gather, at, maybe}
use Rattle.lists.proofs.Texts.{and_left, and_right, and_both, or_none_left, or_none_right, decided, all_mapped, all_map}
use Rattle.characters.specs.declared.Characters.{Characters}
use Rattle.characters.specs.Characters.{six_bytes, has_release, has_repetition, is_service}
use Rattle.refusals.specs.Refusals.{place_if}
use Rattle.refusals.proofs.Stages.{place_none}
use Rattle.nesting.specs.Nesting.{every, spelled}
use Rattle.nesting_laws.proofs.Flat.{all_flat, flat_bound}
use Rattle.nesting_laws.proofs.Lone.{lone_flat, lone_single}
use Rattle.values.specs.Spelling.{Bytes, SegmentList, separator_of, spell_value, spell_repeat, spell_element, spell_segment, spell, leads_break}
use Rattle.operations.specs.ValueList.{Item, list_segment, list_of, Entry, entries, value_in, listed_in, segments_listed}
use Rattle.operations.specs.Write.{numbers_where, bad_table, broken_start, bad_entry, bad_list, lacks_release, lacks_repetition, cannot_stand, needs_release}
use Rattle.spelling_laws.specs.Bodies.{shaped_segment, Shaped, Spellable}
use Rattle.trimming_laws.specs.Kinds.{first_kind, kinds_up_to3, Kinds, starts_well, unbroken_starts}
use Rattle.trimming_laws.proofs.Nesting.{item, kind_of, list_of_flat, segment_flat, list_of_listed, shaped_listed}
use Rattle.trimming_laws.proofs.Tables.{first_listed}
use Rattle.normal_form_laws.proofs.Tests.{none_both}
use Rattle.refusals.specs.Limits.{most_numbers}

-- ---- what holds of every value

-- every value of a list of segments passes the test exactly where every value of its value list does
pub all_list_of : (p : Bytes → Bool) (list : SegmentList) → all (λ l. p l.value) (list_of list) ≡ every p 4 list
all_list_of p list =
    ap (all (λ l. p l.value)) (list_of_flat list)
    ∙ all_flat kind_of item (λ kind. Unit {0}) (λ l. p l.value) p (λ kind v h. refl) (λ depth. tt) 4 0 tt list

-- ---- records that fail a test

-- no record fails exactly where all pass
pub numbers_none : (fails : Entry → Bool) (n : ℕ) (es : List Entry)
    → (numbers_where fails n es ≡ []) ↔ (all (λ e. not (fails e)) es ≡ true)
unfolding numbers_where all
numbers_none fails n [] = (λ e. refl, λ e. refl)
numbers_none fails n (e ∷ es) =
    let none = place_none (fails e) n in
    none_both (place_if (fails e) n) (numbers_where fails (suc n) es) (not (fails e)) (all (λ e. not (fails e)) es)
    (λ k. ap not (none.0 k), λ k. none.1 (not-true (fails e) k))
    (numbers_none fails (suc n) es)

-- ---- refusal 15

module _ (bytes table : List ℕ) where
  -- a table that 15 does not refuse begins with kind 0 and has no kind above 3
  pub kinds_sound : bad_list bytes table ≡ [] → Kinds (listed_in bytes table)
  unfolding bad_list listed_in first_kind kinds_up_to3 bad_table bad_entry maybe at
  kinds_sound h =
      let parts = (append-eq-nil_iff {p = place_if (bad_table table) 0} {q = numbers_where (bad_entry bytes) 0 (entries table)}).0 h in
      let over : Bool = ltb most_numbers (length table) || not (eqb (length table % 3) 0) in
      let late : Bool = maybe false (λ e. not (eqb e.kind 0)) (at (entries table) 0) in
      record {
        first = first_listed bytes (entries table) (or_none_right over late ((place_none (bad_table table) 0).0 parts.0));
        highest =
            all_map (λ e. record { kind = e.kind; value = value_in bytes e }) (λ e. not (bad_entry bytes e)) (λ l. leb l.kind 3)
            low
            (entries table)
            ((numbers_none (bad_entry bytes) 0 (entries table)).0 parts.1);
      }
    where
      low : (e : Entry) → not (bad_entry bytes e) ≡ true → leb e.kind 3 ≡ true
      low e k =
          let high : Bool = ltb 3 e.kind in
          let outside : Bool = ltb (length bytes) (e.start + e.size) in
          le-leb e.kind 3
          (ltb-false 3 e.kind
          (or_none_left high outside (or_none_left (high || outside) (broken_start bytes e) (not-true (bad_entry bytes e) k))))

  -- and no value of kind 0 in it begins with a break
  pub starts_sound : bad_list bytes table ≡ [] → unbroken_starts (listed_in bytes table) ≡ true
  unfolding bad_list listed_in unbroken_starts bad_entry broken_start
  starts_sound h =
      let parts = (append-eq-nil_iff {p = place_if (bad_table table) 0} {q = numbers_where (bad_entry bytes) 0 (entries table)}).0 h in
      all_map (λ e. record { kind = e.kind; value = value_in bytes e }) (λ e. not (bad_entry bytes e)) starts_well
      well
      (entries table)
      ((numbers_none (bad_entry bytes) 0 (entries table)).0 parts.1)
    where
      well : (e : Entry) → not (bad_entry bytes e) ≡ true → not (eqb e.kind 0 && leads_break (value_in bytes e)) ≡ true
      well e k =
          let other : Bool = ltb 3 e.kind || ltb (length bytes) (e.start + e.size) in
          ap not (or_none_right other (broken_start bytes e) (not-true (bad_entry bytes e) k))

-- ---- refusal 16

all_every : {A : Type 0} (t : A → Bool) → ((x : A) → t x ≡ true) → (xs : List A) → all t xs ≡ true
unfolding all
all_every t h [] = refl
all_every t h (x ∷ xs) = and_both (t x) (all t xs) (h x) (all_every t h xs)

module _ (c : Characters) where
  -- no byte of the value is a service character
  abbrev is_plain : Bytes → Bool
  is_plain value = all (λ b. not (is_service c b)) value

  none_serves : (value : Bytes) → not (any (is_service c) value) ≡ is_plain value
  unfolding any all
  none_serves [] = refl
  none_serves (b ∷ bs) = step (is_service c b) (none_serves bs)
    where
      step : (s : Bool) → not (any (is_service c) bs) ≡ is_plain bs → not (s || any (is_service c) bs) ≡ (not s && is_plain bs)
      step true h = refl
      step false h = h

  -- every value can be spelled where there is a release character, and a plain one where there is none
  spelled_released : has_release c ≡ true → (value : Bytes) → not (lacks_release c value) ≡ true
  unfolding lacks_release
  spelled_released r value = ap (λ (b : Bool). not (not b && any (is_service c) value)) r

  spelled_plain : has_release c ≡ false → (value : Bytes) → not (lacks_release c value) ≡ is_plain value
  unfolding lacks_release
  spelled_plain r value = ap (λ (b : Bool). not (not b && any (is_service c) value)) r ∙ none_serves value

-- no value of a list of segments begins a next repeat exactly where each element has one repeat
one_repeat : (list : SegmentList) → Shaped list → all (λ l. not (eqb l.kind 3)) (list_of list) ≡ every is_single 2 list
unfolding Shaped shaped_segment is_empty all list_of gather
one_repeat [] s = refl
one_repeat (g ∷ list) s =
    ap (all (λ l. not (eqb l.kind 3))) (list_of_flat (g ∷ list))
    ∙ lone_flat kind_of item 1 (λ l. not (eqb l.kind 3)) (λ kind. not (eqb kind 3)) (λ kind v. refl) own 4 0 (g ∷ list) s
    ∙ ap (λ (t : List (List Bytes) → Bool). every t 2 (g ∷ list)) (fun_ext (lone_single Bytes 1))
  where
    own : (depth : ℕ) → not (eqb (kind_of depth) 3) ≡ not (eqb 1 depth)
    own zero = refl
    own (suc zero) = refl
    own (suc (suc zero)) = refl
    own (suc (suc (suc depth))) = ap not (sym (ne_eqb 1 (suc (suc (suc depth))) (λ e. omega arith)))

-- two tests of all
all_and : {A : Type 0} (t q : A → Bool) (xs : List A) → all (λ x. not (t x || q x)) xs ≡ (all (λ x. not (t x)) xs && all (λ x. not (q x)) xs)
unfolding all
all_and t q [] = refl
all_and t q (x ∷ xs) = ap (λ (b : Bool). not (t x || q x) && b) (all_and t q xs) ∙ step (t x) (q x) (all (λ x. not (t x)) xs)
  where
    step : (a b c : Bool) → (not (a || b) && (c && all (λ x. not (q x)) xs)) ≡ ((not a && c) && (not b && all (λ x. not (q x)) xs))
    step true b c = refl
    step false true true = refl
    step false true false = refl
    step false false c = refl

module _ (service bytes table : List ℕ) where
  abbrev six : Characters
  six = six_bytes service

  abbrev items : List Item
  items = listed_in bytes table

  -- 16 is not met exactly where every value of the list can be spelled, and every kind
  release_values : (needs_release service bytes table ≡ [])
      ↔ ((all (λ l. not (lacks_release six l.value)) items ≡ true) × (all (λ l. not (lacks_repetition six l.kind)) items ≡ true))
  unfolding needs_release cannot_stand listed_in
  release_values =
      let values : Bool = all (λ l. not (lacks_release six l.value)) items in
      let kinds : Bool = all (λ l. not (lacks_repetition six l.kind)) items in
      let none = numbers_none (cannot_stand six bytes) 0 (entries table) in
      let moved : all (λ (l : Item). not (lacks_release six l.value || lacks_repetition six l.kind)) items ≡ all (λ e. not (cannot_stand six bytes e)) (entries table) =
      all_mapped (λ e. record { kind = e.kind; value = value_in bytes e })
      (λ (l : Item). not (lacks_release six l.value || lacks_repetition six l.kind)) (entries table) in
      let both : all (λ (l : Item). not (lacks_release six l.value || lacks_repetition six l.kind)) items ≡ (values && kinds) =
      all_and (λ (l : Item). lacks_release six l.value) (λ (l : Item). lacks_repetition six l.kind) items in (
        λ h. let k = sym both ∙ moved ∙ none.0 h in (and_left values kinds k, and_right values kinds k),
        λ h. none.1 (sym moved ∙ both ∙ and_both values kinds h.0 h.1),
      )

  -- without a repetition separator no record of kind 3 can be spelled, and with one each can
  kinds_exactly : Kinds items → (all (λ l. not (lacks_repetition six l.kind)) items ≡ true)
      ↔ (has_repetition six ≡ false → every is_single 2 (segments_listed items) ≡ true)
  unfolding lacks_repetition
  kinds_exactly kinds = step (has_repetition six)
    where
      list : SegmentList
      list = segments_listed items

      single : all (λ l. not (eqb l.kind 3)) items ≡ every is_single 2 list
      single = ap (all (λ l. not (eqb l.kind 3))) (sym (list_of_listed items kinds)) ∙ one_repeat list (shaped_listed items kinds)

      step : (p : Bool) → (all (λ l. not (eqb l.kind 3 && not p)) items ≡ true) ↔ (p ≡ false → every is_single 2 list ≡ true)
      step true = (
        λ h e. absurd (true≢false e),
        λ h. all_every (λ l. not (eqb l.kind 3 && false)) (λ l. ap not (and-false (eqb l.kind 3))) items,
      )
      step false =
          let same : all (λ l. not (eqb l.kind 3 && true)) items ≡ all (λ l. not (eqb l.kind 3)) items =
          ap (λ (t : Item → Bool). all t items) (fun_ext (λ l. ap not (and-true (eqb l.kind 3)))) in
          (λ h e. sym single ∙ sym same ∙ h, λ h. same ∙ single ∙ h refl)

  -- no value that could not be released is there exactly where every value can be spelled
  values_exactly : Kinds items → (all (λ l. not (lacks_release six l.value)) items ≡ true)
      ↔ (has_release six ≡ false → every (is_plain six) 4 (segments_listed items) ≡ true)
  values_exactly kinds =
      let list : SegmentList = segments_listed items in
      let said : Bytes → Bool = λ v. not (lacks_release six v) in
      let values : all (λ l. said l.value) items ≡ every said 4 list =
      ap (all (λ l. said l.value)) (sym (list_of_listed items kinds)) ∙ all_list_of said list in
      let plain : has_release six ≡ false → every said 4 list ≡ every (is_plain six) 4 list =
      λ r. ap (λ (t : Bytes → Bool). every t 4 list) (fun_ext (spelled_plain six r)) in (
        λ h r. sym (plain r) ∙ sym values ∙ h,
        λ h.
            ⊎_elim
            (λ r. all_every (λ l. said l.value) (λ l. spelled_released six r l.value) items)
            (λ r. values ∙ plain r ∙ h r)
            (decided (has_release six)),
      )

  -- that is, where the list of segments can be spelled
  pub release_exactly : Kinds items → (needs_release service bytes table ≡ []) ↔ Spellable six (segments_listed items)
  release_exactly kinds = (
    λ h.
        let k = release_values.0 h in
        record { released = (values_exactly kinds).0 k.0; repeated = (kinds_exactly kinds).0 k.1 },
    λ h. release_values.1 ((values_exactly kinds).1 h.released, (kinds_exactly kinds).1 h.repeated),
  )

-- ---- how many values there are

-- the spelling of a list has a separator for each of its values
pub values_bound : (c : Characters) (list : SegmentList) → Shaped list → length (list_of list) ≤ length (spell c list)
unfolding list_of gather spell spell_segment spell_element spell_repeat Shaped shaped_segment all
values_bound c [] s = omega arith
values_bound c (g ∷ list) s =
    let text : Bytes = spelled (separator_of c) (spell_value c) 3 g in
    omega (
      arith,
      length-append (list_segment g) (list_of list),
      ap length (segment_flat g),
      flat_bound kind_of item (separator_of c) (spell_value c) 3 0 g (and_left (shaped_segment g) (all shaped_segment list) s),
      length-append text (c.terminator ∷ []),
      length-append (text ++ c.terminator ∷ []) (spell c list),
      values_bound c list (and_right (shaped_segment g) (all shaped_segment list) s),
    )
