-- Which of a part's records cannot stand: with a release character only a next repeat, where nothing separates repeats.
-- Assumes nothing.
use Rattle.std.specs.Prelude.{if◌then◌else◌, Ok}
use Prim.Native.Nat.{ℕ, ◌+◌, ◌≤◌}
use mathlib.Core.Path.{◌≡◌, refl, sym, ap, ◌∙◌}
use mathlib.Core.Bool.{Bool, true, false, not, ◌&&◌, ◌||◌, false≢true}
use mathlib.Core.List.{List, [], ◌∷◌, ◌++◌, map}
use mathlib.Core.Option.{none}
use native.Mathlib.Omega.{arith}
use lib.Dec.{eqb}
use borrow.Author.Tests.{ne_eqb}
use Rattle.lists.specs.Lists.{is_empty, is_single, any, all, gather}
use Rattle.characters.specs.declared.Characters.{Characters}
use Rattle.characters.specs.Characters.{has_release, has_repetition, is_service}
use Rattle.refusals.specs.declared.Fault.TheVariants.{NeedsRelease}
use Rattle.refusals.specs.Refusals.{met, lowest, outcome}
use Rattle.values.specs.Tokens.{tokens_at}
use Rattle.values.specs.Spelling.{Bytes}
use Rattle.elements.specs.Values.{value_in as value_read}
use Rattle.stage_walks.specs.Walks.{refuse}
use Rattle.operations.specs.ValueList.{Item, entries, list_repeat, list_element, listed_in}
use Rattle.operations.specs.Write.{numbers_where, lacks_release, lacks_repetition, cannot_stand}
use Rattle.trimming_laws.specs.Kinds.{first_kind}
use Rattle.value_list_text.specs.Composing.{item_of}
use Rattle.value_list_text.proofs.Standing.{table_bare}
use Rattle.received_pieces.specs.Pieces.{element_in}
use Rattle.lent_elements.specs.Leading.{leading}
use Rattle.acknowledgement_parts.specs.Parts.{words, syntax_items, is_bare, first_bare}

module _ (c : Characters) (released : has_release c ≡ true) where
  bare_kind : (l : Item) → is_bare c l ≡ lacks_repetition c l.kind
  unfolding lacks_release
  bare_kind l = ap (λ (b : Bool). (not b && any (is_service c) l.value) || lacks_repetition c l.kind) released

  stands_low : (l : Item) → (l.kind ≡ 3 → ⊥) → is_bare c l ≡ false
  unfolding lacks_repetition
  stands_low l h = bare_kind l ∙ ap (λ (b : Bool). b && not (has_repetition c)) (ne_eqb l.kind 3 h)

  stands_repeated : has_repetition c ≡ true → (l : Item) → is_bare c l ≡ false
  unfolding lacks_repetition
  stands_repeated h l = bare_kind l ∙ ap (λ (b : Bool). eqb l.kind 3 && not b) h ∙ step (eqb l.kind 3)
    where
      step : (b : Bool) → (b && false) ≡ false
      step true = refl
      step false = refl

  -- a record that stands is passed, and where all stand none answers
  next_stands : (n : ℕ) (l : Item) (ls : List Item) → is_bare c l ≡ false → first_bare c n (l ∷ ls) ≡ first_bare c (n + 1) ls
  unfolding first_bare
  next_stands n l ls h = ap (λ (b : Bool). if b then refuse NeedsRelease n else first_bare c (n + 1) ls) h

  none_bare : (n : ℕ) (ls : List Item) → all (λ l. not (is_bare c l)) ls ≡ true → first_bare c n ls ≡ none
  unfolding first_bare all
  none_bare n [] h = refl
  none_bare n (l ∷ ls) h = step (is_bare c l) h (none_bare (n + 1) ls)
    where
      step : (b : Bool) → (not b && all (λ l. not (is_bare c l)) ls) ≡ true
          → (all (λ l. not (is_bare c l)) ls ≡ true → first_bare c (n + 1) ls ≡ none)
          → (if b then refuse NeedsRelease n else first_bare c (n + 1) ls) ≡ none
      step true k ih = absurd (false≢true k)
      step false k ih = ih k

  -- components stand, and so does all where repeats can be separated
  components_stand : (vs : List Bytes) (ls : List Item) → all (λ l. not (is_bare c l)) ls ≡ true
      → all (λ l. not (is_bare c l)) (map (λ w. record { kind = 2; value = w }) vs ++ ls) ≡ true
  unfolding all
  components_stand [] ls h = h
  components_stand (v ∷ vs) ls h =
      ap (λ (b : Bool). not b && all (λ l. not (is_bare c l)) (map (λ w. record { kind = 2; value = w }) vs ++ ls)) (stands_low (record { kind = 2; value = v }) (λ e. absurd (omega (arith, e))))
      ∙ components_stand vs ls h

  all_stand : has_repetition c ≡ true → (ls : List Item) → all (λ l. not (is_bare c l)) ls ≡ true
  unfolding all
  all_stand h [] = refl
  all_stand h (l ∷ ls) =
      ap (λ (b : Bool). not b && all (λ l. not (is_bare c l)) ls) (stands_repeated h l) ∙ all_stand h ls

pub word_stands : (c : Characters) (kind start size : ℕ) → kind ≤ 1 → has_release c ≡ true
    → Ok tt ≡ outcome (first_bare c 0 (item_of words (record { kind = kind; start = start; size = size }) ∷ []))
unfolding outcome first_bare
word_stands c kind start size low released =
    sym (ap outcome (next_stands c released 0 (item_of words (record { kind = kind; start = start; size = size })) [] (stands_low c released _ (λ e. absurd (omega (arith, e, low))))))

pub syntax_stands : (c : Characters) (s : List ℕ) (d : Characters) (level version : ℕ) → has_release c ≡ true
    → Ok tt ≡ outcome (first_bare c 0 (syntax_items s d level version))
unfolding outcome first_bare
syntax_stands c s d level version released =
    let first : Item = record { kind = 1; value = value_read (tokens_at d s level) } in
    let second : Item = record { kind = 2; value = value_read (tokens_at d s version) } in
    sym (ap outcome
    (next_stands c released 0 first (second ∷ []) (stands_low c released first (λ e. absurd (omega (arith, e))))
    ∙ next_stands c released 1 second [] (stands_low c released second (λ e. absurd (omega (arith, e))))))

-- the records of an element, which has one repeat where nothing separates repeats
single_all : (c : Characters) → has_release c ≡ true → (e : List (List Bytes)) → is_single e ≡ true → all (λ l. not (is_bare c l)) (list_element 1 e) ≡ true
unfolding is_single is_empty list_element list_repeat gather all
single_all c released [] k = refl
single_all c released ([] ∷ []) k = refl
single_all c released ((v ∷ vs) ∷ []) k =
    ap (λ (b : Bool). not b && all (λ l. not (is_bare c l)) (map (λ w. record { kind = 2; value = w }) vs ++ [])) (stands_low c released (record { kind = 1; value = v }) (λ e. absurd (omega (arith, e))))
    ∙ components_stand c released vs [] refl
single_all c released (r ∷ q ∷ rs) k = absurd (false≢true k)

element_all : (c : Characters) → has_release c ≡ true → (e : List (List Bytes)) → (has_repetition c ≡ false → is_single e ≡ true)
    → all (λ l. not (is_bare c l)) (list_element 1 e) ≡ true
element_all c released e h = step (has_repetition c) refl
  where
    step : (b : Bool) → has_repetition c ≡ b → all (λ l. not (is_bare c l)) (list_element 1 e) ≡ true
    step true k = all_stand c released k (list_element 1 e)
    step false k = single_all c released e (h k)

pub element_stands : (c : Characters) (s : List ℕ) (d : Characters) (from : ℕ)
    → (has_release c ≡ true) × (has_repetition c ≡ false → is_single (element_in (tokens_at d s from)) ≡ true)
    → Ok tt ≡ outcome (first_bare c 0 (list_element 1 (element_in (tokens_at d s from))))
unfolding outcome
element_stands c s d from h =
    sym (ap outcome (none_bare c h.0 0 (list_element 1 (element_in (tokens_at d s from))) (element_all c h.0 (element_in (tokens_at d s from)) h.1)))

-- ---- a lent list

-- the first of them begins an element in the list put together, and stands or not as it did
leading_bare : (c : Characters) (n : ℕ) (items : List Item) → first_kind items ≡ 0 → first_bare c n items ≡ first_bare c n (leading items)
unfolding first_bare leading first_kind lacks_repetition
leading_bare c n [] e = refl
leading_bare c n (l ∷ ls) e =
    ap (λ (kind : ℕ). if lacks_release c l.value || (eqb kind 3 && not (has_repetition c)) then refuse NeedsRelease n else first_bare c (n + 1) ls) e

pub lent_bare : (c : Characters) (bytes table : List ℕ) → first_kind (listed_in bytes table) ≡ 0
    → outcome (lowest (met NeedsRelease (numbers_where (cannot_stand c bytes) 0 (entries table)))) ≡ outcome (first_bare c 0 (leading (listed_in bytes table)))
lent_bare c bytes table e = ap outcome (table_bare c bytes table ∙ leading_bare c 0 (listed_in bytes table) e)
