-- The definitions held against the request's words, on inputs that are written out and for all that is lent. Assumes nothing.
use Rattle.std.specs.Prelude.{if◌then◌else◌}
use Prim.Native.Nat.{ℕ, zero, suc, ◌≤◌}
use native.Mathlib.Omega.{arith}
use mathlib.Core.Path.{◌≡◌, refl, sym, ap, subst, ◌∙◌}
use mathlib.Core.Bool.{Bool, true, false, not, ◌||◌, false≢true}
use mathlib.Core.Logic.{◌⊎◌, inl, inr, ⊎_elim}
use mathlib.Core.List.Memᴰ
use mathlib.Core.List.{List, [], ◌∷◌, map, cons≢nil, Memᴰ}
use mathlib.Core.Option.{Option, none, some, none-ne-some, some-injective}
use lib.Dec.{eqb, leb}
use Rattle.lists.proofs.Tests.{Says, says_eq, says_le, says_either, says_not, says_as}
use lib.ListN.{length, replicate, drop}
use Rattle.lists.specs.Lists.{text, begins, member, is_empty, any, at, last_or, onto, cut, unless_idle, drop_end, trim_end, gather, maybe}
use Rattle.characters.specs.Characters.{spelled_out, advice_of, has_release, has_repetition, six_bytes, advised, plus_characters, begins_version4, characters_of, is_break, body_start, body, role}
use Rattle.refusals.specs.declared.Fault.{Fault}
use Rattle.refusals.specs.declared.Fault.TheVariants.{MisplacedSegment, BadControl, ReferenceDiffers, CountWrong, NormalTooLong}
use Rattle.refusals.specs.declared.Refusal.{Refusal}
use Rattle.refusals.specs.Refusals.{number, place_if}
use Rattle.values.specs.Tokens.{Segment, unreleased, reading, taken, tokens_from, tokens, ends, place_of, segments, start}
use Rattle.values.specs.Values.{byte_of, bytes_of, end_place, value_of, values_of, repeats_of, elements_of}
use Rattle.values.specs.Trimming.{trim_repeat, trim_element, is_idle, trim_segment, trimmed, value_at, contents_of}
use Rattle.values.specs.Spelling.{Bytes, leads_break}
use Rattle.control_elements.specs.Control.{only_value, control_element, is_reference}
use Rattle.control_elements.specs.Notions.{Reference}
use Rattle.control_elements.proofs.Words.{reference_says}
use Rattle.stages.specs.Contents.{body_tokens, segments_of, contents, normal_characters, interchange, normal_form}
use Rattle.stages.specs.Stages.{refusal_of}
use Rattle.answers.specs.declared.Figures.{Figures}
use Rattle.answers.specs.Answers.{Answer, given, refused, accepted}
use Rattle.operations.specs.Judge.{figures_of, judge, stored_in, unless_refused}
use Rattle.operations.specs.Compare.{is_accepted}
use Rattle.operations.specs.ValueList.{Entry, entries, value_in}
use Rattle.operations.specs.Write.{numbers_where, bad_table, broken_start, bad_entry, bad_list}
use Rattle.operations.specs.Notions.{Record, BadTable}
use Rattle.operations.proofs.Words.{entry_is, fifteen_at}
use Rattle.acknowledgements.specs.Lent.{LentList, Lent, lent_by, element_lent, is_bad_lent, any_bad_lent}
use Rattle.acknowledgements.specs.Received.{unb_of, element_of, sender_of, recipient_of, level_received, version_received, action_code, characters_to_write, has_action_code, is_one_empty, cannot_be_acknowledged}
use Rattle.acknowledgements.specs.Notions.{CannotBeAcknowledged, other, reference, sender, recipient, BadLent, empty, bad_table_lem, bad_record, goes_on, AnyBadLent}
use Rattle.acknowledgements.specs.Acknowledgement.{only, word, acknowledgement, acknowledgement_text, acknowledge_refusal, acknowledge, acknowledge_output}

-- "with the received one's level, version, .. sender and recipient exchanged, and one message of UNH, UCI, UNT, its reference `1`. UCI
-- carries the received control reference, sender, recipient and an action code"; "segment count 3". Of UNB's element 1 only level and
-- version are taken, the other elements are whole and trimmed.
pub list_is : (l : Lent)
    → acknowledgement (text "UNB+UNOA:1:X+A?+A::+B:C++R'") l
    ≡ (word "UNB"
    ∷ ((text "UNOA" ∷ text "1" ∷ []) ∷ [])
    ∷ ((text "B" ∷ text "C" ∷ []) ∷ [])
    ∷ word "A+A"
    ∷ element_lent l.date
    ∷ element_lent l.reference
    ∷ [])
    ∷ (word "UNH" ∷ word "1" ∷ element_lent l.message ∷ [])
    ∷ (word "UCI" ∷ word "R" ∷ word "A+A" ∷ ((text "B" ∷ text "C" ∷ []) ∷ []) ∷ only (action_code (text "UNB+UNOA:1:X+A?+A::+B:C++R'")) ∷ [])
    ∷ (word "UNT" ∷ word "3" ∷ word "1" ∷ [])
    ∷ (word "UNZ" ∷ word "1" ∷ element_lent l.reference ∷ [])
    ∷ []
unfolding acknowledgement unb_of element_of level_received version_received contents segments_of body_tokens characters_of advised begins begins_version4 plus_characters six_bytes body_start body tokens tokens_from unreleased reading taken role has_release has_repetition segments cut onto ends contents_of trimmed trim_segment trim_element trim_repeat is_idle trim_end drop_end unless_idle is_empty elements_of repeats_of values_of value_of bytes_of byte_of gather start place_of end_place last_or at value_at maybe
list_is l = refl

-- "7 when accepted, 4 when refused by 10, 11 or 12"; "23 at 0 for any other refusal"
abbrev by : Fault → Option Refusal
by f = some (record { fault = f; place = 0 })

pub reported_are : (has_action_code none ≡ true)
    × (has_action_code (by MisplacedSegment) ≡ false)
    × (has_action_code (by BadControl) ≡ true)
    × (has_action_code (by ReferenceDiffers) ≡ true)
    × (has_action_code (by CountWrong) ≡ true)
    × (has_action_code (by NormalTooLong) ≡ false)
unfolding has_action_code maybe member
reported_are = (refl, refl, refl, refl, refl, refl)

pub accepted_seven : (s : List ℕ) → refusal_of s ≡ none → action_code s ≡ text "7"
unfolding action_code is_accepted maybe
accepted_seven s h = ap (λ (o : Option Refusal). if maybe true (λ r. false) o then text "7" else text "4") h

pub refused_four : (s : List ℕ) {r : Refusal} → refusal_of s ≡ some r → action_code s ≡ text "4"
unfolding action_code is_accepted maybe
refused_four s h = ap (λ (o : Option Refusal). if maybe true (λ r. false) o then text "7" else text "4") h

-- "if a lent list is empty, breaks 15 or has kind 0 or 1 after its first record"
abbrev lent_of : List ℕ → LentList
lent_of table = record { bytes = text "AB"; table = table }

pub lent_are : (is_bad_lent (lent_of []) ≡ true)
    × (is_bad_lent (lent_of (0 ∷ 0 ∷ 1 ∷ [])) ≡ false)
    × (is_bad_lent (lent_of (0 ∷ 0 ∷ 1 ∷ 2 ∷ 1 ∷ 1 ∷ 3 ∷ 0 ∷ 2 ∷ [])) ≡ false)
    × (is_bad_lent (lent_of (1 ∷ 0 ∷ 1 ∷ [])) ≡ true)
    × (is_bad_lent (lent_of (0 ∷ 0 ∷ 3 ∷ [])) ≡ true)
    × (is_bad_lent (lent_of (0 ∷ 0 ∷ 1 ∷ 0 ∷ 1 ∷ 1 ∷ [])) ≡ true)
    × (is_bad_lent (lent_of (0 ∷ 0 ∷ 1 ∷ 1 ∷ 1 ∷ 1 ∷ [])) ≡ true)
unfolding is_bad_lent bad_list bad_table numbers_where bad_entry broken_start leads_break is_break member entries value_in is_empty any at maybe place_if
lent_are = (refl, refl, refl, refl, refl, refl, refl)

-- ---- what is lent

-- "the date and time, the new control reference and the message identification", the bytes of each before its table
pub lent_by_lem : (a b c d e f : List ℕ)
    → let l : Lent = lent_by a b c d e f in
    (l.date.bytes ≡ a)
    × (l.date.table ≡ b)
    × (l.reference.bytes ≡ c)
    × (l.reference.table ≡ d)
    × (l.message.bytes ≡ e)
    × (l.message.table ≡ f)
lent_by_lem a b c d e f = (refl, refl, refl, refl, refl, refl)

says_empty : {A : Type 0} (xs : List A) → Says (is_empty xs) (xs ≡ [])
unfolding is_empty
says_empty [] = (λ h. refl, λ h. refl)
says_empty (x ∷ xs) = (λ h. absurd (false≢true h), λ h. absurd (cons≢nil h))

says_some : (xs : List ℕ) → Says (not (is_empty xs)) ((x : ℕ) × Memᴰ x xs)
unfolding is_empty
says_some [] = (λ h. absurd (false≢true h), λ h. absurd (Memᴰ.not-nil h.1))
says_some (x ∷ xs) = (λ h. (x, Memᴰ.head refl), λ h. refl)

-- one of a list passes a test, and where it stands
any_at : {A : Type 0} (t : A → Bool) (xs : List A) → Says (any t xs) ((n : ℕ) × (x : A) × (at xs n ≡ some x) × (t x ≡ true))
unfolding any at
any_at t [] = (λ h. absurd (false≢true h), λ h. absurd (none-ne-some h.1 h.2))
any_at {A} t (y ∷ ys) =
    says_as (says_either (t y) (any t ys) (λ h. h, λ h. h) (any_at t ys))
    (⊎_elim (λ h. (0, y, refl, h)) (λ k. (suc k.0, k.1, k.2, k.3)))
    (λ k. back k.0 k.1 k.2 k.3)
  where
    back : (n : ℕ) (x : A) → at (y ∷ ys) n ≡ some x → t x ≡ true
        → (t y ≡ true) ⊎ ((n : ℕ) × (x : A) × (at ys n ≡ some x) × (t x ≡ true))
    back zero x h k = inl (ap t (some-injective y x h) ∙ k)
    back (suc n) x h k = inr (n, x, h, k)

at_later : {A : Type 0} (xs : List A) (n : ℕ) → at (drop 1 xs) n ≡ at xs (suc n)
unfolding at
at_later [] n = refl
at_later (x ∷ xs) n = refl

-- "has kind 0 or 1 after its first record"
abbrev Later : List ℕ → Type 0
Later table = (n : ℕ) × (kind : ℕ) × (start : ℕ) × (size : ℕ) × Record table (suc n) kind start size × (kind ≤ 1)

later_says : (table : List ℕ) → Says (any (λ e. leb e.kind 1) (drop 1 (entries table))) (Later table)
later_says table =
    says_as (any_at (λ (e : Entry). leb e.kind 1) (drop 1 (entries table)))
    (λ k.
    let e : Entry = k.1 in
    (k.0, e.kind, e.start, e.size, (entry_is table (suc k.0) e).0 (sym (at_later (entries table) k.0) ∙ k.2), (says_le e.kind 1).0 k.3))
    (λ k.
    let e : Entry = record { kind = k.1; start = k.2; size = k.3 } in
    (k.0, e, at_later (entries table) k.0 ∙ (entry_is table (suc k.0) e).1 k.4, (says_le k.1 1).1 k.5))

-- a table without records is empty, or not a multiple of 3
no_records : (l : LentList) (table : List ℕ) → l.table ≡ table → entries table ≡ [] → BadLent l
unfolding entries
no_records l [] d h = empty d
no_records l (a ∷ []) d h = bad_table_lem (subst BadTable (sym d) (inr (inl (λ z. omega arith))))
no_records l (a ∷ b ∷ []) d h = bad_table_lem (subst BadTable (sym d) (inr (inl (λ z. omega arith))))
no_records l (a ∷ b ∷ c ∷ rest) d h = absurd (cons≢nil h)

-- "if a lent list is empty, breaks 15 or has kind 0 or 1 after its first record"
pub bad_lent_says : (l : LentList) → Says (is_bad_lent l) (BadLent l)
unfolding is_bad_lent entries
bad_lent_says l =
    let bare : Bool = is_empty (entries l.table) in
    let bad : Bool = not (is_empty (bad_list l.bytes l.table)) in
    let later : Bool = any (λ e. leb e.kind 1) (drop 1 (entries l.table)) in
    says_as
    (says_either (bare || bad) later
    (says_either bare bad (says_empty (entries l.table)) (says_some (bad_list l.bytes l.table)))
    (later_says l.table))
    (⊎_elim
    (⊎_elim
    (no_records l l.table refl)
    (λ m. ⊎_elim (λ h. bad_table_lem h.0) (bad_record m.0) ((fifteen_at l.bytes l.table m.0).0 m.1)))
    (λ k. goes_on k.0 k.1 k.2 k.3 k.4 k.5))
    back
  where
    back : BadLent l → ((entries l.table ≡ []) ⊎ ((p : ℕ) × Memᴰ p (bad_list l.bytes l.table))) ⊎ Later l.table
    back (empty e) = inl (inl (ap entries e))
    back (bad_table_lem h) = inl (inr (0, (fifteen_at l.bytes l.table 0).1 (inl (h, refl))))
    back (bad_record n h) = inl (inr (n, (fifteen_at l.bytes l.table n).1 (inr h)))
    back (goes_on n kind start size h k) = inr (n, kind, start, size, h, k)

-- of any of the three
pub any_lent_says : (l : Lent) → Says (any_bad_lent l) (AnyBadLent l)
unfolding any_bad_lent
any_lent_says l =
    says_as
    (says_either (is_bad_lent l.date || is_bad_lent l.reference) (is_bad_lent l.message)
    (says_either (is_bad_lent l.date) (is_bad_lent l.reference) (bad_lent_says l.date) (bad_lent_says l.reference))
    (bad_lent_says l.message))
    (⊎_elim (⊎_elim inl (λ h. inr (inl h))) (λ h. inr (inr h)))
    (⊎_elim (λ h. inl (inl h)) (⊎_elim (λ h. inl (inr h)) inr))

-- ---- 23

-- "for any other refusal of the received interchange"
abbrev Other : Answer → Type 0
Other a = (n : ℕ) × (p : ℕ) × (a ≡ record { number = n; values = p ∷ [] }) × ((n ≡ 10) ⊎ (n ≡ 11) ⊎ (n ≡ 12) → ⊥)

three_say : (n : ℕ) → Says (member n (10 ∷ 11 ∷ 12 ∷ [])) ((n ≡ 10) ⊎ (n ≡ 11) ⊎ (n ≡ 12))
unfolding member
three_say n =
    says_as
    (says_either (eqb n 10) (eqb n 11 || (eqb n 12 || false)) (says_eq n 10)
    (says_either (eqb n 11) (eqb n 12 || false) (says_eq n 11) (says_either (eqb n 12) false (says_eq n 12) (false≢true, λ (h : ⊥). absurd h))))
    (⊎_elim inl (⊎_elim (λ h. inr (inl h)) (⊎_elim (λ h. inr (inr h)) (λ (h : ⊥). absurd h))))
    (⊎_elim inl (⊎_elim (λ h. inr (inl h)) (λ h. inr (inr (inl h)))))

other_says : (i : Figures) (o : Option Refusal) → Says (not (has_action_code o)) (Other (maybe (accepted i) refused o))
unfolding has_action_code maybe accepted given refused spelled_out
other_says i none = (
  λ h. absurd (false≢true h),
  λ h. absurd (omega (arith, ap (λ (a : Answer). length a.values) h.2)),
)
other_says i (some r) =
    let n : ℕ = number r.fault in
    says_as (says_not (member n (10 ∷ 11 ∷ 12 ∷ [])) (three_say n))
    (λ h. (n, r.place, refl, h))
    (λ h. subst (λ (m : ℕ). (m ≡ 10) ⊎ (m ≡ 11) ⊎ (m ≡ 12) → ⊥) (sym (ap (λ (a : Answer). a.number) h.2)) h.3)

-- UNB's reference is "as document 01 asks"
referenced : (gs : List Segment)
    → Says (is_reference (maybe none only_value (at (maybe [] (λ unb. unb) (at (map contents_of gs) 0)) 5)))
    ((unb : List (List (List Bytes))) × (at (map contents_of gs) 0 ≡ some unb) × Reference unb 5)
unfolding at maybe is_reference control_element
referenced [] = (λ h. absurd (false≢true h), λ h. absurd (none-ne-some h.0 h.1))
referenced (g ∷ gs) =
    says_as (reference_says g 5) (λ h. (contents_of g, refl, h))
    (λ h. subst (λ (unb : List (List (List Bytes))). Reference unb 5) (sym (some-injective (contents_of g) h.0 h.1)) h.2)

-- "one empty value"
one_empty : (o : Option (List (List Bytes))) → Says (is_one_empty (maybe [] (λ element. element) o)) (o ≡ some (([] ∷ []) ∷ []))
unfolding is_one_empty is_idle is_empty maybe
one_empty none = (λ h. absurd (false≢true h), λ h. absurd (none-ne-some (([] ∷ []) ∷ []) h))
one_empty (some e) = (λ h. ap some (there e h), λ h. ap (is_idle (is_idle is_empty)) (some-injective e (([] ∷ []) ∷ []) h))
  where
    there : (e : List (List Bytes)) → is_idle (is_idle is_empty) e ≡ true → e ≡ ([] ∷ []) ∷ []
    there [] h = absurd (false≢true h)
    there ([] ∷ []) h = absurd (false≢true h)
    there (([] ∷ []) ∷ []) h = refl
    there (((b ∷ bs) ∷ []) ∷ []) h = absurd (false≢true h)
    there ((v ∷ w ∷ vs) ∷ []) h = absurd (false≢true h)
    there (r ∷ q ∷ rs) h = absurd (false≢true h)

emptied : (position : ℕ) (o : Option (List (List (List Bytes))))
    → Says (is_one_empty (maybe [] (λ element. element) (at (maybe [] (λ unb. unb) o) position)))
    ((unb : List (List (List Bytes))) × (o ≡ some unb) × (at unb position ≡ some (([] ∷ []) ∷ [])))
unfolding is_one_empty is_idle maybe at
emptied position none = (λ h. absurd (false≢true h), λ h. absurd (none-ne-some h.0 h.1))
emptied position (some unb) =
    says_as (one_empty (at unb position)) (λ h. (unb, refl, h))
    (λ h. ap (λ (u : List (List (List Bytes))). at u position) (some-injective unb h.0 h.1) ∙ h.2)

-- 23 is met exactly where the request says so
pub unreportable_says : (s : List ℕ) → Says (cannot_be_acknowledged s) (CannotBeAcknowledged s)
unfolding cannot_be_acknowledged unb_of element_of judge contents
unreportable_says s =
    let unjudged : Bool = not (has_action_code (refusal_of s)) in
    let named : Bool = is_reference (maybe none only_value (at (unb_of s) 5)) in
    says_as
    (says_either (unjudged || not named || is_one_empty (sender_of s)) (is_one_empty (recipient_of s))
    (says_either (unjudged || not named) (is_one_empty (sender_of s))
    (says_either unjudged (not named) (other_says (figures_of s) (refusal_of s)) (says_not named (referenced (segments_of s))))
    (emptied 2 (at (contents s) 0)))
    (emptied 3 (at (contents s) 0)))
    (⊎_elim
    (⊎_elim
    (⊎_elim (λ h. other h.0 h.1 h.2 h.3) (λ h. reference (λ unb d k. h (unb, d, k))))
    (λ h. sender h.0 h.1 h.2))
    (λ h. recipient h.0 h.1 h.2))
    back
  where
    Named : Type 0
    Named = (unb : List (List (List Bytes))) × (at (contents s) 0 ≡ some unb) × Reference unb 5

    Empty : ℕ → Type 0
    Empty position = (unb : List (List (List Bytes))) × (at (contents s) 0 ≡ some unb) × (at unb position ≡ some (([] ∷ []) ∷ []))

    back : CannotBeAcknowledged s → ((Other (judge s) ⊎ (Named → ⊥)) ⊎ Empty 2) ⊎ Empty 3
    back (other n p h k) = inl (inl (inl (n, p, h, k)))
    back (reference h) = inl (inl (inr (λ k. h k.0 k.1 k.2)))
    back (sender unb d h) = inl (inr (unb, d, h))
    back (recipient unb d h) = inr (unb, d, h)

-- "mark and normal-form service characters"
pub form_says : (s : List ℕ) → characters_to_write s ≡ characters_of (normal_form s)
unfolding characters_to_write normal_form interchange normal_characters advice_of spelled_out characters_of advised begins six_bytes
form_says s = refl

-- "Refusals, output zero"
pub refused_zero : (s : List ℕ) (l : Lent) (output : List ℕ) {r : Refusal} → acknowledge_refusal s l output ≡ some r
    → (acknowledge s l output ≡ refused r) × (acknowledge_output s l output ≡ replicate (length output) 0)
unfolding acknowledge acknowledge_output maybe unless_refused
refused_zero s l output h = (
  ap (maybe (given (length (acknowledgement_text s l) ∷ [])) refused) h,
  ap (λ (o : Option Refusal). unless_refused o (stored_in output (acknowledgement_text s l)) (replicate (length output) 0)) h,
)
