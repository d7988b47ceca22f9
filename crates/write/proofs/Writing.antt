-- One stage of Write after the other, and what the output is left with. Assumes nothing.
use Rattle.std.specs.Option.{ok_or}
use Rattle.std.specs.Prelude.{if◌then◌else◌, Option as Perhaps, Some, None, Result, Ok, Err}
use Prim.Native.Nat.{ℕ, ◌≤◌}
use mathlib.Core.Path.{◌≡◌, refl, sym, ap, ap₂, ◌∙◌}
use mathlib.Core.Bool.{Bool, true, false, not, ◌&&◌, ◌||◌}
use mathlib.Core.List.{List, [], ◌∷◌, ◌++◌, append-nil}
use mathlib.Core.Option.{Option, none, some, some-ne-none}
use native.Mathlib.Omega.{arith}
use Prim.Native.Nat.{◌%◌}
use lib.ListN.{length, take, drop, replicate, length-replicate, get_or}
use lib.Seq.{sets, length-sets, take_at, drop-length}
use lib.Dec.{eqb, ltb}
use borrow.Author.Tests.{lt-ltb, le-ltb, ltb-false}
use Rattle.lists.specs.Lists.{at, maybe, is_empty}
use Rattle.lists.proofs.Texts.{or_none_left, or_none_right, and_right}
use Rattle.characters.specs.declared.Characters.{Characters}
use Rattle.characters.specs.Characters.{six_bytes, usable, bad_advice}
use Rattle.refusals.specs.declared.Fault.TheVariants.{TooLong, UnusableAdvice, BufferShort, BadList, NeedsRelease}
use Rattle.refusals.specs.declared.Refusal.{Refusal}
use Rattle.refusals.specs.Refusals.{met, lowest, or_else, place_if, answering, outcome, Outcome}
use Rattle.refusals.proofs.Stages.{place_none, one_place, answering_first, failed_is, passed_is}
use Rattle.stage_walks.specs.Walks.{refuse}
use Rattle.stages.specs.Contents.{interchange}
use Rattle.stages.specs.Places.{is_over, too_long, unusable_advice}
use Rattle.stages.specs.Stages.{refusal_of}
use Rattle.stages.proofs.Over.{within}
use Rattle.stages.proofs.Stages.{later_answers}
use Rattle.values.specs.Spelling.{spell}
use Rattle.answers.specs.declared.Figures.{Figures}
use Rattle.answers.specs.Answers.{given, refused, told_stored, Stored, Judged}
use Rattle.operations.specs.Judge.{short_for, stored_in, unless_refused}
use Rattle.operations.specs.ValueList.{Entry, entries, listed_in, segments_listed, trim_list}
use Rattle.operations.specs.Write.{numbers_where, bad_table, bad_list, unusable_bytes, cannot_stand, needs_release, written_text, write_stages}
use Rattle.operations.proofs.Answered.{front_stored}
use Rattle.contracts.specs.Promises.{Judges}
use Rattle.contracts.proofs.Told.{given_is, refused_is}
use Rattle.judge.proofs.Told.{told_accepted, told_refused}
use Rattle.trimming_laws.specs.Kinds.{first_kind}
use Rattle.trimming_laws.proofs.Tables.{first_listed}
use Rattle.normal_form_laws.proofs.Openings.{advice_good}
use Rattle.value_lists.proofs.Records.{table_bad, table_good, none_bad}
use Rattle.value_lists.specs.Records.{well_listed}
use Rattle.value_list_text.specs.Composing.{composed_text, short_length}
use Rattle.value_list_text.proofs.Lengths.{short_tells, short_tells_over}
use Rattle.value_list_text.proofs.Composed.{composed_written}
use Rattle.write.specs.Writing.{cleared, Tried, service_of, size_in, Passed}
use Rattle.refusals.specs.Limits.{most_bytes, most_numbers}

-- ---- what is refused

err_same : {A : Type 0} {o : Result A Refusal} {q r : Refusal} → o ≡ Err q → o ≡ Err r → q ≡ r
err_same d e = cc

ok_same : {A : Type 0} {o : Result A Refusal} {x y : A} → o ≡ Ok x → o ≡ Ok y → x ≡ y
ok_same d e = cc

err_not_ok : {A : Type 0} {o : Result A Refusal} {q : Refusal} {x : A} → o ≡ Err q → o ≡ Ok x → ⊥
err_not_ok d e = cc

not_false : (b : Bool) → not b ≡ false → b ≡ true
not_false true e = refl
not_false false e = cc

-- a whole buffer of zeros
pub all_zero : (l : List ℕ) → sets l 0 (replicate (length l) 0) ≡ replicate (length l) 0
unfolding stored_in
all_zero l =
    let zeros : List ℕ = replicate (length l) 0 in
    let long : length zeros ≡ length l = length-replicate (length l) 0 in
    front_stored l zeros (omega arith)
    ∙ ap (λ (n : ℕ). zeros ++ drop n l) long
    ∙ ap (λ (rest : List ℕ). zeros ++ rest) (drop-length l)
    ∙ append-nil zeros

-- what was tried is what is written, once a refusal has cleared the output
pub finished : {o : Option Refusal} {size : ℕ} {text before : List ℕ} (r : Stored) {tried : List ℕ} (s : Stored) {after : List ℕ}
    → Tried o size text before r tried → (s ≡ r) × (after ≡ cleared r tried)
    → (told_stored s ≡ maybe (given (size ∷ [])) refused o) × (after ≡ unless_refused o text (replicate (length before) 0))
unfolding told_stored maybe unless_refused
finished {o} {size} {text} {before} (Ok n) {tried} s t (e, z) =
    let (met, same, left) = t.passed n refl in (
      ap told_stored e ∙ ap (λ (k : ℕ). given (k ∷ [])) same ∙ sym (ap (maybe (given (size ∷ [])) refused) met),
      z ∙ left ∙ sym (ap (λ (p : Option Refusal). unless_refused p text (replicate (length before) 0)) met),
    )
finished {o} {size} {text} {before} (Err q) {tried} s t (e, z) =
    let met = t.failed q refl in (
      ap told_stored e ∙ sym (ap (maybe (given (size ∷ [])) refused) met),
      z ∙ ap (λ (k : ℕ). replicate k 0) t.long ∙ sym (ap (λ (p : Option Refusal). unless_refused p text (replicate (length before) 0)) met),
    )

-- ---- 15

-- what a list has that 15 passes
pub list_passed : (bytes table : List ℕ) → lowest (met BadList (bad_list bytes table)) ≡ none → Passed bytes table
unfolding bad_table first_kind at maybe listed_in well_listed
list_passed bytes table h = step (bad_table table) refl
  where
    long : Bool
    long = ltb most_numbers (length table)

    odd : Bool
    odd = not (eqb (length table % 3) 0)

    inner : List Entry → Bool
    inner es = maybe false (λ e. not (eqb e.kind 0)) (at es 0)

    step : (b : Bool) → bad_table table ≡ b → Passed bytes table
    step true e = absurd (some-ne-none (record { fault = BadList; place = 0 }) (sym (table_bad bytes table e) ∙ h))
    step false e =
        record {
          good = none_bad bytes 0 (entries table) (sym (table_good bytes table e) ∙ h);
          short = ltb-false most_numbers (length table) (or_none_left long odd (or_none_left (long || odd) (inner (entries table)) e));
          first = first_listed bytes (entries table) (or_none_right (long || odd) (inner (entries table)) e);
        }

-- ---- 3 to 13

module _ (s : List ℕ) {j : Judged} (e : Judges s j) where
  -- Judge's answer, of which the length alone is told
  pub judged_refused : {q : Refusal} {r : Stored} → j ≡ Err q → r ≡ Err q → told_stored r ≡ maybe (given (length s ∷ [])) refused (refusal_of s)
  unfolding told_stored maybe
  judged_refused d t = ap told_stored t ∙ sym (ap (maybe (given (length s ∷ [])) refused) (told_refused s e d))

  pub judged_accepted : {i : Figures} → j ≡ Ok i → told_stored (Ok (length s)) ≡ maybe (given (length s ∷ [])) refused (refusal_of s)
  unfolding told_stored maybe
  judged_accepted d = sym (ap (maybe (given (length s ∷ [])) refused) (told_accepted s e d).0)

-- the text is stored, and Judge answers for it
pub text_tried : (text : List ℕ) {l₀ l₁ : List ℕ} {n : ℕ} (r : Stored) {o : Option Refusal} → n ≡ length text → length text ≤ length l₀
    → l₁ ≡ sets l₀ 0 text → o ≡ refusal_of text → told_stored r ≡ maybe (given (length (take n l₁) ∷ [])) refused (refusal_of (take n l₁))
    → Tried o (length text) (stored_in l₀ text) l₀ r l₁
unfolding stored_in told_stored
text_tried text {l₀} {l₁} {n} r {o} e h p a w =
    let held : l₁ ≡ stored_in l₀ text = p ∙ front_stored l₀ text h in
    let read : take n l₁ ≡ text = ap (take n) held ∙ take_at text (drop (length text) l₀) n (sym e) in
    let told : told_stored r ≡ maybe (given (length text ∷ [])) refused o =
    w ∙ ap (λ (t : List ℕ). maybe (given (length t ∷ [])) refused (refusal_of t)) read ∙ ap (maybe (given (length text ∷ [])) refused) (sym a) in
    record {
      failed = λ q d. refused_is (length text ∷ []) q o (sym (ap told_stored d) ∙ told);
      passed = λ k d. let (met, same) = given_is (length text ∷ []) (k ∷ []) o (sym (ap told_stored d) ∙ told) in (met, ap (λ (l : List ℕ). get_or l 0 0) same, held);
      long = ap length p ∙ length-sets l₀ 0 text;
    }

-- a refusal answers, and the output is as long as it was
pub tried_refused : {o : Option Refusal} {size : ℕ} {text before : List ℕ} {q : Refusal} {r : Stored} {after : List ℕ} → o ≡ some q → r ≡ Err q
    → length after ≡ length before → Tried o size text before r after
tried_refused e d l = record {
  failed = λ p f. e ∙ ap some (err_same d f);
  passed = λ n f. absurd (err_not_ok d f);
  long = l;
}

-- ---- a size

abbrev too_long_refusal : Refusal
too_long_refusal = record { fault = TooLong; place = 0 }

abbrev too_short : ℕ → Stored
too_short n = Err (record { fault = BufferShort; place = n })

-- a length that is not told is over
pub size_over : (room : ℕ) (o : Perhaps ℕ) {q : Refusal} → ok_or o too_long_refusal ≡ Err q → Err q ≡ size_in room o
unfolding size_in
size_over room None e = sym e
size_over room (Some n) e = absurd (err_not_ok e refl)

-- one that is told is asked by the room
pub size_told : (room : ℕ) (o : Perhaps ℕ) {n : ℕ} {b : Bool} → ok_or o too_long_refusal ≡ Ok n → ltb room n ≡ b
    → (if b then too_short n else Ok n) ≡ size_in room o
unfolding size_in
size_told room None e t = absurd (err_not_ok refl e)
size_told room (Some k) {n} {b} e t =
    let same : k ≡ n = ok_same refl e in
    ap₂ (λ (m : ℕ) (d : Bool). if d then too_short m else Ok m) (sym same) (sym t ∙ ap (ltb room) (sym same))

-- ---- six bytes

module _ (service : List ℕ) where
  abbrev unusable : Bool
  unusable = not (eqb (length service) 6 && usable (six_bytes service))

  abbrev service_by : Bool → Result Characters Refusal
  service_by b = if is_empty (place_if b 0) then Ok (six_bytes service) else Err (record { fault = UnusableAdvice; place = 0 })

  pub service_is : {six fit : Bool} → eqb (length service) 6 ≡ six → usable (six_bytes service) ≡ fit → service_by (not (six && fit)) ≡ service_of service
  unfolding service_of unusable_bytes
  service_is d e = ap₂ (λ (six fit : Bool). service_by (not (six && fit))) (sym d) (sym e)

-- ---- stage by stage

module _ (service bytes table output : List ℕ) where
  abbrev text : List ℕ
  text = written_text service bytes table

  -- what answers where so many stages are passed
  abbrev pub left : ℕ → Option Refusal
  left passed = answering (drop passed (write_stages service bytes table output))

  -- 15
  pub list_answers : {o : Option Refusal} → lowest (met BadList (bad_list bytes table)) ≡ o → left 0 ≡ or_else o (left 1)
  unfolding write_stages
  list_answers {o} e = answering_first (met BadList (bad_list bytes table)) (drop 1 (write_stages service bytes table output)) o e

  module _ {stage : Outcome} (e : stage ≡ outcome (lowest (met BadList (bad_list bytes table)))) where
    pub list_failed : {q : Refusal} → stage ≡ Err q → left 0 ≡ some q
    unfolding or_else
    list_failed {q} d = list_answers (failed_is _ q (sym e ∙ d))

    pub list_met : stage ≡ Ok tt → left 0 ≡ left 1
    unfolding or_else
    list_met d = list_answers (passed_is _ (sym e ∙ d))

  -- 2
  pub service_answers : (b : Bool) → unusable service ≡ b → left 1 ≡ (if b then refuse UnusableAdvice 0 else left 2)
  unfolding write_stages unusable_bytes
  service_answers b e = one_place UnusableAdvice 0 (drop 2 (write_stages service bytes table output)) e

  module _ {stage : Result Characters Refusal} (e : stage ≡ service_of service) where
    pub service_failed : {q : Refusal} → stage ≡ Err q → left 1 ≡ some q
    unfolding service_of unusable_bytes place_if is_empty
    service_failed {q} d = step (unusable service) refl (sym e ∙ d)
      where
        step : (b : Bool) → unusable service ≡ b
            → service_by service b ≡ Err q → left 1 ≡ some q
        step true t h = service_answers true t ∙ ap some (err_same refl h)
        step false t h = absurd (err_not_ok h refl)

    pub service_met : {c : Characters} → stage ≡ Ok c → (left 1 ≡ left 2) × (c ≡ six_bytes service) × (usable c ≡ true)
    unfolding service_of unusable_bytes place_if is_empty
    service_met {c} d = step (unusable service) refl (sym e ∙ d)
      where
        step : (b : Bool) → unusable service ≡ b
            → service_by service b ≡ Ok c
            → (left 1 ≡ left 2) × (c ≡ six_bytes service) × (usable c ≡ true)
        step true t h = absurd (err_not_ok refl h)
        step false t h =
            let same : c ≡ six_bytes service = ok_same h refl in
            (service_answers false t, same, ap usable same ∙ and_right (eqb (length service) 6) (usable (six_bytes service)) (not_false _ t))

  -- 16, which is asked with the characters
  module _ {c : Characters} (six : c ≡ six_bytes service) {stage : Outcome}
      (e : stage ≡ outcome (lowest (met NeedsRelease (numbers_where (cannot_stand c bytes) 0 (entries table))))) where
    release_answers : {o : Option Refusal} → lowest (met NeedsRelease (needs_release service bytes table)) ≡ o → left 2 ≡ or_else o (left 3)
    unfolding write_stages
    release_answers {o} d =
        answering_first (met NeedsRelease (needs_release service bytes table)) (drop 3 (write_stages service bytes table output)) o d

    asked : stage ≡ outcome (lowest (met NeedsRelease (needs_release service bytes table)))
    unfolding needs_release
    asked = e ∙ ap (λ (d : Characters). outcome (lowest (met NeedsRelease (numbers_where (cannot_stand d bytes) 0 (entries table))))) six

    pub release_failed : {q : Refusal} → stage ≡ Err q → left 2 ≡ some q
    unfolding or_else
    release_failed {q} d = release_answers (failed_is _ q (sym asked ∙ d))

    pub release_met : stage ≡ Ok tt → left 2 ≡ left 3
    unfolding or_else
    release_met d = release_answers (passed_is _ (sym asked ∙ d))

  -- 1
  size_answers : {b : Bool} → ltb most_bytes (length text) ≡ b → left 3 ≡ (if b then refuse TooLong 0 else left 4)
  unfolding write_stages too_long is_over
  size_answers e = one_place TooLong 0 (drop 4 (write_stages service bytes table output)) e

  -- 14
  lent_answers : {b : Bool} → ltb (length output) (length text) ≡ b → left 4 ≡ (if b then refuse BufferShort (length text) else left 5)
  unfolding write_stages short_for
  lent_answers e = one_place BufferShort (length text) (drop 5 (write_stages service bytes table output)) e

  -- what follows answers as Judge does, since 1 and 2 are not met by the text
  judged_answers : usable (six_bytes service) ≡ true → length text ≤ most_bytes → left 5 ≡ refusal_of text
  unfolding write_stages written_text interchange too_long unusable_advice
  judged_answers u h =
      later_answers text ((within text 0).1 h)
      ((place_none (bad_advice text) 0).1 (advice_good (six_bytes service) (spell (six_bytes service) (trim_list (segments_listed (listed_in bytes table)))) u))

  -- from 1 on, where the text's length is known as it is measured
  module _ {c : Characters} (six : c ≡ six_bytes service) (p : Passed bytes table) where
    abbrev composed : List ℕ
    composed = composed_text c (listed_in bytes table)

    -- what is composed is the text
    composed_is : composed ≡ text
    unfolding written_text
    composed_is =
        composed_written c (listed_in bytes table) p.first
        ∙ ap (λ (d : Characters). interchange d (trim_list (segments_listed (listed_in bytes table)))) six

    fits : length text ≤ most_bytes → left 3 ≡ left 4
    fits h = size_answers (le-ltb most_bytes (length text) h)

    size_failed : (o : Perhaps ℕ) → o ≡ short_length (length composed) → {q : Refusal} → size_in (length output) o ≡ Err q → left 3 ≡ some q
    unfolding size_in
    size_failed None m h =
        let over = short_tells_over (length composed) m refl in
        size_answers (lt-ltb most_bytes (length text) (omega (arith, over, ap length composed_is))) ∙ ap some (err_same refl h)
    size_failed (Some n) m {q} h =
        let (same, short) = short_tells (length composed) m refl in
        let long : n ≡ length text = same ∙ ap length composed_is in
        step (ltb (length output) n) refl long (omega (arith, short, ap length composed_is)) h
      where
        step : (b : Bool) → ltb (length output) n ≡ b → n ≡ length text → length text ≤ most_bytes
            → (if b then too_short n else Ok n) ≡ Err q → left 3 ≡ some q
        step true t long short k =
            fits short ∙ lent_answers (ap (ltb (length output)) (sym long) ∙ t) ∙ ap (refuse BufferShort) (sym long) ∙ ap some (err_same refl k)
        step false t long short k = absurd (err_not_ok k refl)

    size_met : (o : Perhaps ℕ) → o ≡ short_length (length composed) → {n : ℕ} → size_in (length output) o ≡ Ok n
        → (left 3 ≡ left 5) × (n ≡ length composed) × (n ≤ most_bytes) × (n ≤ length output)
    unfolding size_in
    size_met None m h = absurd (err_not_ok refl h)
    size_met (Some k) m {n} h = step (ltb (length output) k) refl h
      where
        step : (b : Bool) → ltb (length output) k ≡ b → (if b then too_short k else Ok k) ≡ Ok n
            → (left 3 ≡ left 5) × (n ≡ length composed) × (n ≤ most_bytes) × (n ≤ length output)
        step true t g = absurd (err_not_ok refl g)
        step false t g =
            let (same, short) = short_tells (length composed) m refl in
            let told : k ≡ n = ok_same refl g in
            let long : length composed ≡ length text = ap length composed_is in
            let room : k ≤ length output = ltb-false (length output) k t in (
              fits (omega (arith, short, long)) ∙ lent_answers (le-ltb (length output) (length text) (omega (arith, room, same, long))),
              sym told ∙ same,
              omega (arith, told, same, short),
              omega (arith, told, room),
            )

    module _ {o : Perhaps ℕ} (m : o ≡ short_length (length composed)) {stage : Stored} (e : stage ≡ size_in (length output) o) where
      pub text_failed : {q : Refusal} → stage ≡ Err q → left 3 ≡ some q
      text_failed d = size_failed o m (sym e ∙ d)

      module _ {n : ℕ} (d : stage ≡ Ok n) where
        pub text_met : (left 3 ≡ left 5) × (n ≡ length composed) × (n ≤ most_bytes) × (n ≤ length output)
        text_met = size_met o m (sym e ∙ d)

        -- the text is stored, and Judge answers for it
        pub text_done : {front : Option Refusal} {l₁ : List ℕ} (r : Stored) → usable c ≡ true → front ≡ left 3 → l₁ ≡ sets output 0 composed
            → told_stored r ≡ maybe (given (length (take n l₁) ∷ [])) refused (refusal_of (take n l₁)) → Tried front (length text) (stored_in output text) output r l₁
        text_done r u f p w =
            let (on, same, short, room) = text_met in
            let long : n ≡ length text = same ∙ ap length composed_is in
            text_tried text r long (omega (arith, long, room)) (p ∙ ap (sets output 0) composed_is)
            (f ∙ on ∙ judged_answers (sym (ap usable six) ∙ u) (omega (arith, long, short))) w
