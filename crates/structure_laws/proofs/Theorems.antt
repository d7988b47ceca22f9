-- The record of theorems. Assumes nothing.
use Prim.Native.Nat.{ℕ, ◌≤◌}
use mathlib.Core.Path.{◌≡◌, refl, sym, ap, subst, ◌∙◌}
use mathlib.Core.Bool.{Bool, true, false}
use mathlib.Core.Logic.{◌↔◌, ⊎_elim}
use mathlib.Core.List.{List, [], ◌∷◌, ◌++◌, Memᴰ}
use mathlib.Core.Option.{Option, none, some, none-ne-some}
use native.Mathlib.Omega.{arith}
use lib.Dec.{leb}
use lib.ListN.{get_or}
use borrow.Author.Tests.{leb-true, leb-false}
use Rattle.refusals.specs.declared.Fault.{Fault}
use Rattle.refusals.specs.declared.Fault.TheVariants.{UnsoundTable, UnmatchedBody}
use Rattle.refusals.specs.declared.Refusal.{Refusal}
use Rattle.refusals.specs.Refusals.{number, answering}
use Rattle.stages.specs.Stages.{places_of, stages_in}
use Rattle.answers.specs.Answers.{Answer, refused}
use Rattle.operations.specs.Judge.{judge}
use Rattle.operations.specs.Notions.{Lowest}
use Rattle.acceptance_laws.proofs.Judged.{judged_refused}
use Rattle.message_tables.specs.Soundness.{table_faults}
use Rattle.message_tables.specs.Structure.{structure_of}
use Rattle.message_tables.specs.Notions.{Faulty}
use Rattle.message_tables.proofs.Words.{faulty_exactly, sound_says}
use Rattle.segments.specs.Tags.{tag_of}
use Rattle.values.specs.Tokens.{Segment}
use Rattle.message_structures.specs.Walking.{unmatched}
use Rattle.message_structures.specs.Bodies.{unmatched_bodies}
use Rattle.message_structures.specs.Judging.{judge_by_table}
use Rattle.message_table_laws.proofs.Scanning.{fault_lowest, sound_none, sound_first}
use Rattle.message_table_laws.proofs.Tags.{sound_tags}
use Rattle.message_table_laws.specs.Scanning.{first_fault}
use Rattle.message_structures.specs.Notions.{Message, body_of, StopsAt}
use Rattle.message_structures.proofs.Bodies.{stops_exactly}
use Rattle.structure_laws.specs.Notions.{Sound, OnceIn, Matches, Spelled, Passes12, refused_at}
use Rattle.structure_laws.specs.Theorems.{Structures}
use Rattle.structure_walks.proofs.Ends.{unmatched_end}
use Rattle.message_structures.proofs.Answered.{unsound_answers, earlier_answers, unmatched_answers, matched_answers}
use Rattle.structure_laws.proofs.Exactly.{never_more, exactly, no_entries}

-- ---- answers told apart

one_place : (f : Fault) (p q : ℕ) → refused_at f p ≡ refused_at f q → p ≡ q
unfolding refused
one_place f p q e = ap (λ (a : Answer). get_or a.values 0 0) e

one_number : (f g : Fault) (p q : ℕ) → refused_at f p ≡ refused_at g q → number f ≡ number g
unfolding refused
one_number f g p q e = ap (λ (a : Answer). a.number) e

-- Judge never refuses by a fault that no input meets
never_judged : (s : List ℕ) (f : Fault) (p : ℕ) → places_of f s ≡ [] → judge s ≡ refused_at f p → ⊥
unfolding refused
never_judged s f p unmet e = mathlib.Core.List.Memᴰ.not-nil (subst (Memᴰ p) unmet ((judged_refused s f p).0 e).met)

-- ---- the lowest of some places

least : (p : ℕ) (ps : List ℕ) → (m : ℕ) × Memᴰ m (p ∷ ps) × ((q : ℕ) → Memᴰ q (p ∷ ps) → m ≤ q)
least p [] = (p, mathlib.Core.List.Memᴰ.head refl, λ q m. omega (arith, mathlib.Core.List.Memᴰ.eq_of_singleton m))
least p (n ∷ ps) = step (least n ps)
  where
    step : (m : ℕ) × Memᴰ m (n ∷ ps) × ((q : ℕ) → Memᴰ q (n ∷ ps) → m ≤ q)
        → (m : ℕ) × Memᴰ m (p ∷ n ∷ ps) × ((q : ℕ) → Memᴰ q (p ∷ n ∷ ps) → m ≤ q)
    step (m, own, low) = pick (leb p m) refl
      where
        pick : (b : Bool) → leb p m ≡ b → (k : ℕ) × Memᴰ k (p ∷ n ∷ ps) × ((q : ℕ) → Memᴰ q (p ∷ n ∷ ps) → k ≤ q)
        pick true e = (
          p,
          mathlib.Core.List.Memᴰ.head refl,
          λ q k. ⊎_elim (λ (x : q ≡ p). omega arith) (λ x. omega (arith, low q x, leb-true p m e)) (mathlib.Core.List.Memᴰ.cases_cons k),
        )
        pick false e = (
          m,
          mathlib.Core.List.Memᴰ.tail own,
          λ q k. ⊎_elim (λ (x : q ≡ p). omega (arith, leb-false p m e)) (low q) (mathlib.Core.List.Memᴰ.cases_cons k),
        )

-- ---- every case of the answer

-- which of the stages answers, and what
data Case (table s : List ℕ) : Type 0 where
  unsound : (n : ℕ) → Lowest (λ q. Memᴰ q (table_faults table)) n → judge_by_table table s ≡ refused_at UnsoundTable n → Case table s
  unmet : (p : ℕ) → Sound table → Passes12 s → Lowest (λ q. Memᴰ q (unmatched_bodies table s)) p
      → judge_by_table table s ≡ refused_at UnmatchedBody p → Case table s
  judged : Sound table → (Passes12 s → (q : ℕ) → Memᴰ q (unmatched_bodies table s) → ⊥) → judge_by_table table s ≡ judge s → Case table s

module _ (table s : List ℕ) where
  sound_case : Sound table → Case table s
  sound_case sound = step (answering (stages_in s 1 12)) refl
    where
      bodies : (ps : List ℕ) → unmatched_bodies table s ≡ ps → Passes12 s → Case table s
      bodies [] e pass =
          let nowhere : (q : ℕ) → Memᴰ q (unmatched_bodies table s) → ⊥ = λ q m. mathlib.Core.List.Memᴰ.not-nil (subst (Memᴰ q) e m) in
          judged sound (λ x. nowhere) (matched_answers table s (sound_none table sound) nowhere)
      bodies (p ∷ ps) e pass =
          let (m, own, low) = least p ps in
          let here : Memᴰ m (unmatched_bodies table s) = subst (Memᴰ m) (sym e) own in
          let first : (q : ℕ) → Memᴰ q (unmatched_bodies table s) → m ≤ q = λ q k. low q (subst (Memᴰ q) e k) in
          unmet m sound pass (here, first) (unmatched_answers table s m (sound_none table sound) pass here first)

      step : (o : Option Refusal) → answering (stages_in s 1 12) ≡ o → Case table s
      step none e = bodies (unmatched_bodies table s) refl e
      step (some r) e =
          let (a, b) = earlier_answers table s r (sound_none table sound) e in
          judged sound (λ pass. absurd (none-ne-some r (sym pass ∙ e))) (a ∙ sym b)

  case : Case table s
  case = step (first_fault table) refl
    where
      step : (o : Option ℕ) → first_fault table ≡ o → Case table s
      step none e = sound_case ((sound_first table).1 e)
      step (some n) e =
          let low = fault_lowest table n e in
          unsound n low (unsound_answers table s n low.0 low.1)

  -- 21
  twenty_one : (n : ℕ) → (judge_by_table table s ≡ refused_at UnsoundTable n) ↔ Lowest (Faulty table) n
  unfolding places_of
  twenty_one n = (
    step case,
    λ low. unsound_answers table s n ((faulty_exactly table n).1 low.0) (λ q m. low.1 q ((faulty_exactly table q).0 m)),
  )
    where
      worded : (m : ℕ) → Lowest (λ q. Memᴰ q (table_faults table)) m → Lowest (Faulty table) m
      worded m low = ((faulty_exactly table m).0 low.0, λ q k. low.1 q ((faulty_exactly table q).1 k))

      step : Case table s → judge_by_table table s ≡ refused_at UnsoundTable n → Lowest (Faulty table) n
      step (unsound m low e) k = subst (Lowest (Faulty table)) (one_place UnsoundTable m n (sym e ∙ k)) (worded m low)
      step (unmet p sound pass low e) k = absurd (omega (arith, one_number UnmatchedBody UnsoundTable p n (sym e ∙ k)))
      step (judged sound nowhere e) k = absurd (never_judged s UnsoundTable n refl (sym e ∙ k))

  -- the lowest place of 22 is that at which the walk stops
  lowest_stop : (p : ℕ) → Lowest (λ q. Memᴰ q (unmatched_bodies table s)) p ↔ Lowest (StopsAt table s) p
  lowest_stop p = (
    λ low. ((stops_exactly table s p).0 low.0, λ q k. low.1 q ((stops_exactly table s q).1 k)),
    λ low. ((stops_exactly table s p).1 low.0, λ q k. low.1 q ((stops_exactly table s q).0 k)),
  )

  twenty_two : (p : ℕ) → Sound table → Passes12 s → (judge_by_table table s ≡ refused_at UnmatchedBody p) ↔ Lowest (StopsAt table s) p
  unfolding places_of
  twenty_two p sound pass =
      (step case, λ low. let (here, first) = (lowest_stop p).1 low in unmatched_answers table s p (sound_none table sound) pass here first)
    where
      step : Case table s → judge_by_table table s ≡ refused_at UnmatchedBody p → Lowest (StopsAt table s) p
      step (unsound m low e) k = absurd (omega (arith, one_number UnsoundTable UnmatchedBody m p (sym e ∙ k)))
      step (unmet q x y low e) k =
          (lowest_stop p).0 (subst (Lowest (λ r. Memᴰ r (unmatched_bodies table s))) (one_place UnmatchedBody q p (sym e ∙ k)) low)
      step (judged x nowhere e) k = absurd (never_judged s UnmatchedBody p refl (sym e ∙ k))

  -- a body that is not spelled
  unspelled : Sound table → OnceIn table → Passes12 s
      → ((p : ℕ) × (judge_by_table table s ≡ refused_at UnmatchedBody p)) ↔ ((m : Message s) × (Spelled table (body_of m) → ⊥))
  unspelled sound once pass = (there, back)
    where
      there : (p : ℕ) × (judge_by_table table s ≡ refused_at UnmatchedBody p) → (m : Message s) × (Spelled table (body_of m) → ⊥)
      there (p, e) =
          let (m, left, u, q) = ((twenty_two p sound pass).0 e).0 in
          (m, λ spelled. none-ne-some left (sym ((exactly table sound once (body_of m)).1 spelled) ∙ u))

      found : (p : ℕ) → StopsAt table s p → Case table s → (q : ℕ) × (judge_by_table table s ≡ refused_at UnmatchedBody q)
      found p stop (unsound n low e) = absurd (mathlib.Core.List.Memᴰ.not-nil (subst (Memᴰ n) (sound_none table sound) low.0))
      found p stop (unmet q x y low e) = (q, e)
      found p stop (judged x nowhere e) = absurd (nowhere pass p ((stops_exactly table s p).1 stop))

      back : (m : Message s) × (Spelled table (body_of m) → ⊥) → (p : ℕ) × (judge_by_table table s ≡ refused_at UnmatchedBody p)
      back (m, no_choice) = step (unmatched tag_of (structure_of table) (body_of m)) refl
        where
          step : (o : Option (List Segment)) → unmatched tag_of (structure_of table) (body_of m) ≡ o
              → (p : ℕ) × (judge_by_table table s ≡ refused_at UnmatchedBody p)
          step none e = absurd (no_choice (never_more table sound (body_of m) e))
          step (some left) e = found _ (m, left, e, refl) case

pub structures : Structures
structures =
    record {
      exactly = exactly;
      never_more = never_more;
      no_entries = no_entries;
      tree_tags = sound_tags;
      left_end = λ table body left e. unmatched_end tag_of (structure_of table) body left e;
      twenty_one = twenty_one;
      sound_exactly = sound_says;
      judge_first = λ table s r sound e. earlier_answers table s r (sound_none table sound) e;
      twenty_two = twenty_two;
      refused_exactly = unspelled;
      as_judge = λ table s sound h. matched_answers table s (sound_none table sound) (λ p m. nowhere table s h p ((stops_exactly table s p).0 m));
    }
  where
    nowhere : (table s : List ℕ) → ((m : Message s) → Matches table (body_of m)) → (p : ℕ) → StopsAt table s p → ⊥
    nowhere table s h p (m, left, u, q) = none-ne-some left (sym (h m) ∙ u)
