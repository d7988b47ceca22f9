-- What the second Judge answers, stage by stage. Assumes nothing.
use Prim.Native.Nat.{ℕ, ◌≤◌}
use mathlib.Core.Path.{◌≡◌, refl, sym, ap, subst, ◌∙◌}
use mathlib.Core.List.Memᴰ
use mathlib.Core.List.{List, [], ◌∷◌, ◌++◌, Memᴰ}
use mathlib.Core.Option.{none, some}
use Rattle.lists.specs.Lists.{all, those, maybe}
use Rattle.refusals.specs.declared.Fault.TheVariants.{UnsoundTable, UnmatchedBody}
use Rattle.refusals.specs.declared.Refusal.{Refusal}
use Rattle.refusals.specs.Refusals.{met, or_else, answering}
use Rattle.refusals.proofs.Stages.{answering_append}
use Rattle.refusals.proofs.Words.{place_answers, nowhere_answers}
use Rattle.stages.specs.Stages.{brackets, brackets_in, stages_in, stages, refusal_of}
use Rattle.stages.proofs.Stages.{run_on}
use Rattle.answers.specs.Answers.{refused, accepted}
use Rattle.operations.specs.Judge.{figures_of, judge}
use Rattle.message_tables.specs.Soundness.{table_faults}
use Rattle.message_structures.specs.Bodies.{unmatched_bodies}
use Rattle.message_structures.specs.Judging.{structure_stages, structure_refusal, judge_by_table}

-- Judge's stages up to 12, then the last
refusal_on : (s : List ℕ) → refusal_of s ≡ or_else (answering (stages_in s 1 12)) (answering (stages_in s 13 13))
unfolding refusal_of stages stages_in brackets_in brackets those all
refusal_on s = run_on s 1 12 13 refl

module _ (table s : List ℕ) where
  -- 21, at the lowest entry at fault
  pub unsound_answers : (n : ℕ) → Memᴰ n (table_faults table) → ((q : ℕ) → Memᴰ q (table_faults table) → n ≤ q)
      → judge_by_table table s ≡ refused (record { fault = UnsoundTable; place = n })
  unfolding judge_by_table structure_refusal structure_stages maybe
  unsound_answers n m least =
      ap (maybe (accepted (figures_of s)) refused)
      (place_answers UnsoundTable (table_faults table) (stages_in s 1 12 ++ met UnmatchedBody (unmatched_bodies table s) ∷ stages_in s 13 13) n m least)

  -- of a sound table, the others
  sound_refusal : table_faults table ≡ []
      → structure_refusal table s
      ≡ or_else (answering (stages_in s 1 12)) (answering (met UnmatchedBody (unmatched_bodies table s) ∷ stages_in s 13 13))
  unfolding structure_refusal structure_stages
  sound_refusal sound =
      nowhere_answers UnsoundTable (table_faults table) (stages_in s 1 12 ++ met UnmatchedBody (unmatched_bodies table s) ∷ stages_in s 13 13)
      (λ q m. Memᴰ.not-nil (subst (Memᴰ q) sound m))
      ∙ answering_append (stages_in s 1 12) (met UnmatchedBody (unmatched_bodies table s) ∷ stages_in s 13 13)

  -- 1 to 12, as Judge
  pub earlier_answers : (r : Refusal) → table_faults table ≡ [] → answering (stages_in s 1 12) ≡ some r
      → (judge_by_table table s ≡ refused r) × (judge s ≡ refused r)
  unfolding judge_by_table judge maybe or_else
  earlier_answers r sound e = (
    ap (maybe (accepted (figures_of s)) refused)
        (sound_refusal sound ∙ ap (λ o. or_else o (answering (met UnmatchedBody (unmatched_bodies table s) ∷ stages_in s 13 13))) e),
    ap (maybe (accepted (figures_of s)) refused) (refusal_on s ∙ ap (λ o. or_else o (answering (stages_in s 13 13))) e),
  )

  -- past 1 to 12, 22 and 13
  pub passed_refusal : table_faults table ≡ [] → answering (stages_in s 1 12) ≡ none
      → structure_refusal table s ≡ answering (met UnmatchedBody (unmatched_bodies table s) ∷ stages_in s 13 13)
  unfolding or_else
  passed_refusal sound e =
      sound_refusal sound ∙ ap (λ o. or_else o (answering (met UnmatchedBody (unmatched_bodies table s) ∷ stages_in s 13 13))) e

  -- 22, at the lowest place
  pub unmatched_answers : (p : ℕ) → table_faults table ≡ [] → answering (stages_in s 1 12) ≡ none → Memᴰ p (unmatched_bodies table s)
      → ((q : ℕ) → Memᴰ q (unmatched_bodies table s) → p ≤ q) → judge_by_table table s ≡ refused (record { fault = UnmatchedBody; place = p })
  unfolding judge_by_table maybe
  unmatched_answers p sound e m least =
      ap (maybe (accepted (figures_of s)) refused)
      (passed_refusal sound e ∙ place_answers UnmatchedBody (unmatched_bodies table s) (stages_in s 13 13) p m least)

  -- as Judge, where every body matches
  pub matched_answers : table_faults table ≡ [] → ((p : ℕ) → Memᴰ p (unmatched_bodies table s) → ⊥) → judge_by_table table s ≡ judge s
  unfolding judge_by_table judge
  matched_answers sound h =
      ap (maybe (accepted (figures_of s)) refused)
      (sound_refusal sound
      ∙ ap (or_else (answering (stages_in s 1 12))) (nowhere_answers UnmatchedBody (unmatched_bodies table s) (stages_in s 13 13) h)
      ∙ sym (refusal_on s))
