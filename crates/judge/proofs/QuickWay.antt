-- What the quick way passes or refuses, the stages pass or refuse one after the other, and find the same. Assumes nothing.
use Rattle.std.specs.Prelude.{Ok, Err, Some}
use Rattle.std.specs.Result.{result_and}
use Prim.Native.Nat.{ℕ, ◌≤◌}
use mathlib.Core.Path.{◌≡◌, refl, sym, ap, ◌∙◌}
use mathlib.Core.List.{List}
use lib.ListN.{length}
use Rattle.lists.specs.Lists.{all, those, maybe}
use Rattle.refusals.specs.declared.Fault.TheVariants.{ForeignLevel}
use Rattle.refusals.specs.declared.Refusal.{Refusal}
use Rattle.refusals.specs.Refusals.{outcome, Outcome}
use Rattle.refusals.specs.Limits.{most_bytes}
use Rattle.values.specs.Tokens.{tokens_at}
use Rattle.levels.specs.Levels.{level_of}
use Rattle.segments.specs.declared.Walk.{Walk}
use Rattle.scanner.specs.Scan.{segment_at}
use Rattle.stages.specs.Stages.{brackets, brackets_in}
use Rattle.stage_walks.specs.Walks.{worded, leveled, controlled}
use Rattle.stage_walks.proofs.Worded.{worded_answers}
use Rattle.stage_walks.proofs.Walks.{leveled_answers, controlled_answers}
use Rattle.stage_opening.specs.declared.Found.{Found}
use Rattle.stage_opening.specs.Runs.{found_by, progress}
use Rattle.stage_opening.proofs.Runs.{refused_before}
use Rattle.clean_walk.specs.Clean.{Cleans}
use Rattle.judge.specs.Judging.{after}
use Rattle.judge.proofs.Stages.{not_too_long, walked, level_foreign, level_ours, order_whole}

-- one walk finds nothing, and this is the level
module _ (s : List ℕ) (short : length s ≤ most_bytes) {found : Found} (opened : Ok found ≡ progress 2 3 s)
    {walk : Walk} (clean : Cleans found.characters s found.start (Some walk))
    {level : ℕ} (named : level ≡ maybe 0 (λ l. l) (level_of found.characters (segment_at found.characters s found.start))) where
  -- with the level, and then with the walk
  abbrev leveled_as : Found
  leveled_as = record { characters = found.characters; start = found.start; level = level; walk = found.walk }

  abbrev walked_as : Found
  walked_as = record { characters = found.characters; start = found.start; level = level; walk = walk }

  to_6 : Ok found ≡ progress 1 6 s
  unfolding brackets_in brackets those all found_by outcome after
  to_6 = walked s 2 3 6 refl (λ f. worded (length s)) (worded_answers s) refl opened refl (sym (ap outcome clean.0)) refl ∙ not_too_long s short

  -- it is none of ours
  pub quick_foreign : level ≡ 0 → Err (record { fault = ForeignLevel; place = found.start }) ≡ progress 1 12 s
  unfolding brackets_in brackets those all
  quick_foreign zero_is = refused_before s 1 7 (level_foreign s to_6 refl named zero_is) 12 refl refl

  module _ (ours : level ≡ 0 → ⊥) {stage : Outcome} (bytes : stage ≡ outcome (leveled level (tokens_at found.characters s found.start))) where
    to_7 : Ok leveled_as ≡ progress 1 7 s
    to_7 = level_ours s to_6 refl named ours

    to_8 : after leveled_as stage ≡ progress 1 8 s
    unfolding brackets_in brackets those all found_by
    to_8 = walked s 1 7 8 refl (λ f. leveled f.level) (leveled_answers s) refl to_7 refl bytes refl

    -- a byte is outside it
    quick_outside : {r : Refusal} → stage ≡ Err r → Err r ≡ progress 1 12 s
    unfolding brackets_in brackets those all after
    quick_outside {r} failed = refused_before s 1 8 (sym (ap (after leveled_as) failed) ∙ to_8) 12 refl refl

    -- or all are in it
    module _ (kept : stage ≡ Ok tt) where
      to_9 : Ok walked_as ≡ progress 1 9 s
      unfolding after
      to_9 = order_whole s (sym (ap (after leveled_as) kept) ∙ to_8) refl refl clean.1

      quick_passes : Ok walked_as ≡ progress 1 12 s
      unfolding brackets_in brackets those all found_by outcome after
      quick_passes = walked s 1 9 12 refl (λ f. controlled) (controlled_answers s) refl to_9 refl (sym (ap outcome clean.2)) refl

    -- what the bytes answer, and with it the walk
    pub quick_answers : result_and stage (Ok walked_as) ≡ progress 1 12 s
    quick_answers = step stage refl
      where
        step : (o : Outcome) → stage ≡ o → result_and o (Ok walked_as) ≡ progress 1 12 s
        step (Ok u) e = quick_passes e
        step (Err r) e = quick_outside e
