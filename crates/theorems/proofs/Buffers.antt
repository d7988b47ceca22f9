-- What Read and Write answer and leave in the buffers that they are lent. Assumes nothing.
use Prim.Native.Nat.{ℕ, ◌≤◌}
use mathlib.Core.Path.{◌≡◌, ap, ◌∙◌}
use mathlib.Core.Logic.{◌↔◌}
use mathlib.Core.List.{List, [], ◌∷◌, ◌++◌}
use mathlib.Core.Option.{Option, none, some}
use lib.ListN.{length, drop}
use Rattle.refusals.specs.declared.Fault.TheVariants.{TooLong, UnusableAdvice, BadList, NeedsRelease}
use Rattle.refusals.specs.declared.Refusal.{Refusal}
use Rattle.refusals.specs.Refusals.{Stage, met, or_else, answering}
use Rattle.refusals.proofs.Lowest.{lowest_none}
use Rattle.refusals.proofs.Stages.{met_none}
use Rattle.stages.specs.Places.{too_long}
use Rattle.stages.specs.Stages.{later_stages, refusal_of}
use Rattle.stages.proofs.Stages.{later_answers, later_none}
use Rattle.answers.specs.Answers.{Answer, given}
use Rattle.operations.specs.Judge.{short_for, normalise_refusal}
use Rattle.operations.specs.Read.{value_bytes, value_table, read_refusal, read, read_bytes, read_table}
use Rattle.operations.specs.Write.{bad_list, unusable_bytes, needs_release, written_text, write_stages, write_refusal, write, write_output}
use Rattle.operations.proofs.Answered.{room_answers, normalise_judged, read_given, read_judged, read_passes}
use Rattle.operations.proofs.Cases.{write_given}
use Rattle.acceptance_laws.specs.Allowed.{Allowed}
use Rattle.acceptance_laws.proofs.Acceptance.{allowed_exactly}
use Rattle.round_trip_laws.specs.Trips.{Rewritable}
use Rattle.round_trip_laws.proofs.Numbers.{unrefused}
use Rattle.round_trip_laws.proofs.Written.{short_enough, write_passed, text_advice, text_accepted, read_accepted, read_fits}
use Rattle.round_trip_laws.proofs.Theorems.{rewritten_exactly}
use Rattle.refusals.specs.Limits.{most_bytes}

-- where nothing is met in a stage, the stages after it answer
clear_answers : (stage : Stage) (last : List Stage) → stage ≡ [] → answering (stage ∷ last) ≡ answering last
unfolding answering or_else
clear_answers stage last e = ap (λ (o : Option Refusal). or_else o (answering last)) ((lowest_none stage).1 e)

-- ---- Read

module _ (buffer table s : List ℕ) where
  pub judged_first : {r : Refusal} → refusal_of s ≡ some r → (normalise_refusal buffer s ≡ some r) × (read_refusal buffer table s ≡ some r)
  judged_first e = (normalise_judged buffer s e, read_judged buffer table s e)

  pub reads : refusal_of s ≡ none → length (value_bytes s) ≤ length buffer → length (value_table s) ≤ length table
      → (read buffer table s ≡ given (length (value_bytes s) ∷ length (value_table s) ∷ []))
      × (read_bytes buffer table s ≡ value_bytes s ++ drop (length (value_bytes s)) buffer)
      × (read_table buffer table s ≡ value_table s ++ drop (length (value_table s)) table)
  reads h b t = read_given buffer table s (read_passes buffer table s h b t)

  pub reads_exactly : ((read buffer table s).number ≡ 0)
      ↔ (Allowed s × (length (value_bytes s) ≤ length buffer) × (length (value_table s) ≤ length table))
  unfolding read given
  reads_exactly = (
    λ n.
        let h = unrefused (length (value_bytes s) ∷ length (value_table s) ∷ []) (read_refusal buffer table s) n in
        let fits = read_fits buffer table s h in
        ((allowed_exactly s).0 (read_accepted buffer table s h), fits.0, fits.1),
    λ k. ap (λ (a : Answer). a.number) (reads ((allowed_exactly s).1 k.0) k.1 k.2).0,
  )

-- ---- Write

module _ (service bytes table output : List ℕ) where
  abbrev text : List ℕ
  text = written_text service bytes table

  -- the number 0 says that nothing is refused, and the other way round
  pub write_none : ((write service bytes table output).number ≡ 0) ↔ (write_refusal service bytes table output ≡ none)
  unfolding write given
  write_none = (
    unrefused (length text ∷ []) (write_refusal service bytes table output),
    λ h. ap (λ (a : Answer). a.number) (write_given service bytes table output h).0,
  )

  pub writes : (write service bytes table output).number ≡ 0
      → (write service bytes table output ≡ given (length text ∷ []))
      × (write_output service bytes table output ≡ text ++ drop (length text) output)
  writes n = write_given service bytes table output (write_none.0 n)

  pub writes_exactly : ((write service bytes table output).number ≡ 0)
      ↔ ((bad_list bytes table ≡ [])
      × (unusable_bytes service ≡ [])
      × (needs_release service bytes table ≡ [])
      × Allowed text
      × (length text ≤ length output))
  writes_exactly =
      let passed = write_passed service bytes table output in (
        λ n.
            let p = passed.0 (write_none.0 n) in
            (p.list, p.characters, p.releases, (allowed_exactly text).0 (text_accepted service bytes table output p), p.fits),
        λ k.
            write_none.1 (passed.1 (record {
              list = k.0;
              characters = k.1;
              releases = k.2;
              short = (short_enough text).1 k.3.size;
              fits = k.4;
              later = later_none text ((allowed_exactly text).1 k.3);
            })),
      )

  -- after 15, 2, 16, 1 and 14 the stages are those that Judge goes through after 1 and 2
  pub as_judged : bad_list bytes table ≡ [] → unusable_bytes service ≡ [] → needs_release service bytes table ≡ [] → length text ≤ most_bytes
      → length text ≤ length output → write_refusal service bytes table output ≡ refusal_of text
  unfolding write_refusal write_stages
  as_judged list characters releases short fits =
      let over : Stage = met TooLong (too_long text) in
      let unmet : over ≡ [] = (met_none TooLong (too_long text)).1 ((short_enough text).1 short) in
      let last : List Stage = later_stages text in
      clear_answers (met BadList (bad_list bytes table))
      (met UnusableAdvice (unusable_bytes service) ∷ met NeedsRelease (needs_release service bytes table) ∷ over ∷ short_for text output ∷ last)
      ((met_none BadList (bad_list bytes table)).1 list)
      ∙ clear_answers (met UnusableAdvice (unusable_bytes service))
      (met NeedsRelease (needs_release service bytes table) ∷ over ∷ short_for text output ∷ last)
      ((met_none UnusableAdvice (unusable_bytes service)).1 characters)
      ∙ clear_answers (met NeedsRelease (needs_release service bytes table)) (over ∷ short_for text output ∷ last)
      ((met_none NeedsRelease (needs_release service bytes table)).1 releases)
      ∙ clear_answers over (short_for text output ∷ last) unmet
      ∙ room_answers text output last fits
      ∙ later_answers text ((short_enough text).1 short) (text_advice service bytes table output characters)

pub rewrites : (s service output : List ℕ) → refusal_of s ≡ none
    → ((write service (value_bytes s) (value_table s) output).number ≡ 0) ↔ Rewritable s service output
rewrites s service output h =
    let none = write_none service (value_bytes s) (value_table s) output in
    let exactly = rewritten_exactly s service h output in
    (λ n. exactly.0 (none.0 n), λ k. none.1 (exactly.1 k))
