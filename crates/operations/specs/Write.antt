-- Paper 01, "Operations": Write from a value list and six service bytes; request 2026-10: kind 3. Assumes nothing.
use Rattle.std.specs.Prelude.{ℕ, suc, ◌+◌, ◌%◌, Bool, false, not, ◌&&◌, ◌||◌, List, [], ◌∷◌, ◌++◌, length, replicate, eqb, ltb}
use Rattle.std.proofs.Math.Option.{Option}
use Rattle.lists.specs.Lists.{any, at, maybe}
use Rattle.characters.specs.declared.Characters.{Characters}
use Rattle.characters.specs.Characters.{six_bytes, usable, has_release, has_repetition, is_service}
use Rattle.refusals.specs.declared.Fault.TheVariants.{TooLong, UnusableAdvice, BadList, NeedsRelease}
use Rattle.refusals.specs.declared.Refusal.{Refusal}
use Rattle.refusals.specs.Refusals.{Stage, met, place_if, answering}
use Rattle.values.specs.Spelling.{leads_break}
use Rattle.stages.specs.Contents.{interchange}
use Rattle.stages.specs.Places.{too_long}
use Rattle.stages.specs.Stages.{later_stages}
use Rattle.answers.specs.Answers.{Answer, given, refused}
use Rattle.operations.specs.Judge.{short_for, stored_in, unless_refused}
use Rattle.operations.specs.ValueList.{Entry, entries, value_in, listed_in, segments_listed, trim_list}
use Rattle.refusals.specs.Limits.{most_numbers}

-- the numbers of the records that fail a test, the first one's being given
unfoldable pub numbers_where : (Entry → Bool) → ℕ → List Entry → List ℕ
numbers_where fails n [] = []
numbers_where fails n (e ∷ es) = place_if (fails e) n ++ numbers_where fails (suc n) es

-- "table over 96,000 numbers or not a multiple of 3; first kind not 0"
unfoldable pub bad_table : List ℕ → Bool
bad_table table =
    ltb most_numbers (length table)
    || not (eqb (length table % 3) 0)
    || maybe false (λ e. not (eqb e.kind 0)) (at (entries table) 0)

-- request 2026-01, "No segment of a list may begin with a break": a record of kind 0 whose value begins with one
unfoldable pub broken_start : List ℕ → Entry → Bool
broken_start bytes e = eqb e.kind 0 && leads_break (value_in bytes e)

-- "kind above 2; start plus length above the number of bytes"; request 2026-10: "15 for a kind above 3 instead of 2"
unfoldable pub bad_entry : List ℕ → Entry → Bool
bad_entry bytes e = ltb 3 e.kind || ltb (length bytes) (e.start + e.size) || broken_start bytes e

-- 15: "0 for the first two, else lowest such record number"
unfoldable pub bad_list : List ℕ → List ℕ → List ℕ
bad_list bytes table = place_if (bad_table table) 0 ++ numbers_where (bad_entry bytes) 0 (entries table)

-- 2: "writer: not six usable bytes": 0
unfoldable pub unusable_bytes : List ℕ → List ℕ
unusable_bytes service = place_if (not (eqb (length service) 6 && usable (six_bytes service))) 0

-- "a value holds a service character and there is no release"
unfoldable pub lacks_release : Characters → List ℕ → Bool
lacks_release c value = not (has_release c) && any (is_service c) value

-- request 2026-10: "16 also at a kind 3 record where the writer's fifth byte is a space"
unfoldable pub lacks_repetition : Characters → ℕ → Bool
lacks_repetition c kind = eqb kind 3 && not (has_repetition c)

unfoldable pub cannot_stand : Characters → List ℕ → Entry → Bool
cannot_stand c bytes e = lacks_release c (value_in bytes e) || lacks_repetition c e.kind

module _ (service bytes table : List ℕ) where
  -- 16: "lowest such record number"
  unfoldable pub needs_release : List ℕ
  needs_release = numbers_where (cannot_stand (six_bytes service) bytes) 0 (entries table)

  -- "always an advice, then the trimmed list"
  unfoldable pub written_text : List ℕ
  written_text = interchange (six_bytes service) (trim_list (segments_listed (listed_in bytes table)))

module _ (service bytes table output : List ℕ) where
  -- "Writer: 15, 2, 16, 1, 14, then 3 to 13 as Judge would answer for the text."
  unfoldable pub write_stages : List Stage
  write_stages =
      let written = written_text service bytes table in
      met BadList (bad_list bytes table)
      ∷ met UnusableAdvice (unusable_bytes service)
      ∷ met NeedsRelease (needs_release service bytes table)
      ∷ met TooLong (too_long written)
      ∷ short_for written output
      ∷ later_stages written

  unfoldable pub write_refusal : Option Refusal
  write_refusal = answering write_stages

  unfoldable pub write : Answer
  write = maybe (given (length (written_text service bytes table) ∷ [])) refused write_refusal

  -- "The bytes beyond the text keep their values"; "A refused Write leaves its whole output buffer zero"
  unfoldable pub write_output : List ℕ
  write_output = unless_refused write_refusal (stored_in output (written_text service bytes table)) (replicate (length output) 0)
