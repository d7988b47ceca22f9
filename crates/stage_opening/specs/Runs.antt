-- Paper 01, "The first failing stage answers": what a run of stages answers, which is the refusal, or what was found of the input on
-- the way. Assumes nothing.
use Rattle.refusals.specs.declared.Refusal.{Refusal}
use Rattle.std.specs.Prelude.{ℕ, List, [], reverse, leb, if◌then◌else◌, Ok, Err, Result}
use Rattle.lists.specs.Lists.{maybe}
use Rattle.characters.specs.Characters.{characters_of, body_start}
use Rattle.refusals.specs.Refusals.{answering}
use Rattle.segments.specs.declared.Section.TheVariants.{None}
use Rattle.segments.specs.Order.{walk_over}
use Rattle.control_elements.specs.Sections.{last_section}
use Rattle.stages.specs.Contents.{segments_of, kinds_of}
use Rattle.stages.specs.Places.{level}
use Rattle.stages.specs.Stages.{stages_in}
use Rattle.stage_opening.specs.declared.Found.{Found}

-- what the stages up to a number find
unfoldable pub found_by : (last : ℕ) → List ℕ → Found
found_by last s =
    record {
      characters = characters_of s;
      start = body_start s;
      level = if leb 7 last then level s else 0;
      walk = if leb 9 last then walk_over (last_section (reverse (segments_of s))) (kinds_of s) else walk_over None [];
    }

-- what was found, or the refusal
abbrev pub Progress : Type 0
Progress = Result Found Refusal

-- what the stages with the numbers from the first to the last answer
unfoldable pub progress : (first last : ℕ) → List ℕ → Progress
progress first last s = maybe (Ok (found_by last s)) Err (answering (stages_in s first last))
