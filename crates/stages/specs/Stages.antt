-- Paper 01, "Stages: 1, 2, 3, (4 5 6), 7, 8, 9, (10 11 12), 13": the order of an input's stages is written here and nowhere else. Where 14
-- stands is said by the operations that are lent a buffer. Assumes nothing.
use Rattle.std.specs.Prelude.{ℕ, ◌&&◌, List, [], ◌∷◌, ◌++◌, map, leb}
use Rattle.std.proofs.Math.Option.{Option}
use Rattle.lists.specs.Lists.{all, those}
use Rattle.refusals.specs.declared.Fault.{Fault}
use Rattle.refusals.specs.declared.Fault.TheVariants.{TooLong, UnusableAdvice, NoOpening, StrayRelease, UnendedSegment, BrokenTag, ForeignLevel, OutsideLevel, MisplacedSegment, BadControl, ReferenceDiffers, CountWrong, NormalTooLong, BufferShort, BadList, NeedsRelease, NoFreeSlot, NoRoom, UnsoundShelf, FreeSlot, UnsoundTable, UnmatchedBody, NoAcknowledgement, NoColumns}
use Rattle.refusals.specs.declared.Refusal.{Refusal}
use Rattle.refusals.specs.Refusals.{number, Stage, met, answering}
use Rattle.stages.specs.Places.{too_long, unusable_advice, no_opening, stray_releases, unended_segment, broken_tags, foreign_level, outside_level, misplaced_segments, bad_controls, differing_references, wrong_counts, normal_too_long}

-- all the places at which an input meets a fault; 14 to 24 are of lent buffers, value lists, shelves, tables, acknowledgements and columns
unfoldable pub places_of : Fault → List ℕ → List ℕ
places_of TooLong s = too_long s
places_of UnusableAdvice s = unusable_advice s
places_of NoOpening s = no_opening s
places_of StrayRelease s = stray_releases s
places_of UnendedSegment s = unended_segment s
places_of BrokenTag s = broken_tags s
places_of ForeignLevel s = foreign_level s
places_of OutsideLevel s = outside_level s
places_of MisplacedSegment s = misplaced_segments s
places_of BadControl s = bad_controls s
places_of ReferenceDiffers s = differing_references s
places_of CountWrong s = wrong_counts s
places_of NormalTooLong s = normal_too_long s
places_of BufferShort s = []
places_of BadList s = []
places_of NeedsRelease s = []
places_of NoFreeSlot s = []
places_of NoRoom s = []
places_of UnsoundShelf s = []
places_of FreeSlot s = []
places_of UnsoundTable s = []
places_of UnmatchedBody s = []
places_of NoAcknowledgement s = []
places_of NoColumns s = []

-- "Stages: 1, 2, 3, (4 5 6), 7, 8, 9, (10 11 12), 13"
unfoldable pub brackets : List (List Fault)
brackets =
    (TooLong ∷ [])
    ∷ (UnusableAdvice ∷ [])
    ∷ (NoOpening ∷ [])
    ∷ (StrayRelease ∷ UnendedSegment ∷ BrokenTag ∷ [])
    ∷ (ForeignLevel ∷ [])
    ∷ (OutsideLevel ∷ [])
    ∷ (MisplacedSegment ∷ [])
    ∷ (BadControl ∷ ReferenceDiffers ∷ CountWrong ∷ [])
    ∷ (NormalTooLong ∷ [])
    ∷ []

-- those of them whose numbers all lie from the first to the last
unfoldable pub brackets_in : (first last : ℕ) → List (List Fault)
brackets_in first last = those (all (λ f. leb first (number f) && leb (number f) last)) brackets

module _ (s : List ℕ) where
  -- a stage is all that is met of the refusals that it brackets
  unfoldable pub bracketed : List Fault → Stage
  bracketed [] = []
  bracketed (f ∷ []) = met f (places_of f s)
  bracketed (f ∷ g ∷ faults) = met f (places_of f s) ++ bracketed (g ∷ faults)

  -- the stages with the numbers from the first to the last
  unfoldable pub stages_in : (first last : ℕ) → List Stage
  stages_in first last = map bracketed (brackets_in first last)

  unfoldable pub stages : List Stage
  stages = map bracketed brackets

  -- "3 to 13 as Judge would answer for the text"
  unfoldable pub later_stages : List Stage
  later_stages = stages_in 3 13

  -- the refusal that answers, or none: "An interchange is accepted when none of 1 to 13 is met"
  unfoldable pub refusal_of : Option Refusal
  refusal_of = answering stages
