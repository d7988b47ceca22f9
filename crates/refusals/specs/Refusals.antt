-- Paper 01, "Refusals by number": the numbers, and which refusal answers. Assumes nothing.
use Rattle.std.specs.Prelude.{ℕ, Bool, ◌&&◌, ◌||◌, List, [], ◌∷◌, eqb, ltb, if◌then◌else◌, Ok, Err, Result}
use Rattle.std.proofs.Math.Option.{Option, none, some}
use Rattle.refusals.specs.declared.Fault.{Fault}
use Rattle.refusals.specs.declared.Fault.TheVariants.{TooLong, UnusableAdvice, NoOpening, StrayRelease, UnendedSegment, BrokenTag, ForeignLevel, OutsideLevel, MisplacedSegment, BadControl, ReferenceDiffers, CountWrong, NormalTooLong, BufferShort, BadList, NeedsRelease, NoFreeSlot, NoRoom, UnsoundShelf, FreeSlot, UnsoundTable, UnmatchedBody, NoAcknowledgement, NoColumns}
use Rattle.refusals.specs.declared.Refusal.{Refusal}

-- the paper's number of each
abbrev pub number : Fault → ℕ
number TooLong = 1
number UnusableAdvice = 2
number NoOpening = 3
number StrayRelease = 4
number UnendedSegment = 5
number BrokenTag = 6
number ForeignLevel = 7
number OutsideLevel = 8
number MisplacedSegment = 9
number BadControl = 10
number ReferenceDiffers = 11
number CountWrong = 12
number NormalTooLong = 13
number BufferShort = 14
number BadList = 15
number NeedsRelease = 16
number NoFreeSlot = 17
number NoRoom = 18
number UnsoundShelf = 19
number FreeSlot = 20
number UnsoundTable = 21
number UnmatchedBody = 22
number NoAcknowledgement = 23
number NoColumns = 24

-- the refusal with this fault at each of the places
unfoldable pub met : Fault → List ℕ → List Refusal
met f [] = []
met f (p ∷ ps) = record { fault = f; place = p } ∷ met f ps

-- A stage is all that is met of the refusals that it brackets.
abbrev pub Stage : Type 0
Stage = List Refusal

-- "the lowest place, then the lowest number"
unfoldable pub is_lower : Refusal → Refusal → Bool
is_lower r q = ltb r.place q.place || (eqb r.place q.place && ltb (number r.fault) (number q.fault))

unfoldable pub lower_of : Refusal → Option Refusal → Option Refusal
lower_of r none = some r
lower_of r (some q) = some (if is_lower q r then q else r)

unfoldable pub lowest : Stage → Option Refusal
lowest [] = none
lowest (r ∷ rs) = lower_of r (lowest rs)

unfoldable pub or_else : Option Refusal → Option Refusal → Option Refusal
or_else none later = later
or_else (some r) later = some r

-- "The first failing stage answers"
unfoldable pub answering : List Stage → Option Refusal
answering [] = none
answering (stage ∷ stages) = or_else (lowest stage) (answering stages)

-- what a stage answers: nothing, where it passes, or the refusal
abbrev pub Outcome : Type 0
Outcome = Result (Unit {0}) Refusal

-- the outcome of a stage, from the refusal that it answers
unfoldable pub outcome : Option Refusal → Outcome
outcome none = Ok tt
outcome (some r) = Err r

-- the outcome of a stage that answers this refusal
abbrev pub failed_at : Fault → ℕ → Outcome
failed_at fault place = Err (record { fault = fault; place = place })

-- the place, where the refusal is met
unfoldable pub place_if : Bool → ℕ → List ℕ
place_if t p = if t then p ∷ [] else []
