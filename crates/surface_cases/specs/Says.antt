-- What each function of the surface says and leaves in what it is lent: for whatever answer and bytes the operation's promise allows, the struct of
-- that answer, and those bytes. Each promise is met by the function that is called, and leaves one result. Assumes nothing.
use Rattle.std.specs.Prelude.{ℕ, ◌≤◌, ◌<◌, ◌≡◌, true, List, [], ◌∷◌, length, Result}
use Rattle.std.proofs.Math.Option.{some}
use Rattle.refusals.specs.declared.Refusal.{Refusal}
use Rattle.refusals.specs.Refusals.{number, Outcome}
use Rattle.answers.specs.declared.Listed.{Listed}
use Rattle.answers.specs.Answers.{given, Stored, Judged, Compared, Located}
use Rattle.operations.specs.Compare.{of_first, of_second, keep}
use Rattle.operations.specs.Locate.{locate}
use Rattle.contracts.specs.Promises.{Judges, Normalises, Compares, Locates, Reads, Writes}
use Rattle.structure_contracts.specs.Promises.{JudgesByTable}
use Rattle.shelves.specs.declared.Shelved.{Shelved}
use Rattle.shelves.specs.declared.Slots.{Slots}
use Rattle.shelves.specs.declared.TwoSums.{TwoSums}
use Rattle.shelves.specs.Layout.{version_two, Occupied, start_of, length_of}
use Rattle.shelves.specs.Soundness.{sound}
use Rattle.shelves.specs.Operations.{slot_refusal}
use Rattle.shelf_contracts.specs.Promises.{Starts, Puts, Removes, Counts, Sums}
use Rattle.carrying.specs.Promises.{Carries, CarriesBack}
use Rattle.mailbox_files.specs.Pieces.{pieces}
use Rattle.mailbox_files.specs.Report.{most_file, report_over}
use Rattle.acknowledgements.specs.Lent.{lent_by}
use Rattle.acknowledgements.specs.Promises.{Acknowledges}
use Rattle.columns.specs.Promises.{Exports, Imports}
use Rattle.surface.specs.declared.Verdict.{Verdict}
use Rattle.surface.specs.declared.Written.{Written}
use Rattle.surface.specs.declared.Comparison.{Comparison}
use Rattle.surface.specs.declared.Kept.{Kept}
use Rattle.surface.specs.declared.Location.{Location}
use Rattle.surface.specs.declared.Part.{Part}
use Rattle.surface.specs.declared.Listing.{Listing}
use Rattle.surface.specs.declared.Started.{Started}
use Rattle.surface.specs.declared.Shelving.{Shelving}
use Rattle.surface.specs.declared.Got.{Got}
use Rattle.surface.specs.declared.SlotNumbers.{SlotNumbers}
use Rattle.surface.specs.declared.SumNumbers.{SumNumbers}
use Rattle.surface.specs.declared.MorningFigures.{MorningFigures}
use Rattle.surface_cases.specs.Structs.{verdict, written, comparison, location, listing, started, shelving, slot_numbers, sum_numbers, morning, no_morning}

abbrev pub SaysJudged : (s : List ℕ) → Verdict → Type 0
SaysJudged s r = (a : Judged) → Judges s a → r ≡ verdict a

abbrev pub SaysJudgedByTable : (table s : List ℕ) → Verdict → Type 0
SaysJudgedByTable table s r = (a : Judged) → JudgesByTable table s a → r ≡ verdict a

abbrev pub SaysNormalised : (buffer s : List ℕ) → Written → (after : List ℕ) → Type 0
SaysNormalised buffer s r after = (a : Stored) (left : List ℕ) → Normalises buffer s a left → (r ≡ written a) × (after ≡ left)

abbrev pub SaysCompared : (first second : List ℕ) → Comparison → Type 0
SaysCompared first second r = (a : Compared) → Compares first second a → r ≡ comparison a

-- 1 for the first input, 2 for the second
abbrev pub SaysKept : (first second : List ℕ) → Kept → Type 0
SaysKept first second r =
    ((offset size : ℕ) → keep first second ≡ of_first offset size → r ≡ record { input = 1; offset = offset; length = size })
    × ((offset size : ℕ) → keep first second ≡ of_second offset size → r ≡ record { input = 2; offset = offset; length = size })

abbrev pub SaysLocated : (s : List ℕ) (segment element repeat component : ℕ) → Location → Type 0
SaysLocated s segment element repeat component r = (a : Located) → Locates s segment element repeat component a → r ≡ location a

-- the part that Locate names, or zero bytes at the input's start
abbrev pub SaysPart : (s : List ℕ) (segment element repeat component : ℕ) → Part → Type 0
SaysPart s segment element repeat component r =
    ((offset size : ℕ) → locate s segment element repeat component ≡ given (offset ∷ size ∷ []) → r ≡ record { offset = offset; length = size })
    × (((offset size : ℕ) → locate s segment element repeat component ≡ given (offset ∷ size ∷ []) → ⊥) → r ≡ record { offset = 0; length = 0 })

abbrev pub SaysListed : (buffer table s : List ℕ) → Listing → (bytesAfter tableAfter : List ℕ) → Type 0
SaysListed buffer table s r bytesAfter tableAfter =
    (a : Result Listed Refusal) (bytes numbers : List ℕ) → Reads buffer table s a bytes numbers → (r ≡ listing a) × (bytesAfter ≡ bytes) × (tableAfter ≡ numbers)

abbrev pub SaysWritten : (service bytes table output : List ℕ) → Written → (after : List ℕ) → Type 0
SaysWritten service bytes table output r after =
    (a : Stored) (left : List ℕ) → Writes service bytes table output a left → (r ≡ written a) × (after ≡ left)

abbrev pub SaysAcknowledged : (s date dates reference references message messages output : List ℕ) → Written → (after : List ℕ) → Type 0
SaysAcknowledged s date dates reference references message messages output r after =
    (a : Stored) (left : List ℕ) → Acknowledges s (lent_by date dates reference references message messages) output a left
    → (r ≡ written a) × (after ≡ left)

abbrev pub SaysExported : (buffer s : List ℕ) → Written → (after : List ℕ) → Type 0
SaysExported buffer s r after = (a : Stored) (left : List ℕ) → Exports buffer s a left → (r ≡ written a) × (after ≡ left)

abbrev pub SaysImported : (service columns output : List ℕ) → Written → (after : List ℕ) → Type 0
SaysImported service columns output r after =
    (a : Stored) (left : List ℕ) → Imports service columns output a left → (r ≡ written a) × (after ≡ left)

abbrev pub SaysStarted : (buffer : List ℕ) → Started → (after : List ℕ) → Type 0
SaysStarted buffer r after = (a : Outcome) (left : List ℕ) → Starts version_two buffer a left → (r ≡ started a) × (after ≡ left)

abbrev pub SaysPut : (s input : List ℕ) → Shelving → (after : List ℕ) → Type 0
SaysPut s input r after = (a : Result Shelved Refusal) (left : List ℕ) → Puts version_two s input a left → (r ≡ shelving a) × (after ≡ left)

-- the part of the shelf that the slot's pair names; or the refusal, and zero bytes at the shelf's start
abbrev pub SaysGot : (s : List ℕ) (slot : ℕ) → Got → Type 0
SaysGot s slot r =
    (sound version_two s ≡ true → Occupied s slot
    → r ≡ record { number = 0; place = 0; offset = start_of version_two s slot; length = length_of version_two s slot })
    × ((q : Refusal) → slot_refusal version_two s slot ≡ some q
    → r ≡ record { number = number q.fault; place = q.place; offset = 0; length = 0 })

abbrev pub SaysRemoved : (s : List ℕ) (slot : ℕ) → Written → (after : List ℕ) → Type 0
SaysRemoved s slot r after = (a : Stored) (left : List ℕ) → Removes version_two s slot a left → (r ≡ written a) × (after ≡ left)

abbrev pub SaysCounted : (s : List ℕ) → SlotNumbers → Type 0
SaysCounted s r = (a : Result Slots Refusal) → Counts version_two s a → r ≡ slot_numbers a

abbrev pub SaysSummed : (s : List ℕ) → SumNumbers → Type 0
SaysSummed s r = (a : Result TwoSums Refusal) → Sums version_two s a → r ≡ sum_numbers a

abbrev pub SaysCarried : (s : List ℕ) → Started → (after : List ℕ) → Type 0
SaysCarried s r after = (a : Outcome) (left : List ℕ) → Carries s a left → (r ≡ started a) × (after ≡ left)

abbrev pub SaysCarriedBack : (s : List ℕ) → Started → (after : List ℕ) → Type 0
SaysCarriedBack s r after = (a : Outcome) (left : List ℕ) → CarriesBack s a left → (r ≡ started a) × (after ≡ left)

-- the figures over the list of the file's pieces
abbrev pub SaysReported : (file : List ℕ) → MorningFigures → Type 0
SaysReported file r = (length file ≤ most_file → r ≡ morning (report_over (pieces file))) × (most_file < length file → r ≡ no_morning)
