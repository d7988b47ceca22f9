-- The structs that the functions make are those that the definitions give for the answers. Assumes nothing.
use Prim.Native.Nat.{ℕ}
use mathlib.Core.Path.{◌≡◌, refl}
use mathlib.Core.Bool.{false}
use lib.Dec.{eqb}
use Rattle.refusals.specs.declared.Fault.{Fault}
use Rattle.refusals.specs.declared.Fault.TheVariants.{TooLong, UnusableAdvice, NoOpening, StrayRelease, UnendedSegment, BrokenTag, ForeignLevel, OutsideLevel, MisplacedSegment, BadControl, ReferenceDiffers, CountWrong, NormalTooLong, BufferShort, BadList, NeedsRelease, NoFreeSlot, NoRoom, UnsoundShelf, FreeSlot, UnsoundTable, UnmatchedBody, NoAcknowledgement, NoColumns}
use Rattle.refusals.specs.declared.Refusal.{Refusal}
use Rattle.refusals.specs.Refusals.{number}
use Rattle.answers.specs.Answers.{refused, refused_input}
use Rattle.surface.specs.Verdicts.{value, refused_verdict, verdict_of}
use Rattle.surface.specs.Answered.{written_of, comparison_of, location_of, listing_of}
use Rattle.surface.specs.OfShelf.{started_of, shelving_of, got_of, slot_numbers_of, sum_numbers_of}

-- no refusal has the number 0
pub refusal_numbered : (f : Fault) → eqb (number f) 0 ≡ false
refusal_numbered TooLong = refl
refusal_numbered UnusableAdvice = refl
refusal_numbered NoOpening = refl
refusal_numbered StrayRelease = refl
refusal_numbered UnendedSegment = refl
refusal_numbered BrokenTag = refl
refusal_numbered ForeignLevel = refl
refusal_numbered OutsideLevel = refl
refusal_numbered MisplacedSegment = refl
refusal_numbered BadControl = refl
refusal_numbered ReferenceDiffers = refl
refusal_numbered CountWrong = refl
refusal_numbered NormalTooLong = refl
refusal_numbered BufferShort = refl
refusal_numbered BadList = refl
refusal_numbered NeedsRelease = refl
refusal_numbered NoFreeSlot = refl
refusal_numbered NoRoom = refl
refusal_numbered UnsoundShelf = refl
refusal_numbered FreeSlot = refl
refusal_numbered UnsoundTable = refl
refusal_numbered UnmatchedBody = refl
refusal_numbered NoAcknowledgement = refl
refusal_numbered NoColumns = refl

-- ---- the struct of a refusal, from its number and its place

module _ (r : Refusal) {n : ℕ} (e : n ≡ number r.fault) where
  pub refused-verdict :
      record {
        number = n;
        segments = 0;
        messages = 0;
        groups = 0;
        place = r.place;
        length = 0;
        component = 0;
        element = 0;
        mark = 0;
        release = 0;
        repetition = 0;
        terminator = 0;
      } ≡ verdict_of (refused r)
  unfolding verdict_of refused_verdict value refused
  refused-verdict = rw (e, refusal_numbered r.fault)

  pub refused_written : record { number = n; place = r.place; length = 0 } ≡ written_of (refused r)
  unfolding written_of value refused
  refused_written = rw (e, refusal_numbered r.fault)

  pub refused_comparison : (input : ℕ) → record { number = n; input = input; same = 0; place = r.place } ≡ comparison_of (refused_input input r)
  unfolding comparison_of value refused_input
  refused_comparison input = rw (e, refusal_numbered r.fault)

  pub refused_location : record { number = n; present = 0; place = r.place; offset = 0; length = 0 } ≡ location_of (refused r)
  unfolding location_of value refused
  refused_location = rw (e, refusal_numbered r.fault)

  pub refused_listing : record { number = n; place = r.place; bytes = 0; numbers = 0 } ≡ listing_of (refused r)
  unfolding listing_of value refused
  refused_listing = rw (e, refusal_numbered r.fault)

  pub refused_started : record { number = n; place = r.place } ≡ started_of (refused r)
  unfolding started_of value refused
  refused_started = rw (e, refusal_numbered r.fault)

  pub refused_shelving : record { number = n; added = 0; place = r.place; slot = 0 } ≡ shelving_of (refused r)
  unfolding shelving_of value refused
  refused_shelving = rw (e, refusal_numbered r.fault)

  pub refused_got : record { number = n; place = r.place; offset = 0; length = 0 } ≡ got_of (refused r) 0 0
  unfolding got_of value refused
  refused_got = rw (e, refusal_numbered r.fault)

  pub refused_slots : record { number = n; place = r.place; occupied = 0; lowest = 0 } ≡ slot_numbers_of (refused r)
  unfolding slot_numbers_of value refused
  refused_slots = rw (e, refusal_numbered r.fault)

  pub refused_sums : record { number = n; held = 0; duplicates = 0; place = r.place } ≡ sum_numbers_of (refused r)
  unfolding sum_numbers_of value refused
  refused_sums = rw (e, refusal_numbered r.fault)
