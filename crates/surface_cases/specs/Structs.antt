-- The struct that a program in C gets for each case of each answer, field by field. Assumes nothing.
use Rattle.answers.specs.declared.Unaccepted.TheVariants.{First, Second}
use Rattle.answers.specs.Answers.{Stored, Judged, Compared, Located}
use Rattle.std.specs.Prelude.{ℕ, replicate, Ok, Err, Some, None, Result, true, false}
use Rattle.refusals.specs.declared.Refusal.{Refusal}
use Rattle.refusals.specs.Refusals.{number, Outcome}
use Rattle.answers.specs.declared.Listed.{Listed}
use Rattle.shelves.specs.declared.Shelved.{Shelved}
use Rattle.shelves.specs.declared.Shelved.TheVariants as shelved
use Rattle.shelves.specs.declared.Slots.{Slots}
use Rattle.shelves.specs.declared.TwoSums.{TwoSums}
use Rattle.mailbox_files.specs.declared.Report.{Report}
use Rattle.surface.specs.declared.Verdict.{Verdict}
use Rattle.surface.specs.declared.Written.{Written}
use Rattle.surface.specs.declared.Comparison.{Comparison}
use Rattle.surface.specs.declared.Location.{Location}
use Rattle.surface.specs.declared.Listing.{Listing}
use Rattle.surface.specs.declared.Started.{Started}
use Rattle.surface.specs.declared.Shelving.{Shelving}
use Rattle.surface.specs.declared.SlotNumbers.{SlotNumbers}
use Rattle.surface.specs.declared.SumNumbers.{SumNumbers}
use Rattle.surface.specs.declared.MorningFigures.{MorningFigures}

unfoldable pub verdict : Judged → Verdict
verdict (Ok f) =
    record {
      number = 0;
      segments = f.segments.0;
      messages = f.messages.0;
      groups = f.groups.0;
      place = 0;
      length = f.length;
      component = f.characters.component;
      element = f.characters.element;
      mark = f.characters.mark;
      release = f.characters.release;
      repetition = f.characters.repetition;
      terminator = f.characters.terminator;
    }
verdict (Err r) =
    record {
      number = number r.fault;
      segments = 0;
      messages = 0;
      groups = 0;
      place = r.place;
      length = 0;
      component = 0;
      element = 0;
      mark = 0;
      release = 0;
      repetition = 0;
      terminator = 0;
    }

unfoldable pub written : Stored → Written
written (Ok n) = record { number = 0; place = 0; length = n }
written (Err r) = record { number = number r.fault; place = r.place; length = 0 }

unfoldable pub comparison : Compared → Comparison
comparison (Ok true) = record { number = 0; input = 0; same = 1; place = 0 }
comparison (Ok false) = record { number = 0; input = 0; same = 0; place = 0 }
comparison (Err (First r)) = record { number = number r.fault; input = 1; same = 0; place = r.place }
comparison (Err (Second r)) = record { number = number r.fault; input = 2; same = 0; place = r.place }

unfoldable pub location : Located → Location
location (Ok (Some v)) = record { number = 0; present = 1; place = 0; offset = v.offset; length = v.length }
location (Ok None) = record { number = 0; present = 0; place = 0; offset = 0; length = 0 }
location (Err r) = record { number = number r.fault; present = 0; place = r.place; offset = 0; length = 0 }

unfoldable pub listing : Result Listed Refusal → Listing
listing (Ok v) = record { number = 0; place = 0; bytes = v.bytes; numbers = v.numbers }
listing (Err r) = record { number = number r.fault; place = r.place; bytes = 0; numbers = 0 }

unfoldable pub started : Outcome → Started
started (Ok _) = record { number = 0; place = 0 }
started (Err r) = record { number = number r.fault; place = r.place }

unfoldable pub shelving : Result Shelved Refusal → Shelving
shelving (Ok (shelved.New slot)) = record { number = 0; added = 1; place = 0; slot = slot }
shelving (Ok (shelved.Copy slot)) = record { number = 0; added = 0; place = 0; slot = slot }
shelving (Err r) = record { number = number r.fault; added = 0; place = r.place; slot = 0 }

unfoldable pub slot_numbers : Result Slots Refusal → SlotNumbers
slot_numbers (Ok v) = record { number = 0; place = 0; occupied = v.occupied; lowest = v.lowest_free }
slot_numbers (Err r) = record { number = number r.fault; place = r.place; occupied = 0; lowest = 0 }

unfoldable pub sum_numbers : Result TwoSums Refusal → SumNumbers
sum_numbers (Ok v) = record { number = 0; held = v.held; duplicates = v.duplicates; place = 0 }
sum_numbers (Err r) = record { number = number r.fault; held = 0; duplicates = 0; place = r.place }

-- the figures of a report that was made
unfoldable pub morning : Report → MorningFigures
morning r =
    record {
      number = 0;
      accepted = r.accepted;
      refused = r.refused;
      segments = r.segments.0;
      messages = r.messages.0;
      place = 0;
      total = r.total;
      longest = r.longest;
    }

-- and of a file that is too long: 1 at 0
unfoldable pub no_morning : MorningFigures
no_morning =
    record {
      number = 1;
      accepted = 0;
      refused = replicate 14 0;
      segments = 0;
      messages = 0;
      place = 0;
      total = 0;
      longest = 0;
    }
