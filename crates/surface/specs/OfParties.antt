-- How the parties of an interchange are laid out in the struct that crosses to C: what refuses the input, and the part of the input that
-- spells each, as Locate's companion hands it back. Assumes nothing.
use Rattle.std.specs.Prelude.{ℕ, List, Result, Ok, Err}
use Rattle.lists.specs.Lists.{maybe}
use Rattle.refusals.specs.declared.Refusal.{Refusal}
use Rattle.refusals.specs.Refusals.{number}
use Rattle.stages.specs.Stages.{refusal_of}
use Rattle.values.specs.declared.Span.{Span}
use Rattle.parties.specs.declared.Parties.{Parties as Found}
use Rattle.surface.specs.Parts.{part_of}
use Rattle.surface.specs.declared.Part.{Part}
use Rattle.surface.specs.declared.Parties.{Parties}

-- "refusal" of Judge, or 0 and 0; and UNB's elements 2, 3 and 5: sender, recipient and control reference, of each the first component
unfoldable pub parties_of : List ℕ → Parties
parties_of s =
    record {
      number = maybe 0 (λ r. number r.fault) (refusal_of s);
      place = maybe 0 (λ r. r.place) (refusal_of s);
      sender = part_of s 0 2 0 0;
      recipient = part_of s 0 3 0 0;
      reference = part_of s 0 5 0 0;
    }

-- ---- what was found, laid out

unfoldable pub part : Span → Part
part p = record { offset = p.offset; length = p.length }

unfoldable pub parties_beside : (number place : ℕ) → Found → Parties
parties_beside number place found =
    record {
      number = number;
      place = place;
      sender = part found.sender;
      recipient = part found.recipient;
      reference = part found.reference;
    }

-- zero bytes at the input's start
unfoldable pub no_part : Part
no_part = record { offset = 0; length = 0 }

unfoldable pub laid_parties : Result Found Refusal → Parties
laid_parties (Ok found) = parties_beside 0 0 found
laid_parties (Err r) = record { number = number r.fault; place = r.place; sender = no_part; recipient = no_part; reference = no_part }
