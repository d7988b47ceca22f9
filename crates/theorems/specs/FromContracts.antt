-- What follows for a caller from the contracts alone, whatever code meets them: for all answers and buffers that they allow, one
-- operation after the other. Each field of `Contracts` is a theorem; `proofs/FromContracts.antt` proves the record. Assumes nothing.
use Rattle.answers.specs.Answers.{Judged, Compared}
use Rattle.std.specs.Prelude.{ℕ, ◌≤◌, ◌≡◌, true, List, ◌++◌, length, take, Ok, Err}
use Rattle.lists.specs.Lists.{all}
use Rattle.characters.specs.Characters.{is_break, six_bytes, characters_of}
use Rattle.refusals.specs.declared.Fault.TheVariants.{BufferShort}
use Rattle.refusals.specs.declared.Refusal.{Refusal}
use Rattle.refusals.specs.Limits.{most_bytes}
use Rattle.stages.specs.Contents.{contents}
use Rattle.answers.specs.declared.Figures.{Figures}
use Rattle.operations.specs.Judge.{figures_of}
use Rattle.operations.specs.ValueList.{list_of, listed_in}
use Rattle.contracts.specs.Promises.{Judges, Normalises, Compares, Reads, Writes}
use Rattle.acceptance_laws.specs.Breaks.{ButForBreaks}
use Rattle.round_trip_laws.specs.Trips.{list_given}

-- Judge accepts the text, with the service characters, counts and length that are its own.
abbrev pub IsAccepted : List ℕ → Type 0
IsAccepted text = (r : Judged) → Judges text r → r ≡ Ok (figures_of text)

-- Compare says that the two are the same.
abbrev pub AreSame : List ℕ → List ℕ → Type 0
AreSame first second = (r : Compared) → Compares first second r → r ≡ Ok true

-- What a reader finds in a text that was written from a value list.
pub record ReadAfterWrite (bytes table text : List ℕ) : Type 0 where
  pub accepts : IsAccepted text
  -- Read gives the list back with its empty ends trimmed,
  pub gives_back : (buffer numbers : List ℕ) (b k : ℕ) (bytesAfter tableAfter : List ℕ)
      → Reads buffer numbers text (Ok (record { bytes = b; numbers = k })) bytesAfter tableAfter
      → listed_in (take b bytesAfter) (take k tableAfter) ≡ list_of (list_given bytes table)
  -- and is refused for nothing but a lent buffer that is too short.
  pub only_short : (buffer numbers : List ℕ) (r : Refusal) (bytesAfter tableAfter : List ℕ)
      → Reads buffer numbers text (Err r) bytesAfter tableAfter → r.fault ≡ BufferShort

-- What holds of a text that was written, with the six service bytes, from what Read gave for s.
pub record WriteAfterRead (s service text : List ℕ) : Type 0 where
  pub accepts : IsAccepted text
  pub characters : characters_of text ≡ six_bytes service
  pub same_contents : contents text ≡ contents s
  -- the same interchange, where the decimal mark is that of s
  pub same : (six_bytes service).mark ≡ (characters_of s).mark → AreSame s text

pub record Contracts : Type 0 where
  -- Write, then Read
  pub write_read : (service bytes table output : List ℕ) (n : ℕ) (after : List ℕ)
      → Writes service bytes table output (Ok n) after → ReadAfterWrite bytes table (take n after)
  -- and Read, then Write
  pub read_write : (buffer numbers s : List ℕ) (b k : ℕ) (bytesAfter tableAfter : List ℕ)
      → Reads buffer numbers s (Ok (record { bytes = b; numbers = k })) bytesAfter tableAfter → (service output : List ℕ) (n : ℕ) (after : List ℕ)
      → Writes service (take b bytesAfter) (take k tableAfter) output (Ok n) after → WriteAfterRead s service (take n after)
  -- what Normalise stores is the same interchange
  pub normalise_compare : (buffer s : List ℕ) (n : ℕ) (after : List ℕ) → Normalises buffer s (Ok n) after → AreSame s (take n after)
  -- an input that Judge accepts and one that differs from it in nothing but line breaks are the same, as long as that is not too long
  -- (request 2026-01): so with a break after every terminator (`Demands`: `respaced_alike`),
  pub breaks_alike : (s t : List ℕ) (i : Figures) → Judges s (Ok i) → ButForBreaks s t → length t ≤ most_bytes → AreSame s t
  -- and with any breaks behind it
  pub breaks_compare : (s gap : List ℕ) (i : Figures) → Judges s (Ok i) → all is_break gap ≡ true → length (s ++ gap) ≤ most_bytes
      → AreSame s (s ++ gap)
