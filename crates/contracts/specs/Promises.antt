-- What each public operation promises of its answer and of each lent buffer, for any input, refused or not. Its contract is this, of what
-- was there at entry and what is there at exit. Assumes nothing.
use Rattle.refusals.specs.declared.Refusal.{Refusal}
use Rattle.std.specs.Prelude.{ℕ, ◌+◌, ◌≡◌, List, length, take, drop, Result}
use Rattle.std.specs.Borrow.{Bor}
use Rattle.answers.specs.declared.Listed.{Listed}
use Rattle.answers.specs.Answers.{told_judged, told_stored, told_compared, told_located, told_listed, Stored, Judged, Compared, Located}
use Rattle.operations.specs.Judge.{judge, normalise, normalise_buffer}
use Rattle.operations.specs.Compare.{Part, of_first, of_second, compare, keep}
use Rattle.operations.specs.Locate.{locate, part_offset, part_length}
use Rattle.operations.specs.Read.{read, read_bytes, read_table}
use Rattle.operations.specs.Write.{write, write_output}

-- ---- answers and lent buffers: an answer is fixed by its number and its values

abbrev pub Judges : (s : List ℕ) → Judged → Type 0
Judges s r = told_judged r ≡ judge s

abbrev pub Normalises : (buffer s : List ℕ) → Stored → (after : List ℕ) → Type 0
Normalises buffer s r after = (told_stored r ≡ normalise buffer s) × (after ≡ normalise_buffer buffer s)

abbrev pub Compares : (first second : List ℕ) → Compared → Type 0
Compares first second r = told_compared r ≡ compare first second

abbrev pub Locates : (s : List ℕ) (segment element repeat component : ℕ) → Located → Type 0
Locates s segment element repeat component r = told_located r ≡ locate s segment element repeat component

abbrev pub Reads : (buffer table s : List ℕ) → Result Listed Refusal → (bytesAfter tableAfter : List ℕ) → Type 0
Reads buffer table s r bytesAfter tableAfter =
    (told_listed r ≡ read buffer table s) × (bytesAfter ≡ read_bytes buffer table s) × (tableAfter ≡ read_table buffer table s)

abbrev pub Writes : (service bytes table output : List ℕ) → Stored → (after : List ℕ) → Type 0
Writes service bytes table output r after =
    (told_stored r ≡ write service bytes table output) × (after ≡ write_output service bytes table output)

-- ---- slices that are handed back

-- r is that part of the lent slice: it points into the same memory, `offset` bytes on, and holds the `size` bytes that stand there
pub record IsPart (lent : Bor (List ℕ)) (offset size : ℕ) (r : Bor (List ℕ)) : Type 0 where
  pub place : r.ref_ptr ≡ (lent.ref_ptr.0, offset + lent.ref_ptr.1)
  pub long : length r.now ≡ size
  pub bytes : r.now ≡ take size (drop offset lent.now)

-- r is the part that is named of the two lent slices
abbrev pub Handed : Part → (first second r : Bor (List ℕ)) → Type 0
Handed (of_first offset size) first second r = IsPart first offset size r
Handed (of_second offset size) first second r = IsPart second offset size r

abbrev pub Keeps : (first second r : Bor (List ℕ)) → Type 0
Keeps first second r = Handed (keep first.now second.now) first second r

-- Locate's companion: the part that Locate names, or zero bytes at the input's start
abbrev pub HandsBack : (s : Bor (List ℕ)) (segment element repeat component : ℕ) (r : Bor (List ℕ)) → Type 0
HandsBack s segment element repeat component r =
    IsPart s (part_offset s.now segment element repeat component) (part_length s.now segment element repeat component) r
