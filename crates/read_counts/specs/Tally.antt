-- What is listed so far, one step for a value's byte and for a separator, and the table from there on. Assumes nothing.
use Rattle.std.specs.Prelude.{ℕ, ◌+◌, ◌≡◌, false, List, [], ◌++◌, leb, length, if◌then◌else◌}
use Rattle.values.specs.Tokens.{Token}
use Rattle.values.specs.Values.{bytes_of}
use Rattle.operations.specs.ValueList.{Entry}
use Rattle.emission_laws.specs.declared.Held.{Held}
use Rattle.emission_laws.specs.Emission.{nothing, waiting, separated, emitted}
use Rattle.read_counts.specs.declared.Listing.{Listing}
use Rattle.read_counts.specs.declared.Tally.{Tally}
use Rattle.read_counts.specs.Marks.{marks, run_out, run_next, numbers_out, entry_next, entry_grow, numbers_from}

-- the record of the value that is open
abbrev pub entry_of : Listing → Entry
entry_of l = record { kind = l.kind; start = l.start; size = l.size }

-- so many records stand before the open one, and so much is held back after it
abbrev pub listing : ℕ → Entry → Held → Listing
listing records e h = record { records = records; kind = e.kind; start = e.start; size = e.size; held = h }

-- the first value is open, and nothing is listed
abbrev pub fresh : Listing
fresh = record { records = 0; kind = 0; start = 0; size = 0; held = nothing }

-- all values that are listed or held back
abbrev pub values : Listing → ℕ
values l = l.records + waiting l.held

-- where the open value ends
abbrev pub end : Listing → ℕ
end l = l.start + l.size

-- ---- marks that are let out

-- what a run of marks of one kind writes out, and the record that is open after it
abbrev pub marks_out : ℕ → ℕ → Entry → List ℕ
marks_out kind count e = run_out numbers_out entry_next entry_grow kind count e

abbrev pub entry_after : ℕ → ℕ → Entry → Entry
entry_after kind count e = run_next numbers_out entry_next entry_grow kind count e

unfoldable pub after_marks : ℕ → ℕ → Listing → Listing
after_marks kind count l = listing (l.records + count) (entry_after kind count (entry_of l)) l.held

-- what is held back is let out: the separators of elements, those of repeats, and those of components
abbrev pub past_elements : Listing → Listing
past_elements l = after_marks 1 l.held.elements l

abbrev pub past_repeats : Listing → Listing
past_repeats l = after_marks 3 l.held.repeats (past_elements l)

unfoldable pub past_held : Listing → Listing
past_held l = after_marks 2 l.held.components (past_repeats l)

-- ---- one step

-- one byte more in the open value, after which nothing is held back
abbrev pub grown : Listing → Listing
grown l = record { records = l.records; kind = l.kind; start = l.start; size = l.size + 1; held = nothing }

-- so many bytes more in an open value that has some
abbrev pub longer : ℕ → Listing → Listing
longer count l = record { records = l.records; kind = l.kind; start = l.start; size = l.size + count; held = l.held }

-- a byte of a value lets out what is held back
abbrev pub after_byte : Listing → Listing
after_byte l = grown (past_held l)

unfoldable pub byte_numbers : Listing → List ℕ
byte_numbers l =
    marks_out 1 l.held.elements (entry_of l)
    ++ (marks_out 3 l.held.repeats (entry_of (past_elements l)) ++ marks_out 2 l.held.components (entry_of (past_repeats l)))

-- after a terminator the next value begins a segment; another separator is held back
unfoldable pub after_separator : Listing → ℕ → Listing
after_separator l rank =
    if leb rank 0 then listing (l.records + 1) (entry_next 0 (entry_of l)) (separated l.held rank)
    else listing l.records (entry_of l) (separated l.held rank)

unfoldable pub separator_numbers : Listing → ℕ → List ℕ
separator_numbers l rank = if leb rank 0 then numbers_out (entry_of l) else []

-- ---- the whole

-- the table, from what is listed and the tokens that follow
unfoldable pub table_rest : Listing → List Token → List ℕ
table_rest l ts = numbers_from (entry_of l) false (emitted marks l.held ts)

unfoldable pub table_of : List Token → List ℕ
table_of ts = table_rest fresh ts

-- as many bytes and numbers as the values of the tokens take
abbrev pub Tallies : List Token → Tally → Type 0
Tallies ts t = (t.bytes ≡ length (bytes_of ts)) × (t.numbers ≡ length (table_of ts))
