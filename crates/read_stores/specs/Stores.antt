-- What Read's last step asks of the sink's byte buffer and table, and what it leaves in them. Assumes nothing.
use Rattle.std.specs.Prelude.{ℕ, ◌≤◌, ◌≡◌, List, length}
use Rattle.values.specs.Tokens.{Token}
use Rattle.values.specs.Values.{bytes_of}
use Rattle.read_counts.specs.Tally.{table_of}

-- there is room for the value bytes of the tokens, and for their table
pub record Room (room : List ℕ → ℕ) (buffer table : List ℕ) (ts : List Token) : Type 0 where
  pub for_bytes : length (bytes_of ts) ≤ room buffer
  pub for_table : length (table_of ts) ≤ room table

-- both stand at the front of their buffers; what is beyond them keeps its value
abbrev pub Stores : (holds : List ℕ → ℕ → List ℕ → List ℕ) (buffer table : List ℕ) → List Token → (bufferAfter tableAfter : List ℕ) → Type 0
Stores holds buffer table ts bufferAfter tableAfter = (bufferAfter ≡ holds buffer 0 (bytes_of ts)) × (tableAfter ≡ holds table 0 (table_of ts))
