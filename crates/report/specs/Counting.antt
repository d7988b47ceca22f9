-- A report with one piece more, by what Judge says of it; and how large its figures are. Assumes nothing.
use Rattle.answers.specs.Answers.{Judged}
use Rattle.std.specs.Prelude.{ℕ, ◌+◌, ◌*◌, ◌≤◌, max, ◌≡◌, length, get_or, set, Ok, Err}
use Rattle.refusals.specs.declared.Refusal.{Refusal}
use Rattle.refusals.specs.Refusals.{number}
use Rattle.refusals.specs.Limits.{most_bytes}
use Rattle.answers.specs.declared.Figures.{Figures}
use Rattle.mailbox_files.specs.declared.Report.{Report}

-- an accepted piece more
unfoldable pub with_accepted : Report → Figures → Report
with_accepted r i =
    record {
      accepted = r.accepted + 1;
      refused = r.refused;
      segments = record { 0 = r.segments.0 + i.segments.0 };
      messages = record { 0 = r.messages.0 + i.messages.0 };
      total = r.total + i.length;
      longest = max r.longest i.length;
    }

-- a refused piece more, under its number
unfoldable pub with_refused : Report → Refusal → Report
with_refused r q =
    record {
      accepted = r.accepted;
      refused = set r.refused (number q.fault) (get_or r.refused (number q.fault) 0 + 1);
      segments = r.segments;
      messages = r.messages;
      total = r.total;
      longest = r.longest;
    }

unfoldable pub counted : Report → Judged → Report
counted r (Ok i) = with_accepted r i
counted r (Err q) = with_refused r q

-- the report is of so many pieces at most: each is counted once, and an accepted one has at most 32,000 bytes, segments and messages
pub record Within (pieces : ℕ) (r : Report) : Type 0 where
  pub accepted : r.accepted ≤ pieces
  pub numbers : length r.refused ≡ 14
  pub refused : (n : ℕ) → get_or r.refused n 0 ≤ pieces
  pub segments : r.segments.0 ≤ most_bytes * pieces
  pub messages : r.messages.0 ≤ most_bytes * pieces
  pub total : r.total ≤ most_bytes * pieces

-- what Judge says of a piece is small enough to be counted
pub record Small (i : Figures) : Type 0 where
  pub segments : i.segments.0 ≤ most_bytes
  pub messages : i.messages.0 ≤ most_bytes
  pub normal : i.length ≤ most_bytes

abbrev pub Countable : Judged → Type 0
Countable (Ok i) = Small i
Countable (Err q) = number q.fault ≤ 13
