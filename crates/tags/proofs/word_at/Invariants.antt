-- `tags::word_at` meets its contract. The loop's invariant: what was read and what stands from `word.next` on make the whole value.
-- What is left of the input falls. Assumes nothing.
use Prim.Native.Nat.{◌-◌}
use lib.ListN.{length}
use Rattle.tags.proofs.Reading.{UpTo}
use Rattle.tags.proofs.word_at.Given as goal

abbrev pub invariant-loop-byte : goal.invariant-loop-byte
invariant-loop-byte l = UpTo l.c l.s l.from l.word

abbrev pub decreases-loop-byte : goal.decreases-loop-byte
decreases-loop-byte l = length l.s - l.word.next
