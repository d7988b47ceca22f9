-- The number of the rules that the answers follow. It rises with each request that changes an answer, so that whoever stores
-- verdicts or normal forms sees when they are old. Assumes nothing.
use Rattle.std.specs.Prelude.{ℕ}

-- 1: paper 01 alone; 2: with change request 2026-03, section markers; 3: with change request 2026-01, line breaks between segments;
-- 4: with change request 2026-06, version 2 of the shelf; 5: with change request 2026-10, syntax version 4
abbrev pub rules : ℕ
rules = 5
