-- The cycle of calls {level, repeats}. A level's loop: the walk through all its entries is the walk through those from `number` on, from where
-- it stands. An entry's loop: all its repeats are those that are left, from where it stands. At each call the depth falls, and the entries left
-- with it: a repeat goes through fewer entries than the level that holds it, one level deeper. Assumes nothing.
use Rattle.std.proofs.Common.{◌+◌, ◌-◌, ◌*◌, ◌≤◌}
use Rattle.segments.specs.Tags.{tag_of}
use Rattle.message_tables.specs.Structure.{levels}
use Rattle.message_table_laws.specs.Nesting.{Levels}
use Rattle.message_structures.specs.Walking.{repeated, walk}
use Rattle.table_rows.specs.Rows.{tag_bytes}
use Rattle.table_walk.specs.Walking.{segments_at, within}
use Rattle.table_walk.proofs.Going.{Goes}
use Rattle.table_walk.proofs.+level_repeats.Given as goal

-- depth and entries left
abbrev pub decreases-level : goal.decreases-level
decreases-level l = 2 * (l.depth + (l.end - l.from))

abbrev pub decreases-repeats : goal.decreases-repeats
decreases-repeats l = 2 * (l.depth + (l.part.end - l.part.from)) + 1

abbrev pub invariant-level-loop-number : goal.invariant-level-loop-number
invariant-level-loop-number l =
    Levels l.depth (within l.w.table.now l.number l.end)
    × Goes l.w.c l.w.s.now l.initial.here.at
    (walk tag_of (levels l.depth (within l.w.table.now l.from l.end)) (segments_at l.w.c l.w.s.now l.initial.here.at))
    (walk tag_of (levels l.depth (within l.w.table.now l.number l.end))) l.here
    × (l.from ≤ l.number)

abbrev pub decreases-level-loop-number : goal.decreases-level-loop-number
decreases-level-loop-number l = l.end - l.number

abbrev pub invariant-repeats-loop : goal.invariant-repeats-loop
invariant-repeats-loop l =
    Goes l.w.c l.w.s.now l.initial.here.at
    (repeated tag_of (walk tag_of (levels l.depth (within l.w.table.now l.part.from l.part.end))) (tag_bytes l.part.lead) l.part.most
    (segments_at l.w.c l.w.s.now l.initial.here.at))
    (repeated tag_of (walk tag_of (levels l.depth (within l.w.table.now l.part.from l.part.end))) (tag_bytes l.part.lead)
    (l.part.most - l.counter)) l.here
