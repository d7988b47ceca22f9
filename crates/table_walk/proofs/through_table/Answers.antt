-- `table_walk::through_table` meets its contract: the outermost level is the whole table. Assumes nothing.
use Prim.Native.Nat.{ℕ}
use mathlib.Core.Path.{sym, ap, subst, ◌∙◌}
use mathlib.Core.List.{List}
use native.Mathlib.Omega.{arith}
use Rattle.segments.specs.Tags.{tag_of}
use Rattle.message_tables.specs.Entries.{Entry, whole_entries}
use Rattle.message_tables.specs.Structure.{levels, structure_of}
use Rattle.message_table_laws.specs.Nesting.{Levels}
use Rattle.message_structures.specs.Walking.{walk}
use Rattle.table_walk.specs.Walking.{segments_at}
use Rattle.table_walk.proofs.Entries.{whole_within}
use Rattle.table_walk.proofs.through_table.Goals as goal

pub level-requires : goal.level-requires
unfolding whole_entries
level-requires c =
    (omega arith, subst (Levels 9) (sym (whole_within c.args.table.now)) c.requires, c.standing_at.ensures.marked)

pub returns : goal.returns
unfolding whole_entries structure_of
returns c =
    let x = c.args in
    let at = c.standing_at.ensures.at in record { is = c.level.ensures.is ∙ ap (λ (es : List Entry). walk tag_of (levels 9 es) (segments_at x.c x.s.now c.standing_at.result.at)) (whole_within x.table.now) ∙ ap (λ (k : ℕ). walk tag_of (structure_of x.table.now) (segments_at x.c x.s.now k)) at; later = omega (arith, at, c.level.ensures.later) }
