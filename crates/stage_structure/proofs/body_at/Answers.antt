-- `stage_structure::body_at` meets its contract: where the walk stopped, or what is left behind a UNT. Assumes nothing.
use Prim.Native.Nat.{◌≤◌}
use mathlib.Core.Path.{sym, ap, subst, ◌∙◌}
use Rattle.segments.specs.declared.Kind.TheVariants.{Unt}
use Rattle.segments.specs.Kinds.{is}
use Rattle.message_table_laws.proofs.Tags.{sound_levels}
use Rattle.table_walk.specs.Walking.{Walked, told, standing}
use Rattle.stage_structure.proofs.Stops.{stops, left_here, goes_through, leaves_over, trailer_here, left_on}
use Rattle.stage_structure.proofs.body_at.Goals as goal

pub through_table-requires : goal.through_table-requires
through_table-requires c = sound_levels c.args.table.now c.requires

pub returns-in-Err : goal.returns-in-Err
returns-in-Err c =
    let x = c.args in
    left_here x.table.now x.c x.s.now x.from c.failed.ensures (stops (sym (ap (told x.c x.s.now) c.in-Err.is) ∙ c.through_table.ensures.is) c.place_in.ensures)

pub returns-then-is_trailer : goal.returns-then-is_trailer
returns-then-is_trailer c =
    let x = c.args in
    let goes = sym (ap (told x.c x.s.now) c.in-Ok.is) ∙ c.through_table.ensures.is in
    let trailer = sym (trailer_here x.c x.s.now _) ∙ sym (ap (is Unt) c.kind_at.ensures) ∙ sym c.is_trailer.ensures ∙ c.if-is_trailer.true in (
      goes_through goes trailer,
      left_on x.c x.s.now x.table.now c.requires x.from _ goes,
      subst (λ (w : Walked). x.from ≤ (standing w).at) c.in-Ok.is c.through_table.ensures.later,
    )

pub returns-else-is_trailer : goal.returns-else-is_trailer
returns-else-is_trailer c =
    let x = c.args in
    let goes = sym (ap (told x.c x.s.now) c.in-Ok.is) ∙ c.through_table.ensures.is in
    let trailer = sym (trailer_here x.c x.s.now _) ∙ sym (ap (is Unt) c.kind_at.ensures) ∙ sym c.is_trailer.ensures ∙ c.if-is_trailer.false in
    left_here x.table.now x.c x.s.now x.from c.failed-else-is_trailer.ensures (leaves_over goes trailer c.place_in-else-is_trailer.ensures)
