-- `import_columns::line_of` meets its contract: its numbers stand at the place, and its value goes on to the line feed. Assumes nothing.
use Prim.Native.Nat.{◌<◌}
use mathlib.Core.Path.{refl, sym, subst}
use native.Mathlib.Omega.{arith}
use lib.ListN.{length}
use Rattle.column_walk.specs.declared.Line.{Line}
use Rattle.column_walk.specs.Walk.{Sought}
use Rattle.import_columns.proofs.Lines.{numbers_missing, start_inside, end_inside, end_missing, feed_missing, line_stands, sought_none, sought_some}
use Rattle.import_columns.proofs.line_of.Goals.{then-end-s-via-then-end-s, then-end-s-via-else-end-s+then-s-end-ne10}
use Rattle.import_columns.proofs.line_of.Goals as goal

pub numbers_end-requires : goal.numbers_end-requires
numbers_end-requires c = c.requires

pub returns-in_err-start : goal.returns-in_err-start
returns-in_err-start c =
    let x = c.args in
    subst (Sought x.s.now x.at x.position x.kind) (sym c.from_residual.ensures)
    (sought_none x.s.now x.at x.position x.kind (numbers_missing x.s.now x.at x.position c.in_err-start.ensures))

pub value_end-end-requires : goal.value_end-end-requires
value_end-end-requires c =
    let x = c.args in
    let (there, after) = c.in_ok-start.ensures in
    start_inside x.s.now x.at x.position there c.in_ok-start.start after

pub returns-then-end-s : goal.returns-then-end-s
returns-then-end-s c =
    let x = c.args in
    let (there, after) = c.in_ok-start.ensures in
    let start = c.in_ok-start.start in
    let end = c.value_end-end.result in
    let stop = c.value_end-end.ensures in
    sought_none x.s.now x.at x.position x.kind (elim c.then-end-s.branch [
      | then-end-s-via-then-end-s w ↦ end_missing x.s.now x.at x.position there start after end stop (omega (arith, w.if-end-s.true))
      | then-end-s-via-else-end-s+then-s-end-ne10 w ↦ feed_missing x.s.now x.at x.position there start after end stop w.if-s-end-ne10.true
    ])

pub bounds-s-end : goal.bounds-s-end
bounds-s-end c =
    let x = c.args in
    let (there, after) = c.in_ok-start.ensures in
    omega (arith, c.if-end-s.false, end_inside x.s.now x.at x.position there c.in_ok-start.start after c.value_end-end.result c.value_end-end.ensures)

pub returns : goal.returns
returns c =
    let x = c.args in
    let start = c.in_ok-start.start in
    let end = c.value_end-end.result in
    let stop = c.value_end-end.ensures in
    let (there, after) = c.in_ok-start.ensures in
    let l : Line = record { kind = x.kind; position = x.position; start = start; end = end } in
    let short : end < length x.s.now = omega (arith, c.if-end-s.false, end_inside x.s.now x.at x.position there start after end stop) in
    sought_some x.s.now x.at x.position x.kind l refl
    (line_stands x.s.now x.at x.position there start after end stop l refl refl refl short c.if-s-end-ne10.false)
