-- `column_lines::numbers_end` meets its contract: the first number that does not stand after those before it decides, or all stand.
-- Assumes nothing.
use mathlib.Core.Path.{sym, subst}
use mathlib.Core.List.{◌++◌}
use Rattle.std.specs.Prelude.{None}
use Rattle.column_lines.specs.Numbers.{cell, numbers_at, Ends}
use Rattle.column_lines.proofs.Numbers.{first_off, ends_then, ends_within}
use Rattle.column_lines.proofs.numbers_end.Goals as goal

pub returns-in_err-element : goal.returns-in_err-element
unfolding numbers_at
returns-in_err-element c =
    let p = c.args.p in
    let s = c.args.s.now in
    let elements = cell p.element ++ (cell p.repeat ++ cell p.component) in
    subst (Ends (numbers_at p) s c.args.at) (sym c.from_residual.ensures) (first_off (cell p.segment) elements s c.args.at c.in_err-element.ensures)

pub past_column-requires-2 : goal.past_column-requires-2
past_column-requires-2 c = ends_within (cell c.args.p.segment) c.args.s.now c.args.at c.in_ok-element.ensures c.requires

pub returns-in_err-repeat : goal.returns-in_err-repeat
unfolding numbers_at
returns-in_err-repeat c =
    let p = c.args.p in
    let s = c.args.s.now in
    let repeats = cell p.repeat ++ cell p.component in
    subst (Ends (numbers_at p) s c.args.at) (sym c.from_residual-in_err-repeat.ensures)
    (ends_then (cell p.segment) (cell p.element ++ repeats) s c.args.at c.in_ok-element.ensures None
    (first_off (cell p.element) repeats s c.in_ok-element.element c.in_err-repeat.ensures))

pub past_column-requires-3 : goal.past_column-requires-3
past_column-requires-3 c =
    ends_within (cell c.args.p.element) c.args.s.now c.in_ok-element.element c.in_ok-repeat.ensures
    (ends_within (cell c.args.p.segment) c.args.s.now c.args.at c.in_ok-element.ensures c.requires)

pub returns-in_err-component : goal.returns-in_err-component
unfolding numbers_at
returns-in_err-component c =
    let p = c.args.p in
    let s = c.args.s.now in
    let repeats = cell p.repeat ++ cell p.component in
    subst (Ends (numbers_at p) s c.args.at) (sym c.from_residual-in_err-component.ensures)
    (ends_then (cell p.segment) (cell p.element ++ repeats) s c.args.at c.in_ok-element.ensures None
    (ends_then (cell p.element) repeats s c.in_ok-element.element c.in_ok-repeat.ensures None
    (first_off (cell p.repeat) (cell p.component) s c.in_ok-repeat.repeat c.in_err-component.ensures)))

pub past_column-requires-4 : goal.past_column-requires-4
past_column-requires-4 c =
    ends_within (cell c.args.p.repeat) c.args.s.now c.in_ok-repeat.repeat c.in_ok-component.ensures
    (ends_within (cell c.args.p.element) c.args.s.now c.in_ok-element.element c.in_ok-repeat.ensures
    (ends_within (cell c.args.p.segment) c.args.s.now c.args.at c.in_ok-element.ensures c.requires))

pub returns : goal.returns
unfolding numbers_at
returns c =
    let p = c.args.p in
    let s = c.args.s.now in
    let repeats = cell p.repeat ++ cell p.component in
    let o = c.past_column-4.result in
    ends_then (cell p.segment) (cell p.element ++ repeats) s c.args.at c.in_ok-element.ensures o
    (ends_then (cell p.element) repeats s c.in_ok-element.element c.in_ok-repeat.ensures o
    (ends_then (cell p.repeat) (cell p.component) s c.in_ok-repeat.repeat c.in_ok-component.ensures o c.past_column-4.ensures))
