-- `import_columns::next_line` meets its contract: each kind is looked for. Assumes nothing.
use mathlib.Core.Path.{subst}
use native.Mathlib.Omega.{arith}
use Rattle.column_laws.specs.declared.Position.{Position}
use Rattle.column_walk.specs.Walk.{Sought}
use Rattle.column_walk.proofs.Walk.{found_by_lem, found_last}
use Rattle.import_columns.proofs.next_line.Goals as goal

pub returns-in-Some : goal.returns-in-Some
returns-in-Some c =
    let x = c.args in
    found_by_lem x.s.now x.at x.p c.requires.0 2 (omega arith) (subst (λ (q : Position). Sought x.s.now x.at q 2 c.line_of.result) c.next_position.ensures c.line_of.ensures) c.in-Some.is

pub returns-in-Some-line_of : goal.returns-in-Some-line_of
returns-in-Some-line_of c =
    let x = c.args in
    found_by_lem x.s.now x.at x.p c.requires.0 3 (omega arith) (subst (λ (q : Position). Sought x.s.now x.at q 3 c.line_of-2.result) c.next_position-2.ensures c.line_of-2.ensures) c.in-Some-line_of.is

pub returns-in-Some-line_of-2 : goal.returns-in-Some-line_of-2
returns-in-Some-line_of-2 c =
    let x = c.args in
    found_by_lem x.s.now x.at x.p c.requires.0 1 (omega arith) (subst (λ (q : Position). Sought x.s.now x.at q 1 c.line_of-3.result) c.next_position-3.ensures c.line_of-3.ensures) c.in-Some-line_of-2.is

pub next_position-requires-4 : goal.next_position-requires-4
next_position-requires-4 c =
    let x = c.args in
    let known = c.requires in
    (omega (arith, known.1, known.2.segment), omega (arith, known.1, known.2.element), omega (arith, known.1, known.2.repeat), omega (arith, known.1, known.2.component))

pub returns : goal.returns
returns c =
    let x = c.args in
    found_last x.s.now x.at x.p c.requires.0
    (subst (λ (q : Position). Sought x.s.now x.at q 2 c.line_of.result) c.next_position.ensures c.line_of.ensures) c.in_default.is
    (subst (λ (q : Position). Sought x.s.now x.at q 3 c.line_of-2.result) c.next_position-2.ensures c.line_of-2.ensures) c.in_default-line_of.is
    (subst (λ (q : Position). Sought x.s.now x.at q 1 c.line_of-3.result) c.next_position-3.ensures c.line_of-3.ensures) c.in_default-line_of-2.is
    (subst (λ (q : Position). Sought x.s.now x.at q 0 c.line_of-4.result) c.next_position-4.ensures c.line_of-4.ensures)
