-- `import_columns::line_at` meets its contract: the first line begins a segment. Assumes nothing.
use mathlib.Core.Path.{sym, subst}
use Prim.Native.Nat.{ℕ}
use Rattle.column_laws.specs.declared.Position.{Position}
use Rattle.column_walk.specs.Walk.{first_place, Sought, Found}
use Rattle.column_walk.proofs.Walk.{found_first}
use Rattle.import_columns.proofs.line_at.Goals as goal

pub returns-then-at-eq-HEADING : goal.returns-then-at-eq-HEADING
returns-then-at-eq-HEADING c =
    let x = c.args in
    let l = c.line_of.result in
    let first = subst (λ (n : ℕ). Sought x.s.now n c.origin.result 0 l) c.if-at-eq-HEADING.true c.line_of.ensures in
    subst (λ (n : ℕ). Found x.s.now n x.p l) (sym c.if-at-eq-HEADING.true)
    (found_first x.s.now x.p (subst (λ (q : Position). Sought x.s.now first_place q 0 l) c.origin.ensures first))
