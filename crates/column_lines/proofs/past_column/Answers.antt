-- `column_lines::past_column` meets its contract: the text is too short, or there is no tab where it would stand, or the digits decide.
-- Assumes nothing.
use mathlib.Core.Path.{sym, ◌∙◌}
use native.Mathlib.Omega.{arith}
use lib.ListN.{drop, length-drop}
use Rattle.column_lines.specs.Numbers.{cell}
use Rattle.column_lines.proofs.Numbers.{cell_length, begins_short, no_tab, with_tab}
use Rattle.column_lines.proofs.past_column.Goals as goal
use Rattle.column_lines.proofs.past_column.Goals.{else-s-end-eq-TAB-via-then-s-end-eq-TAB+else-stands, else-s-end-eq-TAB-via-else-s-end-eq-TAB}

pub returns-then-s-at : goal.returns-then-s-at
returns-then-s-at c =
    let args = c.args in
    let s = args.s.now in
    begins_short (cell args.n) (drop args.at s)
    (omega (arith, length-drop args.at s, cell_length args.n, c.if-s-at.true, c.digit_count-count.ensures.0))

pub returns-then-stands : goal.returns-then-stands
returns-then-stands c =
    let args = c.args in
    let count = c.digit_count-count.ensures.0 in (
      with_tab args.n args.s.now args.at (omega (arith, count)) (omega (arith, c.if-s-at.false)) c.if-s-end-eq-TAB.true
          (sym c.stands.ensures ∙ c.if-stands.true),
      omega (arith, cell_length args.n, count),
    )

pub returns-else-s-end-eq-TAB : goal.returns-else-s-end-eq-TAB
returns-else-s-end-eq-TAB c =
    let args = c.args in
    let s = args.s.now in
    elim c.else-s-end-eq-TAB.branch [
      | else-s-end-eq-TAB-via-then-s-end-eq-TAB+else-stands w ↦
          with_tab args.n s args.at (omega (arith, c.digit_count-count.ensures.0)) (omega (arith, c.if-s-at.false)) w.if-s-end-eq-TAB.true
          (sym w.stands.ensures ∙ w.if-stands.false)
      | else-s-end-eq-TAB-via-else-s-end-eq-TAB w ↦
          no_tab args.n s args.at (omega (arith, c.digit_count-count.ensures.0)) (omega (arith, c.if-s-at.false)) w.if-s-end-eq-TAB.false
    ]
