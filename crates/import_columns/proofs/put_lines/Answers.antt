-- `import_columns::put_lines` meets its contract. The loop's invariant: what is left of the values, put from here, gives what all of them, put at the start, give, and what is put is not over 32,000 bytes yet. What is left of the text falls. Assumes nothing.
use mathlib.Core.Path.{sym, subst}
use native.Mathlib.Omega.{arith}
use Rattle.column_walk.specs.Checking.{items_read}
use Rattle.value_list_text.specs.Composing.{Composes}
use Rattle.value_list_text.proofs.Lengths.{short_tells, short_tells_over}
use Rattle.import_columns.proofs.Passes.{line_in, line_inside, line_ahead, putting_start, putting_room, putting_long, putting_fits, putting_over, putting_next, putting_last, putting_done}
use Rattle.import_columns.proofs.put_lines.Goals as goal

pub loop-l-init : goal.loop-l-init
loop-l-init g c = putting_start g.met.S.Sink.laws c.args.c c.args.s.now c.requires.0 c.origin-p.ensures c.first_measure-m.ensures c.args.output.now

pub line_at-requires : goal.line_at-requires
line_at-requires g c = let come = c.loop-l.invariant.come in (come.rest.behind, come.inside, come.within)

pub overflow_sub-l : goal.overflow_sub-l
overflow_sub-l g c =
    let state = c.loop-l in
    omega (arith, (line_in c.args.s.now state.at state.p c.in-Some.l state.invariant.come (c.line_at.ensures.some c.in-Some.l c.in-Some.is)).0)

pub returns-in_err-short_length : goal.returns-in_err-short_length
returns-in_err-short_length g c =
    let x = c.args in
    let state = c.loop-l in
    subst (Composes _ x.c (items_read x.s.now) _ _) (sym c.from_residual.ensures)
    (putting_long g.met.S.Sink.laws x.c x.s.now c.requires.1 state.at state.p state.m state.invariant c.in-Some.l (c.line_at.ensures.some c.in-Some.l c.in-Some.is)
    (short_tells_over _ c.short_length.ensures c.in_err-short_length.was))

pub put_line-m-requires : goal.put_line-m-requires
put_line-m-requires g c =
    let x = c.args in
    let state = c.loop-l in (
      line_in x.s.now state.at state.p c.in-Some.l state.invariant.come (c.line_at.ensures.some c.in-Some.l c.in-Some.is),
      putting_room g.met.S.Sink.laws x.c x.s.now c.requires.1 state.at state.p state.m state.invariant,
      putting_fits g.met.S.Sink.laws x.c x.s.now c.requires.1 state.at state.p state.m state.invariant c.in-Some.l (c.line_at.ensures.some c.in-Some.l c.in-Some.is) c.requires.2
          (short_tells _ c.short_length.ensures c.in_ok-short_length.was).1,
    )

pub returns-in_err-short_length-2 : goal.returns-in_err-short_length-2
returns-in_err-short_length-2 g c =
    let x = c.args in
    let state = c.loop-l in
    subst (Composes _ x.c (items_read x.s.now) _ _) (sym c.from_residual-in_err-short_length-2.ensures)
    (putting_over g.met.S.Sink.laws x.c x.s.now c.requires.1 state.at state.p state.m state.invariant c.in-Some.l (c.line_at.ensures.some c.in-Some.l c.in-Some.is) c.put_line-m.result c.put_line-m.ensures
    (short_tells_over _ c.short_length-in-Some.ensures c.in_err-short_length-2.was))

pub overflow_add-at : goal.overflow_add-at
overflow_add-at g c =
    let state = c.loop-l in
    omega (arith, line_inside c.args.s.now state.at state.p c.in-Some.l state.invariant.come (c.line_at.ensures.some c.in-Some.l c.in-Some.is))

pub loop-l-smaller : goal.loop-l-smaller
loop-l-smaller g c =
    let state = c.loop-l in
    let leading = c.line_at.ensures.some c.in-Some.l c.in-Some.is in
    omega (arith, line_ahead c.args.s.now state.at state.p c.in-Some.l state.invariant.come leading, line_inside c.args.s.now state.at state.p c.in-Some.l state.invariant.come leading)

pub loop-l-preserved : goal.loop-l-preserved
loop-l-preserved g c =
    let x = c.args in
    let state = c.loop-l in
    putting_next g.met.S.Sink.laws x.c x.s.now c.requires.1 state.at state.p state.m state.invariant c.in-Some.l (c.line_at.ensures.some c.in-Some.l c.in-Some.is) c.put_line-m.result c.put_line-m.ensures
    (short_tells _ c.short_length-in-Some.ensures c.in_ok-short_length-2.was).1

pub put_separator-requires : goal.put_separator-requires
put_separator-requires g c =
    let x = c.args in
    let state = c.loop-l in (
      putting_last g.met.S.Sink.laws x.c x.s.now c.requires.1 state.at state.p state.m state.invariant c.line_at.ensures c.in_default.is c.requires.2,
      omega (arith, putting_room g.met.S.Sink.laws x.c x.s.now c.requires.1 state.at state.p state.m state.invariant),
    )

pub returns : goal.returns
returns g c =
    let x = c.args in
    let state = c.loop-l in
    subst (Composes _ x.c (items_read x.s.now) _ _) (sym c.short_length-2.ensures)
    (putting_done g.met.S.Sink.laws x.c x.s.now c.requires.1 state.at state.p state.m state.invariant c.line_at.ensures c.in_default.is c.put_separator.ensures)
