-- `locate::locate` meets its contract: Judge's refusal answers, or what is found in the segment of that number. Assumes nothing.
use Rattle.std.specs.Prelude.{Err}
use mathlib.Core.Path.{sym, ap, subst, ◌∙◌, ◌≡◌}
use borrow.Author.Rules.{rules}
use Rattle.answers.specs.Answers.{told_located}
use Rattle.judge.proofs.Told.{told_accepted, told_refused}
use Rattle.locate.specs.Locating.{Inside}
use Rattle.locate.proofs.Locating.{locate_refused, start_whole, locate_found, answer_inside}
use Rattle.locate.proofs.locate.Goals as goal

pub value_at-requires : goal.value_at-requires
value_at-requires c =
    let x = c.args in
    let t = told_accepted x.s.now c.judge.ensures c.in_ok-figures.was in
    start_whole x.s.now x.segment x.element x.repeat x.component t.0 t.1 c.body_start.ensures c.segment_at-start.result c.segment_at-start.ensures

pub returns-in_err-figures : goal.returns-in_err-figures
returns-in_err-figures c =
    let x = c.args in
    let e : c.from_residual.result ≡ Err c.in_err-figures.field-0.0 = search rules in
    record {
      locates = ap told_located e ∙ locate_refused x.s.now x.segment x.element x.repeat x.component (told_refused x.s.now c.judge.ensures c.in_err-figures.was);
      inside = subst (Inside x.s.now) (sym e) tt;
    }

pub returns : goal.returns
returns c =
    let x = c.args in
    let t = told_accepted x.s.now c.judge.ensures c.in_ok-figures.was in
    let v = c.value_at in
    record {
      locates = locate_found x.s.now x.segment x.element x.repeat x.component t.0 t.1 c.body_start.ensures c.segment_at-start.result c.segment_at-start.ensures v.ensures.0;
      inside = answer_inside x.s.now v.result v.ensures.1;
    }
