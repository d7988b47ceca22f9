-- `judge::judge_length` meets its contract: the version gives the fifth byte of the normal form, and what is measured with it is the normal
-- form's length. Assumes nothing.
use native.Mathlib.Omega.{arith}
use mathlib.Core.Path.{◌∙◌}
use Rattle.judge.proofs.Stages.{measurable, measured_bound, measured_form, length_refused, length_accepted}
use Rattle.judge.proofs.judge_length.Goals as goal

pub measured-length-requires : goal.measured-length-requires
measured-length-requires c =
    measurable c.args.s.now c.requires.0 c.requires.1 c.normal_repetition-repetition.ensures

pub overflow_add-length : goal.overflow_add-length
overflow_add-length c =
    let bound = measured_bound c.args.s.now c.requires.0 c.requires.1 c.normal_repetition-repetition.ensures in
    record { fits = omega (arith, c.measured-length.ensures, bound) }

pub returns-then-length-gt-MOST_BYTES : goal.returns-then-length-gt-MOST_BYTES
returns-then-length-gt-MOST_BYTES c =
    let s = c.args.s.now in
    let form = measured_form s c.requires.0 c.requires.1 c.normal_repetition-repetition.ensures c.measured-length.ensures in
    c.failed.ensures ∙ length_refused s _ form c.if-length-gt-MOST_BYTES.true

pub returns : goal.returns
returns c =
    let s = c.args.s.now in
    let form = measured_form s c.requires.0 c.requires.1 c.normal_repetition-repetition.ensures c.measured-length.ensures in
    length_accepted s _ form c.requires.1 c.if-length-gt-MOST_BYTES.false
