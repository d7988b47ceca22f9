-- `judge::most_length` meets its contract: the version gives the fifth byte of the normal form, with which the body's bytes bound it, and
-- twice as many do. Assumes nothing.
use native.Mathlib.Omega.{arith}
use Rattle.length_bound.proofs.Bound.{most_low}
use Rattle.judge.proofs.Stages.{begins_in, form_most}
use Rattle.judge.proofs.most_length.Goals as goal

pub overflow_sub-twice : goal.overflow_sub-twice
overflow_sub-twice c = (begins_in c.args.s.now c.requires.0 c.requires.1).1

pub overflow_mul-twice : goal.overflow_mul-twice
overflow_mul-twice c = omega (arith, (begins_in c.args.s.now c.requires.0 c.requires.1).0)

pub overflow_add-twice : goal.overflow_add-twice
overflow_add-twice c = omega (arith, (begins_in c.args.s.now c.requires.0 c.requires.1).0)

pub returns-then-twice-is_normal : goal.returns-then-twice-is_normal
returns-then-twice-is_normal c =
    let s = c.args.s.now in
    let repetition = c.normal_repetition-repetition in
    omega (
      arith,
      form_most s c.requires.0 c.requires.1 repetition.ensures,
      most_low c.args.found.characters repetition.result s c.args.found.start,
    )

pub at_most-requires : goal.at_most-requires
at_most-requires c = begins_in c.args.s.now c.requires.0 c.requires.1

pub overflow_add-result : goal.overflow_add-result
overflow_add-result c =
    let s = c.args.s.now in
    omega (
      arith,
      (begins_in s c.requires.0 c.requires.1).0,
      c.at_most.ensures,
      most_low c.args.found.characters c.normal_repetition-repetition.result s c.args.found.start,
    )

pub returns : goal.returns
returns c =
    omega (arith, c.at_most.ensures, form_most c.args.s.now c.requires.0 c.requires.1 c.normal_repetition-repetition.ensures)
