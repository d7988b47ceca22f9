-- `acknowledgement_parts::part_at` meets its contract: each number has its part. Assumes nothing.
use Prim.Native.Nat.{◌≤◌}
use mathlib.Core.Path.{◌∙◌}
use native.Mathlib.Omega.{arith}
use Rattle.acknowledgement_parts.specs.Parts.{parts_of}
use Rattle.acknowledgement_parts.proofs.Cases.{chosen, last}
use Rattle.acknowledgement_parts.proofs.part_at.Goals as goal

pub returns-in-0 : goal.returns-in-0
unfolding parts_of
returns-in-0 c = c.tag.ensures ∙ chosen c.args.r 0 c.in-0.is

pub returns-in-1 : goal.returns-in-1
unfolding parts_of
returns-in-1 c = chosen c.args.r 1 c.in-1.is

pub returns-in-2 : goal.returns-in-2
unfolding parts_of
returns-in-2 c = chosen c.args.r 2 c.in-2.is

pub returns-in-3 : goal.returns-in-3
unfolding parts_of
returns-in-3 c = chosen c.args.r 3 c.in-3.is

pub returns-in-4 : goal.returns-in-4
unfolding parts_of
returns-in-4 c = chosen c.args.r 4 c.in-4.is

pub returns-in-5 : goal.returns-in-5
unfolding parts_of
returns-in-5 c = chosen c.args.r 5 c.in-5.is

pub returns-in-6 : goal.returns-in-6
unfolding parts_of
returns-in-6 c = c.tag-in-6.ensures ∙ chosen c.args.r 6 c.in-6.is

pub returns-in-7 : goal.returns-in-7
unfolding parts_of
returns-in-7 c = c.figure.ensures ∙ chosen c.args.r 7 c.in-7.is

pub returns-in-8 : goal.returns-in-8
unfolding parts_of
returns-in-8 c = chosen c.args.r 8 c.in-8.is

pub returns-in-9 : goal.returns-in-9
unfolding parts_of
returns-in-9 c = c.tag-in-9.ensures ∙ chosen c.args.r 9 c.in-9.is

pub returns-in-10 : goal.returns-in-10
unfolding parts_of
returns-in-10 c = chosen c.args.r 10 c.in-10.is

pub returns-in-11 : goal.returns-in-11
unfolding parts_of
returns-in-11 c = chosen c.args.r 11 c.in-11.is

pub returns-in-12 : goal.returns-in-12
unfolding parts_of
returns-in-12 c = chosen c.args.r 12 c.in-12.is

pub returns-in-13 : goal.returns-in-13
unfolding parts_of
returns-in-13 c = c.figure-in-13.ensures ∙ chosen c.args.r 13 c.in-13.is

pub returns-in-14 : goal.returns-in-14
unfolding parts_of
returns-in-14 c = c.tag-in-14.ensures ∙ chosen c.args.r 14 c.in-14.is

pub returns-in-15 : goal.returns-in-15
unfolding parts_of
returns-in-15 c = c.figure-in-15.ensures ∙ chosen c.args.r 15 c.in-15.is

pub returns-in-16 : goal.returns-in-16
unfolding parts_of
returns-in-16 c = c.figure-in-16.ensures ∙ chosen c.args.r 16 c.in-16.is

pub returns-in-17 : goal.returns-in-17
unfolding parts_of
returns-in-17 c = c.tag-in-17.ensures ∙ chosen c.args.r 17 c.in-17.is

pub returns-in-18 : goal.returns-in-18
unfolding parts_of
returns-in-18 c = c.figure-in-18.ensures ∙ chosen c.args.r 18 c.in-18.is

pub returns-in_default : goal.returns-in_default
unfolding parts_of
returns-in_default c =
    let n = c.args.number in
    let from-19 : 19 ≤ n = omega arith in
    chosen c.args.r {n = n} 19 (last n from-19 c.requires)
