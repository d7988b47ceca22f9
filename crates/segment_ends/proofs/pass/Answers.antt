-- `segment_ends::pass` meets its contract: bytes that are neither the terminator nor a release character tell nothing. Assumes nothing.
use Prim.Native.Nat.{◌+◌}
use native.Mathlib.Omega.{arith}
use lib.Dec.{eqb}
use lib.ListN.{get_or}
use borrow.Author.Tests.{eqb-false}
use Rattle.lists.proofs.Texts.{or_none_left}
use Rattle.segment_ends.proofs.Passing.{goes_far, moves_from, release_role}
use Rattle.segment_ends.proofs.pass.Goals as goal

pub returns-then-count-eq64 : goal.returns-then-count-eq64
returns-then-count-eq64 c =
    let x = c.args in
    let (most, others) = c.before_either-count.ensures in
    (omega arith, c.requires.0, goes_far x.c x.s.now x.at c.requires.1 (omega arith) (λ k l m. others k l (omega arith)))

pub bounds-s-place : goal.bounds-s-place
bounds-s-place c = let (most, others) = c.before_either-count.ensures in omega (arith, c.requires.0)

pub returns-then-release-c : goal.returns-then-release-c
returns-then-release-c c =
    let x = c.args in
    let (most, others) = c.before_either-count.ensures in
    moves_from x.c x.s.now x.at (omega arith) (goes_far x.c x.s.now x.at c.requires.1 (omega arith) others) c.pass_token.result
    c.pass_token.ensures

pub pass_marked-requires : goal.pass_marked-requires
pass_marked-requires c =
    let x = c.args in
    let place = x.at + c.before_either-count.result in
    release_role x.c c.requires.1
    (eqb-false x.release x.c.terminator
    (or_none_left (eqb x.release x.c.terminator) (eqb (get_or x.s.now place 0) x.c.terminator) c.if-release-c.false))

pub returns : goal.returns
returns c =
    let x = c.args in
    let (most, others) = c.before_either-count.ensures in
    moves_from x.c x.s.now x.at (omega arith) (goes_far x.c x.s.now x.at c.requires.1 (omega arith) others) c.pass_marked.result
    c.pass_marked.ensures
