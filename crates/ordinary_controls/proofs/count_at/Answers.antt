-- `ordinary_controls::count_at` meets its contract. The loop's invariant: the bytes before `at` are up to six digits, and spell the number.
-- Assumes nothing.
use Prim.Native.Nat.{ℕ, ◌+◌, ◌*◌, ◌≤◌}
use mathlib.Core.Path.{◌≡◌, sym, subst, ◌∙◌}
use native.Mathlib.Omega.{arith}
use lib.ListN.{length, get_or}
use Rattle.characters.specs.Characters.{between, digit}
use Rattle.ordinary_controls.specs.Standing.{Counts}
use Rattle.ordinary_controls.proofs.Parts.{Reads, reads_none, reads_few, reads_next}
use Rattle.ordinary_controls.proofs.count_at.Goals as goal

pub loop-at-init : goal.loop-at-init
loop-at-init c = reads_none c.args.s.now c.args.from

pub overflow_mul-number : goal.overflow_mul-number
overflow_mul-number c =
    let loop = c.loop-at in
    let x = c.args in
    omega (arith, reads_few x.s.now x.from loop.at loop.number loop.invariant (omega arith))

pub overflow_add-number : goal.overflow_add-number
overflow_add-number c =
    let loop = c.loop-at in
    let x = c.args in
    omega (arith, c.type_inv.s loop.at, reads_few x.s.now x.from loop.at loop.number loop.invariant (omega arith))

pub loop-at-preserved : goal.loop-at-preserved
unfolding digit between
loop-at-preserved c =
    let loop = c.loop-at in
    let x = c.args in
    let byte : get_or x.s.now loop.at 0 ≤ 255 = omega (arith, c.type_inv.s loop.at) in
    subst (λ (d : ℕ). Reads x.s.now x.from (loop.at + 1) (loop.number * 10 + d)) (sym c.from.ensures)
    (reads_next x.s.now x.from loop.at loop.number loop.invariant (omega arith) (omega arith)
    (sym c.is_ascii_digit.ensures.value ∙ c.if-not-is_ascii_digit.false) byte)

pub returns : goal.returns
returns c =
    let loop = c.loop-at in
    let x = c.args in
    let e : loop.at ≡ length x.s.now = omega arith in
    subst (λ (end : ℕ). Counts x.s.now x.from (record { end = end; number = loop.number })) e loop.invariant.counts
