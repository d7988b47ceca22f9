-- The cycle of calls {level, repeats} meets its contracts. Assumes nothing.
use Rattle.std.proofs.Common.{Err, rules, ℕ, ◌+◌, ◌-◌, ◌*◌, ◌<◌, ◌≡◌, refl, sym, ap, subst, ◌∙◌, arith}
use borrow.Author.Tests.{not-true, not-false}
use Rattle.segments.specs.Tags.{tag_of}
use Rattle.message_tables.specs.Structure.{levels}
use Rattle.message_structures.specs.Walking.{repeated, walk}
use Rattle.table_rows.specs.Rows.{tag_bytes}
use Rattle.table_walk.specs.Walking.{segments_at, within}
use Rattle.table_walk.proofs.Entries.{lies, opened}
use Rattle.table_walk.proofs.Steps.{repeats_end}
use Rattle.table_walk.proofs.Going.{Answers, level_zero, level_ends, answers_through, answers_stopped, part_stopped, part_through, repeat_other, repeat_one, level_missed, level_met}
use Rattle.table_walk.proofs.+level_repeats.Goals as goal

-- ---- level

pub level-returns-then-depth-eq0 : goal.level-returns-then-depth-eq0
level-returns-then-depth-eq0 t c =
    let x = c.args in
    let w = x.w.now in
    let a = answers_through w.c w.s.now x.next.at
    (walk tag_of (levels x.depth (within w.table.now x.from x.end)) (segments_at w.c w.s.now x.next.at))
    (walk tag_of (levels x.depth (within w.table.now x.from x.end))) x.next
    (refl, c.requires.2, omega arith)
    (level_zero w.table.now x.from x.end x.depth c.if-depth-eq0.true (segments_at w.c w.s.now x.next.at)) in
    record { is = a.0; marked = a.1.0; later = a.1.1 }

pub level-loop-number-init : goal.level-loop-number-init
level-loop-number-init t c = (c.requires.1, (refl, c.requires.2, omega arith), omega arith)

pub level-part_at-part-requires : goal.level-part_at-part-requires
level-part_at-part-requires t c =
    let x = c.args in
    let w = x.w.now in
    let state = c.loop-number in
    lies w.table.now state.number x.end x.depth c.loop-number-test.true c.requires.0 c.if-depth-eq0.false state.invariant.0

pub level-returns-then-is_missed : goal.level-returns-then-is_missed
level-returns-then-is_missed t c =
    let x = c.args in
    let w = x.w.now in
    let state = c.loop-number in
    let o = opened w.table.now state.number x.end x.depth
    c.loop-number-test.true c.requires.0 c.if-depth-eq0.false state.invariant.0 c.part_at-part.result c.part_at-part.ensures in
    let a = answers_stopped w.c w.s.now x.next.at
    (walk tag_of (levels x.depth (within w.table.now x.from x.end)) (segments_at w.c w.s.now x.next.at))
    (walk tag_of (levels x.depth (within w.table.now state.number x.end))) state.here state.invariant.1
    (level_missed w.c w.s.now w.table.now state.number x.end x.depth c.part_at-part.result o state.here state.invariant.1.1
    (sym c.is_missed.ensures ∙ c.if-is_missed.true)) in
    record { is = a.0; marked = a.1.0; later = a.1.1 }

pub level-repeats-requires : goal.level-repeats-requires
level-repeats-requires t c =
    let x = c.args in
    let w = x.w.now in
    let state = c.loop-number in
    let p = c.part_at-part.result in
    let o = opened w.table.now state.number x.end x.depth
    c.loop-number-test.true c.requires.0 c.if-depth-eq0.false state.invariant.0 p c.part_at-part.ensures in
    let less : 2 * (x.depth - 1 + (p.end - p.from)) + 1 < 2 * (x.depth + (x.end - x.from)) =
    omega (arith, o.less, c.if-depth-eq0.false, state.invariant.2, c.loop-number-test.true) in (
      subst (λ (m : ℕ). 2 * (x.depth - 1 + (p.end - p.from)) + 1 < m) c.decreases less,
      (omega (arith, o.ends, c.requires.0), o.held, o.tagged, state.invariant.1.1),
    )

pub level-returns-in_err-here : goal.level-returns-in_err-here
level-returns-in_err-here t c =
    let x = c.args in
    let w = x.w.now in
    let state = c.loop-number in
    let p = c.part_at-part.result in
    let o = opened w.table.now state.number x.end x.depth
    c.loop-number-test.true c.requires.0 c.if-depth-eq0.false state.invariant.0 p c.part_at-part.ensures in
    let e = c.repeats.ensures in
    let a = part_stopped w.c w.s.now x.next.at
    (walk tag_of (levels x.depth (within w.table.now x.from x.end)) (segments_at w.c w.s.now x.next.at))
    (walk tag_of (levels x.depth (within w.table.now state.number x.end))) state.here state.invariant.1
    _ (walk tag_of (levels x.depth (within w.table.now p.end x.end)))
    (level_met w.c w.s.now w.table.now state.number x.end x.depth p o state.here state.invariant.1.1
    (sym c.is_missed.ensures ∙ c.if-is_missed.false))
    state.here.at (omega arith) c.repeats.result (e.is, (e.marked, e.later)) _ c.in_err-here.was in
    let same : c.from_residual.result ≡ Err c.in_err-here.field-0.0 = search rules in
    let b = subst (Answers w.c w.s.now x.next.at (walk tag_of (levels x.depth (within w.table.now x.from x.end)) (segments_at w.c w.s.now x.next.at))) (sym same) a in
    record { is = b.0; marked = b.1.0; later = b.1.1 }

pub level-loop-number-smaller : goal.level-loop-number-smaller
level-loop-number-smaller t c =
    let x = c.args in
    let w = x.w.now in
    let state = c.loop-number in
    let o = opened w.table.now state.number x.end x.depth
    c.loop-number-test.true c.requires.0 c.if-depth-eq0.false state.invariant.0 c.part_at-part.result c.part_at-part.ensures in
    omega (arith, o.later, c.loop-number-test.true)

pub level-loop-number-preserved : goal.level-loop-number-preserved
level-loop-number-preserved t c =
    let x = c.args in
    let w = x.w.now in
    let state = c.loop-number in
    let p = c.part_at-part.result in
    let o = opened w.table.now state.number x.end x.depth
    c.loop-number-test.true c.requires.0 c.if-depth-eq0.false state.invariant.0 p c.part_at-part.ensures in
    let e = c.repeats.ensures in (
      o.follow,
      part_through w.c w.s.now x.next.at
          (walk tag_of (levels x.depth (within w.table.now x.from x.end)) (segments_at w.c w.s.now x.next.at))
          (walk tag_of (levels x.depth (within w.table.now state.number x.end))) state.here state.invariant.1
          _ (walk tag_of (levels x.depth (within w.table.now p.end x.end)))
          (level_met w.c w.s.now w.table.now state.number x.end x.depth p o state.here state.invariant.1.1
          (sym c.is_missed.ensures ∙ c.if-is_missed.false))
          state.here.at (omega arith) c.repeats.result (e.is, (e.marked, e.later)) _ c.in_ok-here.was,
      omega (arith, o.later, state.invariant.2),
    )

pub level-returns : goal.level-returns
level-returns t c =
    let x = c.args in
    let w = x.w.now in
    let state = c.loop-number in
    let a = answers_through w.c w.s.now x.next.at
    (walk tag_of (levels x.depth (within w.table.now x.from x.end)) (segments_at w.c w.s.now x.next.at))
    (walk tag_of (levels x.depth (within w.table.now state.number x.end))) state.here state.invariant.1
    (level_ends w.table.now state.number x.end x.depth c.loop-number-test.false (segments_at w.c w.s.now state.here.at)) in
    record { is = a.0; marked = a.1.0; later = a.1.1 }

-- ---- repeats

pub repeats-loop-init : goal.repeats-loop-init
repeats-loop-init t c =
    let x = c.args in
    let w = x.w.now in
    let inside = walk tag_of (levels x.depth (within w.table.now x.part.from x.part.end)) in
    let all : x.part.most ≡ x.part.most - 0 = omega arith in
    (ap (λ (n : ℕ). repeated tag_of inside (tag_bytes x.part.lead) n (segments_at w.c w.s.now x.next.at)) all, c.requires.3, omega arith)

pub repeats-returns-then-not-same_tag : goal.repeats-returns-then-not-same_tag
repeats-returns-then-not-same_tag t c =
    let x = c.args in
    let w = x.w.now in
    let state = c.loop in
    let inside = walk tag_of (levels x.depth (within w.table.now x.part.from x.part.end)) in
    let lead = tag_bytes x.part.lead in
    let a = answers_through w.c w.s.now x.next.at (repeated tag_of inside lead x.part.most (segments_at w.c w.s.now x.next.at))
    (repeated tag_of inside lead (x.part.most - state.counter)) state.here state.invariant
    (repeat_other w.c w.s.now inside x.part c.requires.2 (x.part.most - state.counter) state.here state.invariant.1
    (sym c.same_tag.ensures ∙ not-true _ c.if-not-same_tag.true-raw)) in
    record { is = a.0; marked = a.1.0; later = a.1.1 }

pub repeats-level-requires : goal.repeats-level-requires
repeats-level-requires t c =
    let x = c.args in
    let less : 2 * (x.depth + (x.part.end - x.part.from)) < 2 * (x.depth + (x.part.end - x.part.from)) + 1 = omega arith in
    (subst (λ (m : ℕ). 2 * (x.depth + (x.part.end - x.part.from)) < m) c.decreases less, (c.requires.0, c.requires.1, c.stepped.ensures.marked))

pub repeats-returns-in_err-here : goal.repeats-returns-in_err-here
repeats-returns-in_err-here t c =
    let x = c.args in
    let w = x.w.now in
    let state = c.loop in
    let inside = walk tag_of (levels x.depth (within w.table.now x.part.from x.part.end)) in
    let lead = tag_bytes x.part.lead in
    let e = c.level.ensures in
    let a = part_stopped w.c w.s.now x.next.at (repeated tag_of inside lead x.part.most (segments_at w.c w.s.now x.next.at))
    (repeated tag_of inside lead (x.part.most - state.counter)) state.here state.invariant
    _ (repeated tag_of inside lead (x.part.most - state.counter - 1))
    (repeat_one w.c w.s.now inside x.part c.requires.2 (x.part.most - state.counter)
    state.here state.invariant.1 (omega (arith, c.loop-test.true))
    (sym c.same_tag.ensures ∙ not-false _ c.if-not-same_tag.false-raw) c.stepped.result.at c.stepped.ensures.left)
    c.stepped.result.at c.stepped.ensures.later c.level.result (e.is, (e.marked, e.later)) _ c.in_err-here.was in
    let same : c.from_residual.result ≡ Err c.in_err-here.field-0.0 = search rules in
    let b = subst (Answers w.c w.s.now x.next.at (repeated tag_of inside lead x.part.most (segments_at w.c w.s.now x.next.at))) (sym same) a in
    record { is = b.0; marked = b.1.0; later = b.1.1 }

pub repeats-loop-preserved : goal.repeats-loop-preserved
repeats-loop-preserved t c =
    let x = c.args in
    let w = x.w.now in
    let state = c.loop in
    let inside = walk tag_of (levels x.depth (within w.table.now x.part.from x.part.end)) in
    let lead = tag_bytes x.part.lead in
    let e = c.level.ensures in
    let on : x.part.most - (state.counter + 1) ≡ x.part.most - state.counter - 1 = omega arith in
    rw on
    (part_through w.c w.s.now x.next.at (repeated tag_of inside lead x.part.most (segments_at w.c w.s.now x.next.at))
    (repeated tag_of inside lead (x.part.most - state.counter)) state.here state.invariant
    _ (repeated tag_of inside lead (x.part.most - state.counter - 1))
    (repeat_one w.c w.s.now inside x.part c.requires.2 (x.part.most - state.counter)
    state.here state.invariant.1 (omega (arith, c.loop-test.true))
    (sym c.same_tag.ensures ∙ not-false _ c.if-not-same_tag.false-raw) c.stepped.result.at c.stepped.ensures.left)
    c.stepped.result.at c.stepped.ensures.later c.level.result (e.is, (e.marked, e.later)) _ c.in_ok-here.was)

pub repeats-returns : goal.repeats-returns
repeats-returns t c =
    let x = c.args in
    let w = x.w.now in
    let state = c.loop in
    let inside = walk tag_of (levels x.depth (within w.table.now x.part.from x.part.end)) in
    let lead = tag_bytes x.part.lead in
    let a = answers_through w.c w.s.now x.next.at (repeated tag_of inside lead x.part.most (segments_at w.c w.s.now x.next.at))
    (repeated tag_of inside lead (x.part.most - state.counter)) state.here state.invariant
    (repeats_end tag_of inside lead (x.part.most - state.counter)
    (segments_at w.c w.s.now state.here.at) (omega (arith, c.loop-test.false))) in
    record { is = a.0; marked = a.1.0; later = a.1.1 }
