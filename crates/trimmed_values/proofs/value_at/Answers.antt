-- `trimmed_values::value_at` meets its contract: the element, the repeat or the component is gone, or the value is found. Assumes nothing.
use Rattle.trimmed_values.proofs.Places.{element_gone, repeat_gone, component_gone, value_found}
use Rattle.trimmed_values.proofs.value_at.Goals as goal

pub returns-then-not-stays : goal.returns-then-not-stays
returns-then-not-stays c =
    let x = c.args in
    (element_gone x.c x.s.now x.start x.element x.repeat x.component c.element_at-from.ensures c.stays.ensures c.if-not-stays.true-raw, tt)

pub returns-then-not-stays-2 : goal.returns-then-not-stays-2
returns-then-not-stays-2 c =
    let x = c.args in (
      repeat_gone x.c x.s.now x.start x.element x.repeat x.component
          c.element_at-from.ensures
          c.repeat_at-begins.result c.repeat_at-begins.ensures
          c.stays.ensures c.if-not-stays.false-raw
          c.stays-2.ensures c.if-not-stays-2.true-raw,
      tt,
    )

pub returns-then-not-stays-3 : goal.returns-then-not-stays-3
returns-then-not-stays-3 c =
    let x = c.args in (
      component_gone x.c x.s.now x.start x.element x.repeat x.component
          c.element_at-from.ensures
          c.repeat_at-begins.result c.repeat_at-begins.ensures
          c.stays.ensures c.if-not-stays.false-raw
          c.stays-2.ensures
          c.component_at-at.result c.component_at-at.ensures
          c.if-not-stays-2.false-raw
          c.stays-3.ensures c.if-not-stays-3.true-raw,
      tt,
    )

pub returns : goal.returns
returns c =
    let x = c.args in
    value_found x.c x.s.now x.start x.element x.repeat x.component
    c.element_at-from.ensures
    c.repeat_at-begins.result c.repeat_at-begins.ensures
    c.stays.ensures c.if-not-stays.false-raw
    c.stays-2.ensures
    c.component_at-at.result c.component_at-at.ensures
    c.if-not-stays-2.false-raw
    c.stays-3.ensures
    c.value_end-end.result
    c.requires
    c.if-not-stays-3.false-raw
    c.value_end-end.ensures
