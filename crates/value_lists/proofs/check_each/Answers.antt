-- `value_lists::check_each` meets its contract. The loop's invariant: the first record that fails is the first of those that are left,
-- which are records of the table. Assumes nothing.
use Rattle.std.proofs.Common.{rules, ℕ, sym, ap, ◌∙◌, arith, of_calls}
use Rattle.refusals.specs.Refusals.{outcome}
use Rattle.operations.specs.ValueList.{entries}
use Rattle.stage_walks.specs.Walks.{refuse}
use Rattle.value_lists.specs.Records.{first_record}
use Rattle.value_lists.proofs.Records.{records_cut, records_end, entry_first, entry_later, first_fails, first_passes, first_none}
use Rattle.value_lists.proofs.check_each.Goals as goal

pub fails-requires : goal.fails-requires
fails-requires g c =
    let e = c.in-Some.ensures.steps in
    let inv = c.loop-n.invariant in
    let next = records_cut c.in-Some.numbers.now c.next.new.self.iter.rest.now e.0.1.0 (e.0.1.1 ∙ inv.2) c.record_at.ensures in
    search (of_calls, c.requires c.record_at.result (inv.3 _ (entry_first next)))

pub returns-then-fails : goal.returns-then-fails
unfolding outcome
returns-then-fails g c test told =
    let e = c.in-Some.ensures.steps in
    let inv = c.loop-n.invariant in
    let next = records_cut c.in-Some.numbers.now c.next.new.self.iter.rest.now e.0.1.0 (e.0.1.1 ∙ inv.2) c.record_at.ensures in
    c.failed.ensures
    ∙ ap (λ (n : ℕ). outcome (refuse c.args.fault n)) e.1
    ∙ ap outcome (sym (inv.4 test told
    ∙ first_fails c.args.fault test c.loop-n.n-iterator.count next (sym (told _ _ c.fails.ensures) ∙ c.if-fails.true)))

pub loop-n-preserved : goal.loop-n-preserved
loop-n-preserved g c =
    let e = c.in-Some.ensures.steps in
    let inv = c.loop-n.invariant in
    let next = records_cut c.in-Some.numbers.now c.next.new.self.iter.rest.now e.0.1.0 (e.0.1.1 ∙ inv.2) c.record_at.ensures in (
      search rules,
      search rules,
      e.0.0 ∙ inv.2,
      λ x h. inv.3 x (entry_later next x h),
      λ test told. inv.4 test told ∙ first_passes c.args.fault test c.loop-n.n-iterator.count next (sym (told _ _ c.fails.ensures) ∙ c.if-fails.false)
          ∙ ap (λ (n : ℕ). first_record c.args.fault test n (entries c.next.new.self.iter.rest.now)) (sym e.2),
    )

pub returns : goal.returns
unfolding outcome
returns g c test told =
    let e = c.in-None.ensures.steps in
    let inv = c.loop-n.invariant in
    sym (ap outcome (inv.4 test told ∙ first_none c.args.fault test c.loop-n.n-iterator.count (records_end c.loop-n.n-iterator.iter.rest.now 0 (omega (arith, e.0.1.0, inv.2)))))
