-- `write::try_write` meets its contract: one stage answers, or what follows it does. Assumes nothing.
use Rattle.std.proofs.Common.{rules}
use mathlib.Core.Path.{refl, sym, ◌∙◌}
use native.Mathlib.Omega.{arith}
use lib.Seq.{length-take-le}
use Rattle.storing.proofs.Stores.{stored_length}
use Rattle.refusals.proofs.Stages.{passed_is}
use Rattle.operations.specs.ValueList.{listed_in}
use Rattle.value_list_text.specs.Composing.{composed_text}
use Rattle.write.proofs.Writing.{list_passed, tried_refused, list_failed, list_met, service_failed, service_met, release_failed, release_met, text_failed, text_met, text_done}
use Rattle.write.proofs.try_write.Goals as goal

pub returns-in_err-check_list : goal.returns-in_err-check_list
returns-in_err-check_list c =
    let x = c.args in
    tried_refused (list_failed x.service.now x.bytes.now x.table.now x.output.now c.check_list.ensures c.in_err-check_list.was) (search rules) refl

pub returns-in_err-c : goal.returns-in_err-c
returns-in_err-c c =
    let x = c.args in
    let on = list_met x.service.now x.bytes.now x.table.now x.output.now c.check_list.ensures c.in_ok-check_list.was in
    tried_refused (on ∙ service_failed x.service.now x.bytes.now x.table.now x.output.now c.check_service.ensures c.in_err-c.was) (search rules) refl

pub check_release-requires : goal.check_release-requires
check_release-requires c =
    let x = c.args in
    (list_passed x.bytes.now x.table.now (passed_is _ (sym c.check_list.ensures ∙ c.in_ok-check_list.was))).good

pub returns-in_err-check_release : goal.returns-in_err-check_release
returns-in_err-check_release c =
    let x = c.args in
    let on = list_met x.service.now x.bytes.now x.table.now x.output.now c.check_list.ensures c.in_ok-check_list.was in
    let (further, six, fit) = service_met x.service.now x.bytes.now x.table.now x.output.now c.check_service.ensures c.in_ok-c.was in
    tried_refused (on ∙ further ∙ release_failed x.service.now x.bytes.now x.table.now x.output.now six c.check_release.ensures c.in_err-check_release.was) (search rules) refl

pub text_length-requires : goal.text_length-requires
text_length-requires c =
    let x = c.args in
    let passed = list_passed x.bytes.now x.table.now (passed_is _ (sym c.check_list.ensures ∙ c.in_ok-check_list.was)) in
    (passed.good, passed.short)

pub returns-in_err-n : goal.returns-in_err-n
returns-in_err-n c =
    let x = c.args in
    let passed = list_passed x.bytes.now x.table.now (passed_is _ (sym c.check_list.ensures ∙ c.in_ok-check_list.was)) in
    let on = list_met x.service.now x.bytes.now x.table.now x.output.now c.check_list.ensures c.in_ok-check_list.was in
    let (further, six, fit) = service_met x.service.now x.bytes.now x.table.now x.output.now c.check_service.ensures c.in_ok-c.was in
    let last = release_met x.service.now x.bytes.now x.table.now x.output.now six c.check_release.ensures c.in_ok-check_release.was in
    tried_refused (on ∙ further ∙ last ∙ text_failed x.service.now x.bytes.now x.table.now x.output.now six passed c.text_length.ensures c.check_size.ensures c.in_err-n.was)
    (search rules) refl

pub put_text-requires : goal.put_text-requires
put_text-requires c =
    let x = c.args in
    let passed = list_passed x.bytes.now x.table.now (passed_is _ (sym c.check_list.ensures ∙ c.in_ok-check_list.was)) in
    let (further, six, fit) = service_met x.service.now x.bytes.now x.table.now x.output.now c.check_service.ensures c.in_ok-c.was in
    let (on, same, short, room) = text_met x.service.now x.bytes.now x.table.now x.output.now six passed c.text_length.ensures c.check_size.ensures c.in_ok-n.was in
    record { listed = passed.good; numbers = passed.short; short = omega (arith, same, short); room = omega (arith, same, room) }

pub slice_bounds-judged_length-end : goal.slice_bounds-judged_length-end
slice_bounds-judged_length-end c =
    let x = c.args in
    let passed = list_passed x.bytes.now x.table.now (passed_is _ (sym c.check_list.ensures ∙ c.in_ok-check_list.was)) in
    let (further, six, fit) = service_met x.service.now x.bytes.now x.table.now x.output.now c.check_service.ensures c.in_ok-c.was in
    let (on, same, short, room) = text_met x.service.now x.bytes.now x.table.now x.output.now six passed c.text_length.ensures c.check_size.ensures c.in_ok-n.was in
    omega (arith, room, stored_length x.output.now 0 (composed_text c.in_ok-c.c (listed_in x.bytes.now x.table.now)) c.put_text.ensures)

pub slice_bounds-judged_length-end-2 : goal.slice_bounds-judged_length-end-2
slice_bounds-judged_length-end-2 c = sym (length-take-le c.in_ok-n.n c.put_text.new.buffer (slice_bounds-judged_length-end c))

pub returns : goal.returns
returns c =
    let x = c.args in
    let passed = list_passed x.bytes.now x.table.now (passed_is _ (sym c.check_list.ensures ∙ c.in_ok-check_list.was)) in
    let on = list_met x.service.now x.bytes.now x.table.now x.output.now c.check_list.ensures c.in_ok-check_list.was in
    let (further, six, fit) = service_met x.service.now x.bytes.now x.table.now x.output.now c.check_service.ensures c.in_ok-c.was in
    let last = release_met x.service.now x.bytes.now x.table.now x.output.now six c.check_release.ensures c.in_ok-check_release.was in
    text_done x.service.now x.bytes.now x.table.now x.output.now six passed c.text_length.ensures c.check_size.ensures c.in_ok-n.was
    c.judged_length.result fit (on ∙ further ∙ last) c.put_text.ensures c.judged_length.ensures
