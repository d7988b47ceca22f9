-- `import_columns::try_import` meets its contract: one stage answers, or what follows it does. Assumes nothing.
use Rattle.std.proofs.Common.{rules}
use Prim.Native.Nat.{◌≤◌}
use mathlib.Core.Path.{refl, sym, ap, ◌∙◌}
use mathlib.Core.Option.{some}
use native.Mathlib.Omega.{arith}
use lib.ListN.{length}
use lib.Seq.{sets, length-take-le}
use Rattle.refusals.specs.Limits.{most_bytes}
use Rattle.storing.proofs.Stores.{stored_length}
use Rattle.value_list_text.specs.Composing.{composed_text}
use Rattle.write.proofs.Writing.{tried_refused, service_failed, service_met, release_failed, release_met, text_failed, text_met, text_done}
use Rattle.write.proofs.Listed.{asked, composed_same, measured}
use Rattle.columns.specs.Operations.{bytes_read, table_read, import_text}
use Rattle.columns.specs.Reading.{is_columns}
use Rattle.column_walk.specs.Checking.{items_read}
use Rattle.import_columns.proofs.Checks.{lines_told, other_told}
use Rattle.import_columns.proofs.Stages.{other_failed, import_begun, import_many, import_passed, count_told, count_failed}
use Rattle.import_columns.proofs.try_import.Goals as goal

pub returns-in_err-count : goal.returns-in_err-count
returns-in_err-count c =
    let x = c.args in
    let (none, same) = count_failed c.check_columns.result _ (sym c.ok_or.ensures.value ∙ c.in_err-count.was) in
    let other = other_told (is_columns x.s.now) (length (items_read x.s.now)) (sym c.check_columns.ensures ∙ none) in
    tried_refused (other_failed x.service.now x.s.now x.output.now other ∙ ap some same) (search rules) refl

pub returns-then-count-gt-MOST_BYTES : goal.returns-then-count-gt-MOST_BYTES
returns-then-count-gt-MOST_BYTES c =
    let x = c.args in
    let lines = lines_told (is_columns x.s.now) (length (items_read x.s.now)) _ (sym c.check_columns.ensures ∙ count_told c.check_columns.result _ (sym c.ok_or.ensures.value ∙ c.in_ok-count.was)) in
    tried_refused (import_many x.service.now x.s.now x.output.now lines.0 (omega (arith, c.if-count-gt-MOST_BYTES.true, lines.1))) c.failed.ensures refl

pub returns-in_err-c : goal.returns-in_err-c
returns-in_err-c c =
    let x = c.args in
    let lines = lines_told (is_columns x.s.now) (length (items_read x.s.now)) _ (sym c.check_columns.ensures ∙ count_told c.check_columns.result _ (sym c.ok_or.ensures.value ∙ c.in_ok-count.was)) in
    let few : length (items_read x.s.now) ≤ most_bytes = omega (arith, c.if-count-gt-MOST_BYTES.false, lines.1) in
    tried_refused
    (import_begun x.service.now x.s.now x.output.now lines.0 few
    ∙ service_failed x.service.now (bytes_read x.s.now) (table_read x.s.now) x.output.now c.check_service.ensures c.in_err-c.was) (search rules) refl

pub check_release-requires : goal.check_release-requires
check_release-requires c =
    let x = c.args in
    (lines_told (is_columns x.s.now) (length (items_read x.s.now)) _ (sym c.check_columns.ensures ∙ count_told c.check_columns.result _ (sym c.ok_or.ensures.value ∙ c.in_ok-count.was))).0

pub returns-in_err-check_release : goal.returns-in_err-check_release
unfolding bytes_read table_read
returns-in_err-check_release c =
    let x = c.args in
    let items = items_read x.s.now in
    let lines = lines_told (is_columns x.s.now) (length items) _ (sym c.check_columns.ensures ∙ count_told c.check_columns.result _ (sym c.ok_or.ensures.value ∙ c.in_ok-count.was)) in
    let few : length items ≤ most_bytes = omega (arith, c.if-count-gt-MOST_BYTES.false, lines.1) in
    let (on, six, fit) = service_met x.service.now (bytes_read x.s.now) (table_read x.s.now) x.output.now c.check_service.ensures c.in_ok-c.was in
    tried_refused
    (import_begun x.service.now x.s.now x.output.now lines.0 few ∙ on
    ∙ release_failed x.service.now (bytes_read x.s.now) (table_read x.s.now) x.output.now six (asked items c.in_ok-c.c c.check_release.ensures) c.in_err-check_release.was) (search rules) refl

pub put_lines-requires : goal.put_lines-requires
put_lines-requires c =
    let x = c.args in
    let lines = lines_told (is_columns x.s.now) (length (items_read x.s.now)) _ (sym c.check_columns.ensures ∙ count_told c.check_columns.result _ (sym c.ok_or.ensures.value ∙ c.in_ok-count.was)) in
    (lines.0, omega (arith, c.if-count-gt-MOST_BYTES.false, lines.1), omega arith)

pub returns-in_err-n : goal.returns-in_err-n
unfolding bytes_read table_read
returns-in_err-n c =
    let x = c.args in
    let items = items_read x.s.now in
    let lines = lines_told (is_columns x.s.now) (length items) _ (sym c.check_columns.ensures ∙ count_told c.check_columns.result _ (sym c.ok_or.ensures.value ∙ c.in_ok-count.was)) in
    let few : length items ≤ most_bytes = omega (arith, c.if-count-gt-MOST_BYTES.false, lines.1) in
    let (on, six, fit) = service_met x.service.now (bytes_read x.s.now) (table_read x.s.now) x.output.now c.check_service.ensures c.in_ok-c.was in
    let last = release_met x.service.now (bytes_read x.s.now) (table_read x.s.now) x.output.now six (asked items c.in_ok-c.c c.check_release.ensures) c.in_ok-check_release.was in
    tried_refused
    (import_begun x.service.now x.s.now x.output.now lines.0 few ∙ on ∙ last
    ∙ text_failed x.service.now (bytes_read x.s.now) (table_read x.s.now) x.output.now six (import_passed x.service.now x.s.now x.output.now lines.0 few)
    (measured items c.in_ok-c.c c.put_lines.ensures.measured) c.check_size.ensures c.in_err-n.was) (search rules) refl

pub put_text-requires : goal.put_text-requires
unfolding bytes_read table_read
put_text-requires c =
    let x = c.args in
    let items = items_read x.s.now in
    let lines = lines_told (is_columns x.s.now) (length items) _ (sym c.check_columns.ensures ∙ count_told c.check_columns.result _ (sym c.ok_or.ensures.value ∙ c.in_ok-count.was)) in
    let few : length items ≤ most_bytes = omega (arith, c.if-count-gt-MOST_BYTES.false, lines.1) in
    let (on, six, fit) = service_met x.service.now (bytes_read x.s.now) (table_read x.s.now) x.output.now c.check_service.ensures c.in_ok-c.was in
    let (further, same, short, room) = text_met x.service.now (bytes_read x.s.now) (table_read x.s.now) x.output.now six (import_passed x.service.now x.s.now x.output.now lines.0 few)
    (measured items c.in_ok-c.c c.put_lines.ensures.measured) c.check_size.ensures c.in_ok-n.was in
    let size = ap length (composed_same items c.in_ok-c.c) in
    (lines.0, few, omega (arith, size, same, short), omega (arith, size, same, room))

pub slice_bounds-judged_length-end : goal.slice_bounds-judged_length-end
unfolding bytes_read table_read
slice_bounds-judged_length-end c =
    let x = c.args in
    let items = items_read x.s.now in
    let lines = lines_told (is_columns x.s.now) (length items) _ (sym c.check_columns.ensures ∙ count_told c.check_columns.result _ (sym c.ok_or.ensures.value ∙ c.in_ok-count.was)) in
    let few : length items ≤ most_bytes = omega (arith, c.if-count-gt-MOST_BYTES.false, lines.1) in
    let (on, six, fit) = service_met x.service.now (bytes_read x.s.now) (table_read x.s.now) x.output.now c.check_service.ensures c.in_ok-c.was in
    let (further, same, short, room) = text_met x.service.now (bytes_read x.s.now) (table_read x.s.now) x.output.now six (import_passed x.service.now x.s.now x.output.now lines.0 few)
    (measured items c.in_ok-c.c c.put_lines.ensures.measured) c.check_size.ensures c.in_ok-n.was in
    omega (arith, room, stored_length x.output.now 0 (composed_text c.in_ok-c.c items) c.put_text.ensures)

pub slice_bounds-judged_length-end-2 : goal.slice_bounds-judged_length-end-2
slice_bounds-judged_length-end-2 c = sym (length-take-le c.in_ok-n.n c.put_text.new.output (slice_bounds-judged_length-end c))

pub returns : goal.returns
unfolding bytes_read table_read import_text
returns c =
    let x = c.args in
    let items = items_read x.s.now in
    let lines = lines_told (is_columns x.s.now) (length items) _ (sym c.check_columns.ensures ∙ count_told c.check_columns.result _ (sym c.ok_or.ensures.value ∙ c.in_ok-count.was)) in
    let few : length items ≤ most_bytes = omega (arith, c.if-count-gt-MOST_BYTES.false, lines.1) in
    let (on, six, fit) = service_met x.service.now (bytes_read x.s.now) (table_read x.s.now) x.output.now c.check_service.ensures c.in_ok-c.was in
    let last = release_met x.service.now (bytes_read x.s.now) (table_read x.s.now) x.output.now six (asked items c.in_ok-c.c c.check_release.ensures) c.in_ok-check_release.was in
    text_done x.service.now (bytes_read x.s.now) (table_read x.s.now) x.output.now six (import_passed x.service.now x.s.now x.output.now lines.0 few)
    (measured items c.in_ok-c.c c.put_lines.ensures.measured) c.check_size.ensures c.in_ok-n.was
    c.judged_length.result fit (import_begun x.service.now x.s.now x.output.now lines.0 few ∙ on ∙ last)
    (c.put_text.ensures ∙ ap (sets x.output.now 0) (composed_same items c.in_ok-c.c)) c.judged_length.ensures
