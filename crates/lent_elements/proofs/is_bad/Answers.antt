-- `lent_elements::is_bad` meets its contract: 15 answers, or the list is empty, or a later record begins again. Assumes nothing.
use mathlib.Core.Path.{sym, ◌∙◌}
use mathlib.Core.Bool.{true≢false}
use borrow.Author.Tests.{ltb-true, ltb-false}
use lib.ListN.{length}
use Rattle.lent_elements.proofs.Records.{refused_by, passed_by, list_empty, list_starts}
use Rattle.lent_elements.proofs.is_bad.Goals.{then-is_err, else-is_err}
use Rattle.lent_elements.proofs.is_bad.Goals as goal

pub returns-then-list-lt3 : goal.returns-then-list-lt3
returns-then-list-lt3 c =
    let bytes = c.args.list.bytes.now in
    let table = c.args.list.table.now in
    c.if-list-lt3.true ∙ elim c.if-is_err.branch [
      | then-is_err w ↦ refused_by bytes table c.check_list.result c.check_list.ensures (sym c.is_err.ensures.value ∙ w.if-is_err.true)
      | else-is_err w ↦ list_empty bytes table (passed_by bytes table c.check_list.result c.check_list.ensures (sym c.is_err.ensures.value ∙ w.if-is_err.false)) (ltb-true (length table) 3 (sym w.value-is ∙ c.if-list-lt3.true))
    ]

pub returns-else-list-lt3 : goal.returns-else-list-lt3
returns-else-list-lt3 c =
    let bytes = c.args.list.bytes.now in
    let table = c.args.list.table.now in
    elim c.if-is_err.branch [
      | then-is_err w ↦ absurd (true≢false (sym w.if-is_err.true ∙ sym w.value-is ∙ c.if-list-lt3.false))
      | else-is_err w ↦
          list_starts bytes table (passed_by bytes table c.check_list.result c.check_list.ensures (sym c.is_err.ensures.value ∙ w.if-is_err.false)) (ltb-false (length table) 3 (sym w.value-is ∙ c.if-list-lt3.false)) c.begins_again.ensures
    ]
