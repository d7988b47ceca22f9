-- `value_lists::is_bad` meets its contract: it makes the definition's tests, and asks for the value where it is there. Assumes nothing.
use Rattle.std.proofs.Common.{rules, ◌+◌, ◌≤◌, length, ap, sym, ◌∙◌, le-ltb, lt-ltb, ne_eqb}
use Rattle.values.specs.Spelling.{leads_break}
use Rattle.operations.specs.Write.{bad_entry}
use Rattle.value_lists.specs.Records.{entry_of}
use Rattle.value_lists.proofs.Records.{begins_none, begins_segment}
use Rattle.value_lists.proofs.is_bad.Goals as goal
use Rattle.value_lists.proofs.is_bad.Goals.{then-r-gt3, else-r-gt3}

pub returns-then-bytes-r : goal.returns-then-bytes-r
unfolding bad_entry
returns-then-bytes-r c =
    elim c.if-r-gt3.branch [
      | then-r-gt3 w ↦ c.if-bytes-r.true ∙ simp (lt-ltb _ _ w.if-r-gt3.true)
      | else-r-gt3 w ↦ c.if-bytes-r.true ∙ simp (le-ltb _ _ w.if-r-gt3.false, sym w.value-is ∙ c.if-bytes-r.true)
    ]

pub returns-then-r-eq0 : goal.returns-then-r-eq0
returns-then-r-eq0 c =
    let r = c.args.r in
    let low : r.kind ≤ 3 = search rules in
    let there : r.start + r.size ≤ length c.args.bytes.now = search rules in
    begins_segment c.args.bytes.now (entry_of r) low there c.if-r-eq0.true (c.leads_break.ensures ∙ ap leads_break c.value_of.ensures)

pub returns-else-r-eq0 : goal.returns-else-r-eq0
returns-else-r-eq0 c =
    let r = c.args.r in
    let low : r.kind ≤ 3 = search rules in
    let there : r.start + r.size ≤ length c.args.bytes.now = search rules in
    ne_eqb _ _ c.if-r-eq0.false ∙ begins_none c.args.bytes.now (entry_of r) low there c.if-r-eq0.false
