-- `acknowledge::try_received` meets its contract: the writer's 15 and 16, asked of the parts, then 1, 14 and what Judge answers for the text. The
-- parts are the list put together, and the characters those of the received one's normal form. Assumes nothing.
use Rattle.std.proofs.Common.{rules}
use Prim.Native.Nat.{◌≤◌}
use mathlib.Core.Path.{refl, sym, ap, ◌∙◌}
use native.Mathlib.Omega.{arith}
use lib.ListN.{length}
use lib.Seq.{sets, length-take-le}
use Rattle.storing.proofs.Stores.{stored_length}
use Rattle.refusals.specs.Limits.{most_bytes}
use Rattle.operations.specs.ValueList.{list_bytes, list_table}
use Rattle.value_list_text.specs.Composing.{composed_text}
use Rattle.characters.specs.Characters.{usable, spelled_out}
use Rattle.write.proofs.Writing.{tried_refused, release_failed, release_met, text_failed, text_met, text_done}
use Rattle.write.proofs.Listed.{many_failed, records_passed, asked, composed_same, measured}
use Rattle.acknowledgement_parts.specs.Parts.{lent_in}
use Rattle.acknowledge.specs.Rows.{row}
use Rattle.acknowledge.proofs.Taken.{form_is, form_usable}
use Rattle.acknowledge.proofs.Listed.{all_ready, all_stand, row_is, row_sound}
use Rattle.acknowledge.proofs.Stages.{six, begun, as_written, as_tried}
use Rattle.acknowledge.proofs.try_received.Goals as goal

pub record_count-requires : goal.record_count-requires
record_count-requires c =
    let x = c.args in
    let known = c.requires in
    all_ready x.s.now (lent_in x.lent.now) x.r known.0 known.1 known.2

pub returns-then-record_count-gt-MOST_BYTES : goal.returns-then-record_count-gt-MOST_BYTES
returns-then-record_count-gt-MOST_BYTES c =
    let x = c.args in
    let known = c.requires in
    let l = lent_in x.lent.now in
    let k = c.normal_characters-c.result in
    let items = row x.s.now l x.r in
    let form = form_is x.s.now known.0 known.1.characters c.body_start.ensures c.normal_repetition-repetition.ensures c.normal_characters-c.ensures in
    tried_refused
    (as_written x.s.now l x.output.now form (row_is x.s.now l x.r known.0 known.1 known.2)
    ∙ many_failed items (spelled_out k) x.output.now (omega (arith, c.record_count.ensures, c.if-record_count-gt-MOST_BYTES.true))) c.failed.ensures refl

pub check_parts-requires : goal.check_parts-requires
check_parts-requires c =
    let x = c.args in
    let known = c.requires in
    let l = lent_in x.lent.now in
    let form = form_is x.s.now known.0 known.1.characters c.body_start.ensures c.normal_repetition-repetition.ensures c.normal_characters-c.ensures in
    (all_ready x.s.now l x.r known.0 known.1 known.2, all_stand x.s.now l x.r known.0 known.1 form)

pub returns-in_err-check_parts : goal.returns-in_err-check_parts
returns-in_err-check_parts c =
    let x = c.args in
    let known = c.requires in
    let l = lent_in x.lent.now in
    let k = c.normal_characters-c.result in
    let items = row x.s.now l x.r in
    let form = form_is x.s.now known.0 known.1.characters c.body_start.ensures c.normal_repetition-repetition.ensures c.normal_characters-c.ensures in
    let fit = ap usable form ∙ form_usable x.s.now known.0 in
    let good = row_sound x.s.now l x.r known.0 known.1 known.2 (omega (arith, c.record_count.ensures, c.if-record_count-gt-MOST_BYTES.false)) in
    tried_refused
    (as_written x.s.now l x.output.now form (row_is x.s.now l x.r known.0 known.1 known.2) ∙ begun k items x.output.now good fit
    ∙ release_failed (spelled_out k) (list_bytes items) (list_table items) x.output.now (six k items x.output.now) (asked items k c.check_parts.ensures) c.in_err-check_parts.was)
    (search rules) refl

pub put_parts-requires : goal.put_parts-requires
put_parts-requires c =
    let x = c.args in
    let known = c.requires in
    let l = lent_in x.lent.now in
    ((all_ready x.s.now l x.r known.0 known.1 known.2, omega (arith, c.record_count.ensures, c.if-record_count-gt-MOST_BYTES.false)), omega arith)

pub returns-in_err-n : goal.returns-in_err-n
returns-in_err-n c =
    let x = c.args in
    let known = c.requires in
    let l = lent_in x.lent.now in
    let k = c.normal_characters-c.result in
    let items = row x.s.now l x.r in
    let form = form_is x.s.now known.0 known.1.characters c.body_start.ensures c.normal_repetition-repetition.ensures c.normal_characters-c.ensures in
    let fit = ap usable form ∙ form_usable x.s.now known.0 in
    let good = row_sound x.s.now l x.r known.0 known.1 known.2 (omega (arith, c.record_count.ensures, c.if-record_count-gt-MOST_BYTES.false)) in
    tried_refused
    (as_written x.s.now l x.output.now form (row_is x.s.now l x.r known.0 known.1 known.2) ∙ begun k items x.output.now good fit
    ∙ release_met (spelled_out k) (list_bytes items) (list_table items) x.output.now (six k items x.output.now) (asked items k c.check_parts.ensures) c.in_ok-check_parts.was
    ∙ text_failed (spelled_out k) (list_bytes items) (list_table items) x.output.now (six k items x.output.now) (records_passed items good)
    (measured items k c.put_parts.ensures.measured) c.check_size.ensures c.in_err-n.was)
    (search rules) refl

pub put_text-requires : goal.put_text-requires
put_text-requires c =
    let x = c.args in
    let known = c.requires in
    let l = lent_in x.lent.now in
    let k = c.normal_characters-c.result in
    let items = row x.s.now l x.r in
    let few : length items ≤ most_bytes = omega (arith, c.record_count.ensures, c.if-record_count-gt-MOST_BYTES.false) in
    let good = row_sound x.s.now l x.r known.0 known.1 known.2 few in
    let (on, same, short, room) = text_met (spelled_out k) (list_bytes items) (list_table items) x.output.now (six k items x.output.now) (records_passed items good)
    (measured items k c.put_parts.ensures.measured) c.check_size.ensures c.in_ok-n.was in
    let size = ap length (composed_same items k) in
    ((all_ready x.s.now l x.r known.0 known.1 known.2, few), omega (arith, size, same, short), omega (arith, size, same, room))

pub slice_bounds-judged_length-end : goal.slice_bounds-judged_length-end
slice_bounds-judged_length-end c =
    let x = c.args in
    let known = c.requires in
    let l = lent_in x.lent.now in
    let k = c.normal_characters-c.result in
    let items = row x.s.now l x.r in
    let good = row_sound x.s.now l x.r known.0 known.1 known.2 (omega (arith, c.record_count.ensures, c.if-record_count-gt-MOST_BYTES.false)) in
    let (on, same, short, room) = text_met (spelled_out k) (list_bytes items) (list_table items) x.output.now (six k items x.output.now) (records_passed items good)
    (measured items k c.put_parts.ensures.measured) c.check_size.ensures c.in_ok-n.was in
    omega (arith, room, stored_length x.output.now 0 (composed_text k items) c.put_text.ensures)

pub slice_bounds-judged_length-end-2 : goal.slice_bounds-judged_length-end-2
slice_bounds-judged_length-end-2 c = sym (length-take-le c.in_ok-n.n c.put_text.new.output (slice_bounds-judged_length-end c))

pub returns : goal.returns
returns c =
    let x = c.args in
    let known = c.requires in
    let l = lent_in x.lent.now in
    let k = c.normal_characters-c.result in
    let items = row x.s.now l x.r in
    let form = form_is x.s.now known.0 known.1.characters c.body_start.ensures c.normal_repetition-repetition.ensures c.normal_characters-c.ensures in
    let same = row_is x.s.now l x.r known.0 known.1 known.2 in
    let fit = ap usable form ∙ form_usable x.s.now known.0 in
    let good = row_sound x.s.now l x.r known.0 known.1 known.2 (omega (arith, c.record_count.ensures, c.if-record_count-gt-MOST_BYTES.false)) in
    as_tried x.s.now l x.output.now form same
    (text_done (spelled_out k) (list_bytes items) (list_table items) x.output.now (six k items x.output.now) (records_passed items good)
    (measured items k c.put_parts.ensures.measured) c.check_size.ensures c.in_ok-n.was
    c.judged_length.result fit
    (as_written x.s.now l x.output.now form same ∙ begun k items x.output.now good fit
    ∙ release_met (spelled_out k) (list_bytes items) (list_table items) x.output.now (six k items x.output.now) (asked items k c.check_parts.ensures) c.in_ok-check_parts.was)
    (c.put_text.ensures ∙ ap (sets x.output.now 0) (composed_same items k)) c.judged_length.ensures)
