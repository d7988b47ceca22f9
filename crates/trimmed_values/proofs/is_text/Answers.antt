-- `trimmed_values::is_text` meets its contract. The loop's invariant: the value is the text if from `at` on it is what is left of the text.
-- Assumes nothing.
use mathlib.Core.Path.{sym, ◌∙◌}
use native.Mathlib.Omega.{arith}
use lib.ListN.{drop_of_length-le}
use Rattle.lists.proofs.Numbers.{drop_next}
use Rattle.elements.proofs.Values.{next_as}
use Rattle.trimmed_values.proofs.Same.{same_shorter, same_byte, same_not, text_ended}
use Rattle.trimmed_values.proofs.is_text.Goals as goal

pub returns-in_default : goal.returns-in_default
returns-in_default c =
    let n = next_as _ _ _ c.byte_at.ensures c.in_default.is in
    let l = c.loop-letter in
    sym (l.invariant ∙ same_shorter n.0 (drop_next c.args.text.now l.letter-index (omega arith)))

pub returns-then-byte-letter : goal.returns-then-byte-letter
returns-then-byte-letter c =
    let n = next_as _ _ _ c.byte_at.ensures c.in-Byte.is in
    let l = c.loop-letter in
    sym (l.invariant ∙ same_not n.0 (drop_next c.args.text.now l.letter-index (omega arith)) c.if-byte-letter.true)

pub loop-letter-preserved : goal.loop-letter-preserved
loop-letter-preserved c =
    let n = next_as _ _ _ c.byte_at.ensures c.in-Byte.is in
    let l = c.loop-letter in
    l.invariant ∙ same_byte n.0 (drop_next c.args.text.now l.letter-index (omega arith)) c.if-byte-letter.false

pub returns : goal.returns
returns c =
    let l = c.loop-letter in
    c.is_ended.ensures
    ∙ text_ended _ _ _ c.byte_at-2.result (drop_of_length-le c.args.text.now {i = l.letter-index} (omega arith)) c.byte_at-2.ensures
    ∙ sym l.invariant
