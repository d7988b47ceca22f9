-- `table_rows::row_at` meets its contract: each part of the entry is read where it stands. Assumes nothing.
use Prim.Native.Nat.{◌+◌, ◌*◌}
use mathlib.Core.Path.{sym, ◌∙◌}
use native.Mathlib.Omega.{arith}
use Rattle.numbers.proofs.Numbers.{number_below}
use Rattle.message_tables.specs.Entries.{entry_of}
use Rattle.message_table_laws.proofs.Entries.{number_in}
use Rattle.table_rows.proofs.Bytes.{three_at, one_at}
use Rattle.table_rows.proofs.row_at.Goals as goal

pub returns : goal.returns
unfolding entry_of
returns c =
    let x = c.args in
    let table = x.table.now in
    let at = x.number * 8 in
    let known = c.type_inv.table in record { is = λ i. record { tag = sym (three_at table at (omega arith)) i; status = (one_at table (at + 3) (omega arith) ∙ sym (number_in table at 3 1)) i; repeats = (c.get.ensures ∙ sym (number_in table at 4 2)) i; under = (c.get-2.ensures ∙ sym (number_in table at 6 2)) i }; small = omega (arith, number_below table (at + 6) 2 (λ j h. (known j).fits) (omega arith), c.get-2.ensures) }
