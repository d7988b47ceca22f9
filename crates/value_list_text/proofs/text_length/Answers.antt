-- `value_list_text::text_length` meets its contract: what is measured alone has room. Assumes nothing.
use native.Mathlib.Omega.{arith}
use Rattle.value_list_text.proofs.text_length.Goals as goal

pub put_records-requires : goal.put_records-requires
put_records-requires c = (c.requires.0, c.requires.1, omega arith)

pub returns : goal.returns
returns c = c.put_records.ensures.measured
