-- `export_columns::text_length` meets its contract: the places of any lines that are asked for fit 64 bits. Assumes nothing.
use native.Mathlib.Omega.{arith}
use Rattle.export_columns.proofs.Steps.{lines_few}
use Rattle.export_columns.proofs.text_length.Goals as goal

pub put_lines-requires : goal.put_lines-requires
put_lines-requires c = (c.requires, omega (arith, lines_few c.args.c c.args.s.now c.args.start c.requires))

pub returns : goal.returns
returns c = c.put_lines.ensures.1
