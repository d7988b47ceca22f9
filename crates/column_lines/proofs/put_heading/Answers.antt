-- `column_lines::put_heading` meets its contract: the line that is copied is the heading. Assumes nothing.
use Rattle.columns.specs.Lines.{heading, line}
use Rattle.column_lines.proofs.put_heading.Goals as goal

pub put_short-requires : goal.put_short-requires
unfolding heading line
put_short-requires c = c.requires

pub returns : goal.returns
unfolding heading line
returns c = c.put_short.ensures
