-- `column_lines::begins_heading` meets its contract: the line that is asked for is the heading. Assumes nothing.
use Rattle.columns.specs.Lines.{heading, line}
use Rattle.column_lines.proofs.begins_heading.Goals as goal

pub returns : goal.returns
unfolding heading line
returns c = c.starts_with.ensures
