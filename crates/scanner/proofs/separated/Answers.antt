-- `scanner::separated` meets its contract: after a terminator the breaks are passed over. Assumes nothing.
use mathlib.Core.Path.{ap, ◌∙◌}
use Rattle.scanner.specs.declared.Lexed.TheVariants.{Separator}
use Rattle.scanner.proofs.Lexing.{terminator_is, separator_is}
use Rattle.scanner.proofs.separated.Goals as goal

pub returns-then-rank-eq0 : goal.returns-then-rank-eq0
returns-then-rank-eq0 c =
    ap (Separator c.args.rank) c.after_breaks-next.ensures ∙ terminator_is _ _ c.args.rank c.if-rank-eq0.true

pub returns-else-rank-eq0 : goal.returns-else-rank-eq0
returns-else-rank-eq0 c = separator_is _ _ c.args.rank c.if-rank-eq0.false
