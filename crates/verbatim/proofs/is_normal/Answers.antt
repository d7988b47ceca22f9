-- `verbatim::is_normal` meets its contract: the bytes are compared one by one. Assumes nothing.
use mathlib.Core.Path.{sym, ap, ◌∙◌}
use mathlib.Core.Bool.{Bool, ◌&&◌, and-true}
use lib.Dec.{eqb}
use Rattle.lists.specs.Lists.{same}
use Rattle.characters.specs.declared.Characters.{Characters}
use Rattle.characters.specs.Characters.{spelled_out}
use Rattle.verbatim.specs.Verbatim.{is_normal}
use Rattle.verbatim.proofs.is_normal.Goals as goal

pub returns : goal.returns
unfolding is_normal same spelled_out
returns c =
    let own = c.args.c in
    let n = c.normal_characters-n.result in
    ap (λ (t : Bool). eqb own.component n.component && (eqb own.element n.element && (eqb own.mark n.mark
    && (eqb own.release n.release && (eqb own.repetition n.repetition && t))))) (sym (and-true (eqb own.terminator n.terminator)))
    ∙ ap (λ (o : Characters). same (spelled_out own) (spelled_out o)) c.normal_characters-n.ensures
