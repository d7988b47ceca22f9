-- `value_lists::cannot_stand` meets its contract: it makes the definition's tests. Assumes nothing.
use Rattle.std.proofs.Common.{Bool, ◌||◌, ap, ◌∙◌, ap₂}
use Rattle.operations.specs.Write.{lacks_release, cannot_stand}
use Rattle.value_lists.proofs.cannot_stand.Goals as goal

pub returns : goal.returns
unfolding cannot_stand
returns c =
    ap₂ (λ (t u : Bool). t || u)
    (c.lacks_release.ensures ∙ ap (lacks_release c.args.c) c.value_of.ensures)
    c.lacks_repetition.ensures
