-- `table_rows::same_tag` meets its contract: its three bytes are the same. Assumes nothing.
use mathlib.Core.Path.{◌≡◌, refl, ap, ◌∙◌}
use mathlib.Core.Bool.{Bool, true, false, ◌&&◌}
use lib.Dec.{eqb}
use Rattle.lists.specs.Lists.{same}
use Rattle.table_rows.proofs.same_tag.Goals as goal

alone : (t : Bool) → t ≡ (t && true)
alone true = refl
alone false = refl

pub returns : goal.returns
unfolding same
returns c =
    let x = c.args in
    c.eq.ensures ∙ ap (λ (t : Bool). eqb x.a.first x.b.first && (eqb x.a.second x.b.second && t)) (alone (eqb x.a.third x.b.third))
