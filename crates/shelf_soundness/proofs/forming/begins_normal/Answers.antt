-- `forming::begins_normal` meets its contract: nine bytes are made, and the text begins with them. Assumes nothing.
use Prim.Native.Nat.{ℕ}
use mathlib.Core.Path.{ap, ◌∙◌}
use mathlib.Core.List.{List}
use Rattle.lists.specs.Lists.{begins}
use Rattle.characters.specs.declared.Characters.{Characters}
use Rattle.characters.specs.Characters.{advice_of, spelled_out}
use Rattle.own_form_laws.specs.OwnForm.{begins_normal}
use Rattle.shelf_soundness.proofs.forming.begins_normal.Goals as goal

pub returns : goal.returns
unfolding begins_normal advice_of spelled_out
returns c =
    let text = c.args.text.now in
    c.begins.ensures
    ∙ ap (λ (front : List ℕ). begins front text) c.put_advice.ensures
    ∙ ap (λ (n : Characters). begins (advice_of n) text) c.form_characters.ensures
