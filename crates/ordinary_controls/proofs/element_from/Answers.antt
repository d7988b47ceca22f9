-- `ordinary_controls::element_from` meets its contract: the first element begins after the tag, any other is looked for. Assumes nothing.
use Prim.Native.Nat.{ℕ, ◌+◌}
use mathlib.Core.Path.{sym, subst, ◌∙◌}
use Rattle.elements.specs.Elements.{ElementAt}
use Rattle.ordinary_controls.proofs.Standing.{first_element}
use Rattle.ordinary_controls.proofs.element_from.Goals as goal

pub returns-then-is_separator : goal.returns-then-is_separator
returns-then-is_separator c =
    let x = c.args in
    subst (λ (k : ℕ). ElementAt x.c x.s.now x.at k (x.at + 3 + 1)) (sym c.if-position-eq1.true)
    (first_element x.c x.s.now c.requires.0 x.at c.requires.1 (sym c.is_separator.ensures ∙ c.if-is_separator.true))
