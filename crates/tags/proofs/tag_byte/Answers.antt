-- `tags::tag_byte` meets its contract: it asks for the two ranges. Assumes nothing.
use mathlib.Core.Path.{◌≡◌, sym, ap, ◌∙◌}
use mathlib.Core.Bool.{Bool, true, false, ◌||◌}
use Rattle.characters.specs.Characters.{between, upper, digit}
use Rattle.tags.proofs.tag_byte.Goals as goal

pub returns-then-is_ascii_uppercase : goal.returns-then-is_ascii_uppercase
unfolding upper digit between
returns-then-is_ascii_uppercase c =
    let b = c.args.b in
    let is : upper b ≡ true = sym c.is_ascii_uppercase.ensures.value ∙ c.if-is_ascii_uppercase.true in
    c.if-is_ascii_uppercase.true ∙ sym (ap (λ (t : Bool). t || digit b) is)

pub returns-else-is_ascii_uppercase : goal.returns-else-is_ascii_uppercase
unfolding upper digit between
returns-else-is_ascii_uppercase c =
    let b = c.args.b in
    let not : upper b ≡ false = sym c.is_ascii_uppercase.ensures.value ∙ c.if-is_ascii_uppercase.false in
    c.is_ascii_digit.ensures.value ∙ sym (ap (λ (t : Bool). t || digit b) not)
