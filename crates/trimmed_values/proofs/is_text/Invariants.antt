-- `trimmed_values::is_text` meets its contract. The loop's invariant: the value is the text if from `at` on it is what is left of the text.
-- Assumes nothing.
use mathlib.Core.Path.{◌≡◌}
use lib.ListN.{drop}
use Rattle.lists.specs.Lists.{same}
use Rattle.values.specs.Tokens.{tokens_at}
use Rattle.elements.specs.Values.{value_in}
use Rattle.trimmed_values.proofs.is_text.Given as goal

abbrev pub invariant-loop-letter : goal.invariant-loop-letter
invariant-loop-letter l =
    same (value_in (tokens_at l.c l.s l.from)) l.text ≡ same (value_in (tokens_at l.c l.s l.at)) (drop l.letter-index l.text)
