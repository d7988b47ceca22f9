-- `line_breaks::past_breaks` meets its contract: the bytes before the one that is found are breaks. Assumes nothing.
use Rattle.std.proofs.Common.{rules, ◌≡◌, true, false, ◌∙◌}
use Rattle.std.proofs.lemmas.Iterator.{first_from_Range}
use lib.ListN.{get_or}
use Rattle.characters.specs.Characters.{is_break}
use Rattle.line_breaks.proofs.Passing.{after_found}
use Rattle.line_breaks.proofs.past_breaks.Goals as goal

pub returns : goal.returns
returns c =
    let s = c.args.s.now in
    c.unwrap_or.ensures
    ∙ after_found s c.args.from c.find.result c.requires
    (first_from_Range _ _ _ _ (λ k. is_break (get_or s k 0) ≡ false) (λ k. is_break (get_or s k 0) ≡ true) c.find.ensures.ran (λ k q r. search rules) (λ k q r. search rules))
