-- `value_lists::cannot_stand_there` meets its contract: it makes the definition's tests, the first by the places. Assumes nothing.
use Rattle.std.proofs.Common.{◌≡◌, ℕ, ◌+◌, ◌-◌, Bool, ◌||◌, take, drop, ap, ◌∙◌, ap₂, arith}
use Rattle.lists.specs.Lists.{any}
use Rattle.characters.specs.Characters.{is_service}
use Rattle.operations.specs.ValueList.{value_in}
use Rattle.operations.specs.Write.{cannot_stand}
use Rattle.value_lists.specs.Records.{entry_of}
use Rattle.value_lists.proofs.Records.{bare_value}
use Rattle.value_lists.proofs.cannot_stand_there.Goals as goal

pub returns : goal.returns
unfolding cannot_stand value_in
returns c =
    let x = c.args in
    let r = x.r in
    let size : r.start + r.size - r.start ≡ r.size = omega arith in
    ap₂ (λ (t u : Bool). t || u)
    (bare_value x.c (value_in x.bytes.now (entry_of r)) c.requires.0
    (c.holds_between.ensures ∙ ap (λ (n : ℕ). any (is_service x.c) (take n (drop r.start x.bytes.now))) size))
    c.lacks_repetition.ensures
