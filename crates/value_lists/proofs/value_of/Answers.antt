-- `value_lists::value_of` meets its contract: from the start, as many bytes as the length says. Assumes nothing.
use Rattle.std.proofs.Common.{◌≡◌, ℕ, ◌+◌, ◌-◌, take, drop, ap, arith}
use Rattle.operations.specs.ValueList.{value_in}
use Rattle.value_lists.proofs.value_of.Goals as goal

pub returns : goal.returns
unfolding value_in
returns c =
    let r = c.args.r in
    let size : r.start + r.size - r.start ≡ r.size = omega arith in
    ap (λ (n : ℕ). take n (drop r.start c.args.bytes.now)) size
