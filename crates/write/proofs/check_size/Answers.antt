-- `write::check_size` meets its contract: it makes the definition's tests. Assumes nothing.
use Rattle.std.proofs.Common.{rules, ◌≡◌, sym, ◌∙◌, lt-ltb, le-ltb}
use Rattle.std.specs.Prelude.{Err}
use Rattle.write.proofs.Writing.{size_over, size_told}
use Rattle.write.proofs.check_size.Goals as goal

pub returns-in_err-n : goal.returns-in_err-n
returns-in_err-n c =
    let said : c.from_residual.result ≡ Err c.in_err-n.field-0.0 = search rules in
    said ∙ size_over c.args.room c.args.length (sym c.ok_or.ensures.value ∙ c.in_err-n.was)

pub returns-then-room-n : goal.returns-then-room-n
returns-then-room-n c = size_told c.args.room c.args.length (sym c.ok_or.ensures.value ∙ c.in_ok-n.was) (lt-ltb _ _ c.if-room-n.true)

pub returns : goal.returns
returns c = size_told c.args.room c.args.length (sym c.ok_or.ensures.value ∙ c.in_ok-n.was) (le-ltb _ _ c.if-room-n.false)
