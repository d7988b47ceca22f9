-- `run_respell::write_values` meets its contract: the text that Write says it stored lies within the buffer. Assumes nothing.
use Rattle.std.proofs.Common.{◌≡◌, Ok, rules}
use Prim.Native.Nat.{ℕ}
use Rattle.run_respell.proofs.Fits.{fitting_by, text_within}
use Rattle.run_respell.proofs.write_values.Goals as goal

pub returns : goal.returns
returns c =
    fitting_by _ _
    (λ n is.
    let e : c.write.result ≡ Ok n = search rules in
    text_within _ _ _ _ c.write.ensures.0 e c.write.ensures.1)
