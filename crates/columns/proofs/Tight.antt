-- The number and the values of an answer determine it, so that each promise leaves one result. Assumes nothing.
use mathlib.Core.Path.{sym, ◌∙◌}
use Rattle.contracts.proofs.Told.{stored_tells}
use Rattle.columns.specs.Promises.{Tight}

pub tight : Tight
tight =
    record {
      export_one = λ buffer s r q x y h k. (stored_tells r q (h.0 ∙ sym k.0), h.1 ∙ sym k.1);
      import_one = λ service columns output r q x y h k. (stored_tells r q (h.0 ∙ sym k.0), h.1 ∙ sym k.1);
    }
