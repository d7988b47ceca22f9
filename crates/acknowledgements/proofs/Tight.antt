-- The number and the values of an answer determine it, so that the promise leaves one result. Assumes nothing.
use mathlib.Core.Path.{sym, ◌∙◌}
use Rattle.contracts.proofs.Told.{stored_tells}
use Rattle.acknowledgements.specs.Promises.{Tight}

pub tight : Tight
tight s l output r q x y h k = (stored_tells r q (h.0 ∙ sym k.0), h.1 ∙ sym k.1)
