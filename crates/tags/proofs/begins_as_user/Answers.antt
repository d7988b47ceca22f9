-- `tags::begins_as_user` meets its contract: no tag of a service segment begins with another byte than `U`. Assumes nothing.
use lib.Dec.{eqb}
use borrow.Author.Tests.{eqb-false, not-true}
use Rattle.scanner.proofs.Lexing.{lexes_as}
use Rattle.tags.proofs.Tagging.{kind_begun}
use Rattle.tags.proofs.begins_as_user.Goals as goal

pub returns-in-Byte : goal.returns-in-Byte
returns-in-Byte c e =
    let b = c.in-Byte.byte in
    kind_begun _ _ _ (lexes_as _ _ _ c.lex.ensures c.in-Byte.is) (eqb-false b 85 (not-true (eqb b 85) e))
