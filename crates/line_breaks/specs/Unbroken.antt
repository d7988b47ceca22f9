-- Bytes without those below the space. Assumes nothing.
use Rattle.std.specs.Prelude.{ℕ, List, leb}
use Rattle.lists.specs.Lists.{those}

-- The bytes from the space, 32, upward. Where every other byte is in a level and the service characters are a normal form's, those below
-- are the line breaks: "Contents and normal form hold no breaks" (request 2026-01).
unfoldable pub unbroken : List ℕ → List ℕ
unbroken bytes = those (leb 32) bytes
