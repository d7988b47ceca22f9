-- What stands at a place, as the scanner says it. Assumes nothing.
use Rattle.std.specs.Prelude.{ℕ, zero, suc, ◌+◌, List, length, get_or, ltb, if◌then◌else◌}
use Rattle.characters.specs.declared.Characters.{Characters}
use Rattle.characters.specs.declared.Role.{Role}
use Rattle.characters.specs.declared.Role.TheVariants as role
use Rattle.characters.specs.Characters.{role as role_in, after_breaks}
use Rattle.scanner.specs.declared.Lexed.{Lexed}
use Rattle.scanner.specs.declared.Lexed.TheVariants.{Byte, Separator, Stray, End}

-- the byte at `place`, after a release character
abbrev pub lex_taken : Role → ℕ → ℕ → ℕ → Lexed
lex_taken (role.Separator rank) b place next = Byte b place next
lex_taken role.Release b place next = Byte b place next
lex_taken role.Plain b place next = Stray next

-- a separator that is not released, with `next` the place after it; after a terminator the next segment starts past the breaks
unfoldable pub lex_separator : List ℕ → ℕ → ℕ → Lexed
lex_separator s next zero = Separator 0 (after_breaks s next)
lex_separator s next (suc rank) = Separator (suc rank) next

module _ (c : Characters) (s : List ℕ) (at : ℕ) where
  unfoldable pub lex_role : Role → Lexed
  lex_role (role.Separator rank) = lex_separator s (at + 1) rank
  lex_role role.Plain = Byte (get_or s at 0) at (at + 1)
  lex_role role.Release =
      if ltb (at + 1) (length s)
      then lex_taken (role_in c (get_or s (at + 1) 0)) (get_or s (at + 1) 0) (at + 1) (at + 1 + 1)
      else Stray (at + 1)

  unfoldable pub lex_at : Lexed
  lex_at = if ltb at (length s) then lex_role (role_in c (get_or s at 0)) else End
