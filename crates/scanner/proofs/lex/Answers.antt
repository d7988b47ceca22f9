-- `scanner::lex` meets its contract: each arm is one law of `Lexing`. Assumes nothing.
use mathlib.Core.Path.{sym, ◌∙◌}
use Rattle.characters.specs.declared.Role.TheVariants.{Plain}
use Rattle.scanner.specs.Scanner.{lex_role}
use Rattle.scanner.proofs.Lexing.{lex_end, lex_separator_lem, lex_role_lem, lex_last, lex_taken_lem}
use borrow.Author.Rules.{rules}
use Rattle.scanner.proofs.lex.Goals as goal

pub returns-then-s-at : goal.returns-then-s-at
returns-then-s-at c = lex_end _ _ _ (search rules)

pub returns-in-Separator : goal.returns-in-Separator
returns-in-Separator c =
    c.separated.ensures
    ∙ lex_separator_lem c.args.c _ _ c.in-Separator.rank (search rules)
    (sym c.role_of.ensures ∙ c.in-Separator.is)

pub returns-in-Plain : goal.returns-in-Plain
unfolding lex_role
returns-in-Plain c = lex_role_lem _ _ _ Plain (search rules) (sym c.role_of.ensures ∙ c.in-Plain.is)

pub returns-then-s-next : goal.returns-then-s-next
returns-then-s-next c = lex_last _ _ _ (search rules) (search rules) (sym c.role_of.ensures ∙ c.in-Release.is)

pub returns-else-s-next : goal.returns-else-s-next
returns-else-s-next c =
    c.taken.ensures
    ∙ lex_taken_lem _ _ _ c.role_of-else-s-next.result (search rules) (search rules)
    (sym c.role_of.ensures ∙ c.in-Release.is)
    (sym c.role_of-else-s-next.ensures)
