-- `scanner::past_release` meets its contract: the byte after the release character decides. Assumes nothing.
use mathlib.Core.Path.{sym, ◌∙◌}
use borrow.Author.Rules.{rules}
use Rattle.scanner.proofs.Scanning.{release_last, release_stray, release_taken}
use Rattle.scanner.proofs.past_release.Goals as goal

pub returns-then-s-next : goal.returns-then-s-next
returns-then-s-next c = let p = c.requires in release_last _ _ _ p.0 p.1 (search rules)

pub returns-in-Plain : goal.returns-in-Plain
returns-in-Plain c = let p = c.requires in release_stray _ _ _ p.0 p.1 (search rules) (sym c.role_of.ensures ∙ c.in-Plain.is)

pub returns-in_default : goal.returns-in_default
returns-in_default c = let p = c.requires in release_taken _ _ _ p.0 p.1 (search rules) c.role_of.result (sym c.role_of.ensures) c.in_default.not-Plain
