-- `clean_walk::is_user` meets its contract: the four bytes spell a tag, and the first two of them tell a user segment. Assumes nothing.
use mathlib.Core.Bool.{false≢true}
use native.Mathlib.Omega.{arith}
use borrow.Author.Tests.{not-false}
use Rattle.clean_walk.proofs.Tags.{tag_user}
use Rattle.clean_walk.proofs.is_user.Goals as goal

pub returns-then-not-spells_tag : goal.returns-then-not-spells_tag
returns-then-not-spells_tag c e = absurd (false≢true e)

pub bounds-s-second : goal.bounds-s-second
bounds-s-second c =
    omega (arith, (c.spells_tag.ensures (not-false _ c.if-not-spells_tag.false-raw)).inside)

pub returns : goal.returns
returns c e =
    tag_user _ _ _ (c.spells_tag.ensures (not-false _ c.if-not-spells_tag.false-raw)) e
