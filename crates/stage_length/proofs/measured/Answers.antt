-- `stage_length::measured` meets its contract: the contents are put nowhere, where there is room for them. Assumes nothing.
use native.Mathlib.Omega.{arith}
use lib.ListN.{drop, length-drop}
use Rattle.values.specs.Tokens.{tokens_at}
use Rattle.stages.specs.Contents.{normal_characters}
use Rattle.emission_laws.proofs.Steps.{at_most_twice}
use Rattle.stage_length.proofs.measured.Goals as goal

pub put_contents-requires : goal.put_contents-requires
unfolding tokens_at
put_contents-requires c =
    let x = c.args in
    let (short, good, seen, printed) = c.requires in
    let most = at_most_twice (normal_characters x.c.mark x.repetition) x.c x.start (drop x.start x.s.now) in
    (omega (arith, short, most, length-drop x.start x.s.now), omega arith, short, good, seen, printed)

pub returns : goal.returns
returns c = omega (arith, c.put_contents.ensures.1)
