-- `stage_segments::past_segment` meets its contract: what the scanner says, and then the tag. Assumes nothing.
use mathlib.Core.Path.{refl, sym, subst, ◌∙◌}
use Rattle.scanner.specs.declared.Scanned.TheVariants.{Ended, Stray, Unended}
use Rattle.scanner.proofs.Scanning.{scans_as}
use Rattle.stage_segments.specs.Segment.{Passes}
use Rattle.stage_segments.proofs.past_segment.Goals as goal

pub returns-then-tag_holds : goal.returns-then-tag_holds
returns-then-tag_holds c = (scans_as _ _ _ c.scan.ensures c.in-Ended.is, sym c.tag_holds.ensures ∙ c.if-tag_holds.true)

pub returns-else-tag_holds : goal.returns-else-tag_holds
returns-else-tag_holds c =
    let x = c.args in
    subst (Passes x.c x.s.now x.at) (sym c.failed.ensures)
    (Ended c.in-Ended.next, scans_as _ _ _ c.scan.ensures c.in-Ended.is, (sym c.tag_holds.ensures ∙ c.if-tag_holds.false, refl))

pub returns-in-Stray : goal.returns-in-Stray
returns-in-Stray c =
    let x = c.args in
    subst (Passes x.c x.s.now x.at) (sym c.failed-in-Stray.ensures)
    (Stray c.in-Stray.place, scans_as _ _ _ c.scan.ensures c.in-Stray.is, refl)

pub returns-in-Unended : goal.returns-in-Unended
returns-in-Unended c =
    let x = c.args in
    subst (Passes x.c x.s.now x.at) (sym c.failed-in-Unended.ensures)
    (Unended, scans_as _ _ _ c.scan.ensures c.in-Unended.is, refl)
