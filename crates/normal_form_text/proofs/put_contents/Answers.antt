-- `normal_form_text::put_contents` meets its contract. The loop's invariant: the body is put up to what is reached. What is left of the input falls.
-- Assumes nothing.
use mathlib.Core.Path.{◌≡◌, sym, ap, ap₂, subst, ◌∙◌}
use mathlib.Core.Bool.{◌&&◌}
use native.Mathlib.Omega.{arith}
use Rattle.characters.specs.declared.Characters.{Characters}
use Rattle.characters.specs.Characters.{six_bytes}
use Rattle.stages.specs.Contents.{normal_characters}
use Rattle.stretches.specs.Stretches.{emitted_at}
use Rattle.unbroken_parts.proofs.Parts.{unbroken_later}
use Rattle.normal_form_text.specs.Put.{PutAt}
use Rattle.normal_form_text.proofs.Parts.{fits_with, put_none, rest_fits, put_more, put_all}
use Rattle.normal_form_text.proofs.put_contents.Goals as goal

pub loop-reached-init : goal.loop-reached-init
loop-reached-init g c =
    let x = c.args in
    put_none g.met.S.Sink.laws x.c c.normal_characters-n.result x.s.now x.buffer.now (record { total = x.from; at = x.start })

pub put_part-reached-requires : goal.put_part-reached-requires
unfolding normal_characters six_bytes
put_part-reached-requires g c =
    let x = c.args in
    let (room, near, short, good, seen, printed) = c.requires in
    let so_far = c.loop-reached.invariant in
    let n = c.normal_characters-n in
    let five : n.result.repetition ≡ x.repetition = ap (λ (k : Characters). k.repetition) n.ensures in
    let enough = fits_with g.S.Sink.room x.c x.s.now x.buffer.now (record { total = x.from; at = x.start }) (sym n.ensures) room in (
      (
        short,
        omega arith,
        omega (arith, so_far.measured.low, so_far.measured.on),
        ap₂ ◌&&◌ c.is_quiet.ensures c.is_quiet-2.ensures,
        rest_fits g.met.S.Sink.laws x.c n.result x.s.now so_far enough,
      ),
      so_far.measured.sound (good, seen),
      n.ensures ∙ ap (normal_characters x.c.mark) (sym five),
      omega (arith, printed, five),
      λ e. unbroken_later x.s.now (c.is_whole-whole.ensures e) so_far.measured.on,
    )

pub loop-reached-smaller : goal.loop-reached-smaller
loop-reached-smaller g c = let on = c.put_part-reached.ensures.1 c.loop-reached-test.true in omega arith

pub loop-reached-preserved : goal.loop-reached-preserved
loop-reached-preserved g c =
    let x = c.args in
    put_more g.met.S.Sink.laws x.c c.normal_characters-n.result x.s.now c.loop-reached.invariant c.put_part-reached.ensures.0

pub returns : goal.returns
returns g c =
    let x = c.args in
    let n = c.normal_characters-n in
    subst (λ (k : Characters). PutAt g.S.Sink.holds x.buffer.now x.from (emitted_at x.c k x.s.now x.start) c.loop-reached.buffer c.loop-reached.reached.total) n.ensures
    (put_all g.met.S.Sink.laws x.c n.result x.s.now c.loop-reached.invariant c.loop-reached-test.false)
