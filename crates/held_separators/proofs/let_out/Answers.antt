-- `held_separators::let_out` meets its contract: three runs, one after the other, and nothing where nothing is held back. Assumes nothing.
use mathlib.Core.Path.{◌≡◌, sym, ap, ◌∙◌}
use mathlib.Core.List.{[], ◌++◌, append_assoc}
use native.Mathlib.Omega.{arith}
use lib.ListN.{replicate, length-append, length-replicate, drop_of_length-le}
use Rattle.characters.specs.declared.Characters.{Characters}
use Rattle.storing.proofs.Putting.{put_after}
use Rattle.emission_laws.specs.declared.Held.{Held}
use Rattle.emission_laws.specs.Emission.{waiting, let_out}
use Rattle.emission_laws.proofs.Steps.{let_out_length}
use Rattle.held_separators.proofs.let_out.Goals as goal

-- where none is held back, none is let out
none_out : (c : Characters) (h : Held) → waiting h ≡ 0 → let_out c h ≡ []
none_out c h e = drop_of_length-le (let_out c h) {i = 0} (omega (arith, let_out_length c h))

pub returns-then-end-at : goal.returns-then-end-at
returns-then-end-at g c =
    let args = c.args in
    let none = none_out args.c args.h (omega arith) in
    (sym (g.met.S.Sink.laws.none args.buffer.now args.at) ∙ ap (g.S.Sink.holds args.buffer.now args.at) (sym none), omega arith)

pub returns : goal.returns
unfolding let_out
returns g c =
    let laws = g.met.S.Sink.laws in
    let args = c.args in
    let h = args.h in
    let elements = replicate h.elements args.c.element in
    let repeats = replicate h.repeats args.c.repetition in
    let components = replicate h.components args.c.component in
    let front =
    put_after laws args.buffer.now args.at elements repeats c.fill.ensures (omega (arith, length-replicate h.elements args.c.element)) c.fill-2.ensures in (
      put_after laws args.buffer.now args.at (elements ++ repeats) components front (simp (length-append, length-replicate) (omega arith)) c.fill-3.ensures
          ∙ ap (g.S.Sink.holds args.buffer.now args.at) (append_assoc elements repeats components),
      omega arith,
    )
