-- `held_separators::put_separator` meets its contract: a terminator takes a byte. Assumes nothing.
use mathlib.Core.Path.{sym, ap, ◌∙◌}
use mathlib.Core.List.{[], ◌∷◌}
use native.Mathlib.Omega.{arith}
use lib.ListN.{length}
use Rattle.values.specs.Tokens.{separator}
use Rattle.emission_laws.specs.Emission.{held_next, held_after}
use Rattle.emission_laws.proofs.Steps.{terminator_text, no_text, moved}
use Rattle.held_separators.proofs.put_separator.Goals as goal

pub set-requires : goal.set-requires
set-requires g c = omega (arith, c.requires.0, ap length (terminator_text c.args.c c.args.m.held c.args.rank c.if-rank-eq0.true))

pub returns-then-rank-eq0 : goal.returns-then-rank-eq0
unfolding held_after held_next
returns-then-rank-eq0 g c =
    let m = c.args.m in
    let rank = c.args.rank in
    let text = terminator_text c.args.c m.held rank c.if-rank-eq0.true in (
      c.set.ensures ∙ ap (g.S.Sink.holds c.args.buffer.now m.total) (sym text),
      moved c.args.c m (separator rank 0 ∷ []) (omega (arith, ap length text)) c.after_separator-held.ensures,
    )

pub returns : goal.returns
unfolding held_after held_next
returns g c =
    let m = c.args.m in
    let rank = c.args.rank in
    let text = no_text c.args.c m.held rank c.if-rank-eq0.false in (
      sym (g.met.S.Sink.laws.none c.args.buffer.now m.total) ∙ ap (g.S.Sink.holds c.args.buffer.now m.total) (sym text),
      moved c.args.c m (separator rank 0 ∷ []) (omega (arith, ap length text)) c.after_separator-held.ensures,
    )
