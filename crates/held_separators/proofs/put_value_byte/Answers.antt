-- `held_separators::put_value_byte` meets its contract: what is held back, and the byte after it. Assumes nothing.
use Prim.Native.Nat.{ℕ, ◌+◌}
use mathlib.Core.Path.{sym, ap, ◌∙◌}
use mathlib.Core.List.{[], ◌∷◌}
use native.Mathlib.Omega.{arith}
use Rattle.values.specs.Spelling.{spell_byte}
use Rattle.storing.proofs.Putting.{put_after, room_left}
use Rattle.emission_laws.specs.Emission.{held_next, held_after, let_out}
use Rattle.emission_laws.proofs.Steps.{let_out_length, byte_text_lem, byte_length, moved}
use Rattle.held_separators.specs.Putting.{value_byte}
use Rattle.held_separators.proofs.put_value_byte.Goals as goal

pub let_out-at-requires : goal.let_out-at-requires
let_out-at-requires g c = omega (arith, c.requires, byte_length c.args.c c.args.m.held c.args.b)

pub put_byte-requires : goal.put_byte-requires
put_byte-requires g c =
    let chars = c.args.c in
    let m = c.args.m in
    omega (
      arith,
      c.requires,
      byte_length chars m.held c.args.b,
      c.let_out-at.ensures.1,
      room_left g.met.S.Sink.laws c.args.buffer.now m.total (let_out chars m.held) c.let_out-at.ensures.0,
    )

pub returns : goal.returns
unfolding held_after held_next
returns g c =
    let chars = c.args.c in
    let m = c.args.m in
    let b = c.args.b in
    let buffer = c.args.buffer.now in
    let place = c.let_out-at.ensures.1 ∙ ap (λ (n : ℕ). m.total + n) (sym (let_out_length chars m.held)) in (
      put_after g.met.S.Sink.laws buffer m.total (let_out chars m.held) (spell_byte chars b) c.let_out-at.ensures.0 place c.put_byte.ensures.0
          ∙ ap (g.S.Sink.holds buffer m.total) (sym (byte_text_lem chars m.held b)),
      moved chars m (value_byte b ∷ []) (omega (arith, c.put_byte.ensures.1, c.let_out-at.ensures.1, byte_length chars m.held b)) c.nothing_held.ensures,
    )
