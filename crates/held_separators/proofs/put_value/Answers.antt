-- `held_separators::put_value` meets its contract: what is held back, and the value after it. Assumes nothing.
use Prim.Native.Nat.{ℕ, ◌+◌, ◌<◌}
use mathlib.Core.Path.{◌≡◌, ◌∙◌, sym, ap}
use Rattle.std.proofs.Common.{rules}
use native.Mathlib.Omega.{arith}
use lib.ListN.{length}
use Rattle.values.specs.Spelling.{spell_value}
use Rattle.storing.proofs.Putting.{put_after, room_left}
use Rattle.emission_laws.specs.Emission.{let_out}
use Rattle.emission_laws.proofs.Steps.{moved, let_out_length}
use Rattle.held_separators.specs.Putting.{value_tokens}
use Rattle.held_separators.proofs.Steps.{value_none, value_empty, value_held, value_text, value_length}
use Rattle.held_separators.proofs.put_value.Goals as goal

pub returns-then-is_empty : goal.returns-then-is_empty
returns-then-is_empty g c =
    let value = c.args.value.now in
    let e : length value ≡ 0 = search rules in
    (sym (g.met.S.Sink.laws.none c.args.buffer.now c.args.m.total) ∙ ap (g.S.Sink.holds c.args.buffer.now c.args.m.total) (sym (value_empty c.args.c c.args.m.held value e)), value_none c.args.c c.args.m value e)

pub let_out-at-requires : goal.let_out-at-requires
let_out-at-requires g c =
    let some : 0 < length c.args.value.now = search rules in
    omega (arith, c.requires, value_length c.args.c c.args.m.held c.args.value.now some)

pub put_value-requires : goal.put_value-requires
put_value-requires g c =
    let value = c.args.value.now in
    let m = c.args.m in
    let some : 0 < length value = search rules in
    omega (
      arith,
      c.requires,
      value_length c.args.c m.held value some,
      c.let_out-at.ensures.1,
      room_left g.met.S.Sink.laws c.args.buffer.now m.total (let_out c.args.c m.held) c.let_out-at.ensures.0,
    )

pub returns : goal.returns
returns g c =
    let chars = c.args.c in
    let m = c.args.m in
    let value = c.args.value.now in
    let some : 0 < length value = search rules in
    let place = c.let_out-at.ensures.1 ∙ ap (λ (n : ℕ). m.total + n) (sym (let_out_length chars m.held)) in (
      put_after g.met.S.Sink.laws c.args.buffer.now m.total (let_out chars m.held) (spell_value chars value) c.let_out-at.ensures.0 place c.put_value.ensures.0
          ∙ ap (g.S.Sink.holds c.args.buffer.now m.total) (sym (value_text chars m.held value some)),
      moved chars m (value_tokens value) (omega (arith, c.put_value.ensures.1, c.let_out-at.ensures.1, value_length chars m.held value some))
          (c.nothing_held.ensures ∙ sym (value_held m.held value some)),
    )
