-- `storing::put_byte` meets its contract: the byte is put after the release character, or in its place. Assumes nothing.
use native.Mathlib.Omega.{arith}
use mathlib.Core.List.{[], ◌∷◌}
use Rattle.storing.proofs.Stores.{spelled_length}
use Rattle.storing.proofs.Putting.{byte_put, room_left}
use Rattle.storing.proofs.put_byte.Goals as goal

pub overflow_add-last : goal.overflow_add-last
overflow_add-last g c =
    let laws = g.met.S.Sink.laws in
    record { fits = omega (arith, c.requires, laws.within c.args.buffer.now (omega arith), spelled_length c.args.c c.args.b c.is_service.ensures) }

pub set-requires : goal.set-requires
set-requires g c = omega (arith, c.requires, spelled_length c.args.c c.args.b c.is_service.ensures)

pub set-requires-2 : goal.set-requires-2
set-requires-2 g c =
    omega (
      arith,
      c.requires,
      spelled_length c.args.c c.args.b c.is_service.ensures,
      room_left g.met.S.Sink.laws c.args.buffer.now c.args.at (c.args.c.release ∷ []) c.set.ensures,
    )

pub overflow_add-result : goal.overflow_add-result
overflow_add-result g c =
    let laws = g.met.S.Sink.laws in
    record { fits = omega (arith, c.requires, laws.within c.args.buffer.now (omega arith), spelled_length c.args.c c.args.b c.is_service.ensures) }

pub returns : goal.returns
returns g c =
    let b = c.args.b in
    let service = c.is_service.ensures in (
      byte_put g.met.S.Sink.laws c.args.c b service c.args.buffer.now c.args.at c.set.ensures c.set-2.ensures,
      omega (arith, spelled_length c.args.c b service),
    )
