-- `shelf_carrying::carry_down` meets its contract: the move, the pairs and the heading. Assumes nothing.
use native.Mathlib.Omega.{arith}
use mathlib.Core.Path.{ap}
use Rattle.shelves.specs.Layout.{Layout, version_one, version_two}
use Rattle.shelves.proofs.Sound.{says_sound}
use Rattle.shelf_layout.specs.Laid.{laid}
use Rattle.storing.proofs.Stores.{stored_length}
use Rattle.shelf_carrying.specs.Parts.{shifted_pairs}
use Rattle.shelf_carrying.proofs.Moved.{moved_down, can_shift, down_done}
use Rattle.shelf_carrying.proofs.carry_down.Goals as goal

pub map_of-map-requires : goal.map_of-map-requires
map_of-map-requires c =
    let x = c.args in
    let s = x.s.now in
    let known = c.requires in
    let was = (says_sound version_two s).0 known in
    omega (arith, was.least)

pub move_down-requires : goal.move_down-requires
move_down-requires c =
    let x = c.args in
    let s = x.s.now in
    let known = c.requires in
    let was = (says_sound version_two s).0 known in
    (omega arith, omega (arith, was.least), omega arith)

pub shift_starts-requires : goal.shift_starts-requires
shift_starts-requires c =
    let x = c.args in
    let s = x.s.now in
    let known = c.requires in
    let was = (says_sound version_two s).0 known in
    let m = moved_down s c.move_down.new.s was.least c.move_down.ensures in
    let one = c.version_one.ensures in
    let two = c.version_two.ensures in (
      omega (arith, was.least, m.long, ap (λ (l : Layout). l.pairs) one),
      (omega (arith, ap (λ (l : Layout). l.pairs) two), omega (arith, ap (λ (l : Layout). l.pairs) one)),
      can_shift version_two version_one s c.move_down.new.s m was c.map_of-map.ensures two one,
    )

pub put_heading-requires : goal.put_heading-requires
put_heading-requires c =
    let s = c.args.s.now in
    let was = (says_sound version_two s).0 c.requires in
    let m = moved_down s c.move_down.new.s was.least c.move_down.ensures in
    omega (arith, was.least, m.long, stored_length c.move_down.new.s c.version_one.result.pairs (shifted_pairs (laid c.version_two.result) (laid c.version_one.result) c.map_of-map.result c.move_down.new.s 64) c.shift_starts.ensures)

pub returns : goal.returns
returns c =
    let x = c.args in
    let s = x.s.now in
    let known = c.requires in
    let was = (says_sound version_two s).0 known in
    down_done s was.least c.map_of-map.ensures c.version_two.ensures c.version_one.ensures c.version_one-2.ensures c.move_down.ensures c.shift_starts.ensures c.put_heading.ensures
