-- `shelf_carrying::carry_up` meets its contract: the move, the pairs, the heading and the two sums. Assumes nothing.
-- eight free bytes and the least size make the other version's least size
use native.Mathlib.Omega.{arith}
use Prim.Native.Nat.{ℕ, ◌+◌, ◌≤◌}
use mathlib.Core.Path.{◌≡◌, ap, ◌∙◌}
use mathlib.Core.List.{List}
use lib.ListN.{length}
use Rattle.numbers.specs.Numbers.{in_bytes}
use Rattle.shelves.specs.Layout.{Layout, version_one, version_two, held, end_of}
use Rattle.shelves.proofs.Sound.{says_sound}
use Rattle.shelf_layout.specs.Laid.{laid}
use Rattle.storing.proofs.Stores.{stored_length}
use Rattle.shelf_carrying.specs.Parts.{shifted_pairs}
use Rattle.shelf_carrying.proofs.Moved.{moved_up, can_shift, up_long, up_done}
use Rattle.shelf_carrying.proofs.carry_up.Goals as goal

room : (s : List ℕ) → end_of version_one s + 8 ≤ length s → 533 ≤ length s
unfolding end_of
room s h = omega arith

held_is : (s : List ℕ) {l : Layout} {h : ℕ} → l ≡ version_one → h ≡ held l s → h ≡ held version_one s
held_is s e f = f ∙ ap (λ (m : Layout). held m s) e

pub map_of-map-requires : goal.map_of-map-requires
map_of-map-requires c =
    let x = c.args in
    let s = x.s.now in
    let known = c.requires in
    let was = (says_sound version_one s).0 known.0 in
    omega (arith, was.least)

pub held-held-requires : goal.held-held-requires
held-held-requires c =
    let x = c.args in
    let s = x.s.now in
    let known = c.requires in
    let was = (says_sound version_one s).0 known.0 in
    omega (arith, was.least, ap (λ (l : Layout). l.pairs) c.version_one.ensures)

pub overflow_sub-end : goal.overflow_sub-end
overflow_sub-end c =
    let x = c.args in
    let s = x.s.now in
    let known = c.requires in
    let was = (says_sound version_one s).0 known.0 in
    omega (arith, was.least)

pub move_up-requires : goal.move_up-requires
move_up-requires c =
    let x = c.args in
    let s = x.s.now in
    let known = c.requires in
    let was = (says_sound version_one s).0 known.0 in
    (omega arith, omega (arith, was.least), omega (arith, was.least))

pub shift_starts-requires : goal.shift_starts-requires
shift_starts-requires c =
    let x = c.args in
    let s = x.s.now in
    let known = c.requires in
    let was = (says_sound version_one s).0 known.0 in
    let moved = c.move_up.ensures in
    let m = moved_up s c.move_up.new.s (room s known.1) moved in
    let one = c.version_one-2.ensures in
    let two = c.version_two.ensures in (
      omega (arith, room s known.1, m.long, ap (λ (l : Layout). l.pairs) two),
      (omega (arith, ap (λ (l : Layout). l.pairs) one), omega (arith, ap (λ (l : Layout). l.pairs) two)),
      can_shift version_one version_two s c.move_up.new.s m was c.map_of-map.ensures one two,
    )

pub put_heading-requires : goal.put_heading-requires
put_heading-requires c =
    let s = c.args.s.now in
    let known = c.requires in
    let m = moved_up s c.move_up.new.s (room s known.1) c.move_up.ensures in
    omega (arith, room s known.1, m.long, stored_length c.move_up.new.s c.version_two.result.pairs (shifted_pairs (laid c.version_one-2.result) (laid c.version_two.result) c.map_of-map.result c.move_up.new.s 64) c.shift_starts.ensures)

pub put-requires : goal.put-requires
put-requires c =
    let known = c.requires in
    let s = c.args.s.now in
    let least = room s known.1 in
    omega (arith, least, up_long s least c.map_of-map.ensures c.version_one-2.ensures c.version_two.ensures c.version_two-2.ensures c.move_up.ensures c.shift_starts.ensures c.put_heading.ensures)

pub put-requires-2 : goal.put-requires-2
put-requires-2 c =
    let known = c.requires in
    let s = c.args.s.now in
    let least = room s known.1 in
    let long = up_long s least c.map_of-map.ensures c.version_one-2.ensures c.version_two.ensures c.version_two-2.ensures c.move_up.ensures c.shift_starts.ensures c.put_heading.ensures in
    omega (arith, least, long, stored_length c.put_heading.new.s 13 (in_bytes 4 c.held-held.result) c.put.ensures)

pub returns : goal.returns
returns c =
    let x = c.args in
    let s = x.s.now in
    let known = c.requires in
    let was = (says_sound version_one s).0 known.0 in
    up_done s (room s known.1) c.map_of-map.ensures (held_is s c.version_one.ensures c.held-held.ensures.0) c.version_one-2.ensures c.version_two.ensures c.version_two-2.ensures c.move_up.ensures c.shift_starts.ensures c.put_heading.ensures c.put.ensures c.put-2.ensures
