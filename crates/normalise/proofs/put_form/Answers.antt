-- `normalise::put_form` meets its contract: the advice and the contents are stored, and end where the normal form does. Assumes nothing.
-- what is stored after the advice
use Prim.Native.Nat.{ℕ, ◌+◌, ◌≤◌}
use mathlib.Core.Path.{◌≡◌, refl}
use mathlib.Core.List.{List}
use native.Mathlib.Omega.{arith}
use lib.Dec.{lit≤}
use lib.ListN.{length}
use Rattle.characters.specs.declared.Characters.{Characters}
use Rattle.characters.specs.Characters.{advice_of, body_start}
use Rattle.values.specs.Tokens.{tokens_at}
use Rattle.stages.specs.Contents.{normal_characters, normal_form}
use Rattle.emission_laws.specs.Emission.{nothing, emitted}
use Rattle.storing.proofs.Stores.{stored_length}
use Rattle.normalise.proofs.Storing.{spellable, form_is, form_stored, parts_fit, parts_end}
use Rattle.normalise.proofs.put_form.Goals as goal

abbrev spelled : Characters → Characters → List ℕ → ℕ → List ℕ
spelled c n s start = emitted (normal_characters c.mark n.repetition) nothing (tokens_at c s start)

pub put_advice-requires : goal.put_advice-requires
put_advice-requires c =
    let x = c.args in
    let (a, d, room) = c.requires in
    let s = x.s.now in
    let n = c.spelled_with-n in
    (parts_fit n.result (spelled x.c n.result s (body_start s)) (form_is x.buffer.now s a d refl n.ensures) refl room).0

pub put_contents-requires : goal.put_contents-requires
put_contents-requires c =
    let x = c.args in
    let (a, d, room) = c.requires in
    let s = x.s.now in
    let n = c.spelled_with-n in
    let start = c.body_start in
    let same = stored_length x.buffer.now 0 (advice_of n.result) c.put_advice.ensures in
    let fits = parts_fit n.result (spelled x.c n.result s start.result) (form_is x.buffer.now s a d start.ensures n.ensures) refl room in
    let there : 9 + length (spelled x.c n.result s start.result) ≤ length c.put_advice.new.buffer = omega arith in
    let (short, sound, seen, high) = spellable s a d start.ensures n.ensures in
    (there, lit≤ tt, short, sound, seen, high)

pub returns : goal.returns
returns c =
    let x = c.args in
    let (a, d, room) = c.requires in
    let s = x.s.now in
    let n = c.spelled_with-n in
    let start = c.body_start in
    let advice = c.put_advice in
    let put = c.put_contents in
    let text = spelled x.c n.result s start.result in
    let form = form_is x.buffer.now s a d start.ensures n.ensures in
    let long : put.result ≡ length (normal_form s) = parts_end n.result text form put.ensures.1 in
    form_stored x.buffer.now s a n.result text advice.new.buffer put.new.buffer long (omega arith) form advice.ensures put.ensures.0
