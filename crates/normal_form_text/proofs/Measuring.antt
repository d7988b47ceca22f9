-- A body measured part by part: a stretch, a part without empty ends, and one part after another. Assumes nothing.
use Prim.Native.Nat.{ℕ, ◌+◌, ◌-◌, ◌≤◌}
use mathlib.Core.Path.{◌≡◌, refl, ap, ◌∙◌}
use mathlib.Core.List.{List}
use native.Mathlib.Omega.{arith}
use lib.ListN.{length, take, drop, length-append, length-drop}
use lib.Seq.{length-take-le}
use Rattle.characters.specs.declared.Characters.{Characters}
use Rattle.stages.specs.Contents.{normal_characters}
use Rattle.line_breaks.specs.Unbroken.{unbroken}
use Rattle.line_breaks.proofs.Unbroken.{unbroken_most}
use Rattle.verbatim.specs.Verbatim.{Sound}
use Rattle.clear_parts.specs.Clear.{ClearPart}
use Rattle.stretches.specs.declared.Reached.{Reached}
use Rattle.stretches.specs.Stretches.{emitted_at, Stretch}
use Rattle.normal_form_text.specs.Measured.{Measured}
use Rattle.normal_form_text.proofs.Lengths.{stretch_length}

module _ (c n : Characters) (s : List ℕ) where
  -- nothing is passed yet
  pub measured_none : (r : Reached) → Measured c n s r r
  measured_none r = record { counted = refl; low = omega arith; on = omega arith; inside = λ i. i; sound = λ o. o }

  -- one part after another
  pub measured_more : {from mid to : Reached} → Measured c n s from mid → Measured c n s mid to → Measured c n s from to
  measured_more p q =
      record {
        counted = p.counted ∙ q.counted;
        low = omega (arith, p.low, q.low, p.on, q.on);
        on = omega (arith, p.on, q.on);
        inside = λ i. q.inside (p.inside i);
        sound = λ o. q.sound (p.sound o);
      }

  -- a stretch counts its bytes
  pub stretch_measured : {from r : Reached} → Stretch c n s from.at r.at → r.total ≡ from.total + (r.at - from.at) → Measured c n s from r
  stretch_measured st e =
      record {
        counted = omega (arith, stretch_length n c s st);
        low = omega arith;
        on = st.0;
        inside = st.1;
        sound = st.3;
      }

-- a part without empty ends counts its bytes without the line breaks
pub clear_measured : (c : Characters) (repetition : ℕ) (s : List ℕ) {from r : Reached} → ClearPart c repetition s from.at r.at
    → Sound c s from.at → from.at ≤ length s → r.total ≡ from.total + length (unbroken (drop from.at (take r.at s)))
    → Measured c (normal_characters c.mark repetition) s from r
clear_measured c repetition s {from} {r} (l, m, part) o i e =
    let (same, after) = part o in
    let bytes = drop from.at (take r.at s) in
    let n = normal_characters c.mark repetition in
    record {
      counted = omega (arith, ap length same, length-append (unbroken bytes) (emitted_at c n s r.at));
      low = omega (arith, unbroken_most bytes, length-drop from.at (take r.at s), length-take-le r.at s (m i));
      on = l;
      inside = m;
      sound = λ w. after;
    }
