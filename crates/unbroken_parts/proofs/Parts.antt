-- A part of a text that has no line breaks stands as it is without them. Assumes nothing.
use Prim.Native.Nat.{ℕ, zero, suc, ◌+◌, ◌≤◌}
use mathlib.Core.Path.{◌≡◌, sym, ap, ◌∙◌}
use mathlib.Core.List.{List, ◌∷◌}
use native.Mathlib.Omega.{arith}
use lib.Dec.{leb}
use lib.ListN.{length, get_or, take, drop}
use lib.Seq.{slice, slice-cons, slice_empty}
use Rattle.lists.specs.Lists.{those}
use Rattle.lists.proofs.Texts.{if_true}
use Rattle.line_breaks.specs.Unbroken.{unbroken}
use Rattle.unbroken_parts.specs.Parts.{Unbroken}

-- from a place on it has none from a later one on either
pub unbroken_later : (s : List ℕ) {from to : ℕ} → Unbroken s from → from ≤ to → Unbroken s to
unbroken_later s u l k m h = u k (omega arith) h

pub unbroken_part : (s : List ℕ) (count from : ℕ) {to : ℕ} → from + count ≡ to → to ≤ length s → Unbroken s from
    → unbroken (drop from (take to s)) ≡ drop from (take to s)
unfolding unbroken those
unbroken_part s zero from {to} e i u =
    let there : from ≡ to = omega arith in
    let none = ap (λ (t : ℕ). drop from (take t s)) (sym there) ∙ slice_empty from s in
    ap unbroken none ∙ sym none
unbroken_part s (suc count) from {to} e i u =
    let first = slice-cons from to s 0 (omega arith) i in
    ap unbroken first
    ∙ if_true (leb 32 (get_or s from 0)) (get_or s from 0 ∷ unbroken (slice (suc from) to s)) (unbroken (slice (suc from) to s)) (u from (omega arith) (omega arith))
    ∙ ap (λ (l : List ℕ). get_or s from 0 ∷ l) (unbroken_part s count (suc from) (omega arith) i (λ k m h. u k (omega arith) h))
    ∙ sym first
