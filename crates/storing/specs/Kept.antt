-- The two sinks keep the laws. Assumes nothing.
use Prim.Native.Nat.{ℕ, suc, ◌+◌}
use mathlib.Core.Path.{◌≡◌, refl, sym, ap, ◌∙◌}
use mathlib.Core.List.{List, [], ◌∷◌, ◌++◌}
use lib.ListN.{length, set}
use lib.Seq.{sets, set-set, length-sets}
use Rattle.storing.specs.Sinks.{SinkLaws}
use native.Mathlib.Nat.{add-zero, add-suc, suc-add}
use Rattle.std.proofs.Common.{lit<}

-- two texts stored one after the other are one text stored
pub sets_append : {A : Type 0} (l : List A) (i : ℕ) (xs ys : List A) → sets l i (xs ++ ys) ≡ sets (sets l i xs) (i + length xs) ys
sets_append l i [] ys = ap (λ (k : ℕ). sets l k ys) (sym (add-zero i))
sets_append l i (x ∷ xs) ys =
    sets_append (set l i x) (suc i) xs ys
    ∙ ap (λ (k : ℕ). sets (sets (set l i x) (suc i) xs) k ys) (suc-add i (length xs) ∙ sym (add-suc i (length xs)))

pub stored_laws : SinkLaws sets length
stored_laws =
    record {
      none = λ l at. refl;
      joined = λ l at front text. sym (sets_append l at front text);
      over = λ l at x b. set-set l at x b;
      same_room = λ l at text. length-sets l at text;
      within = λ l h. h;
    }

pub measured_laws : SinkLaws (λ l at text. l) (λ l. 18446744073709551615)
measured_laws =
    record {
      none = λ l at. refl;
      joined = λ l at front text. refl;
      over = λ l at x b. refl;
      same_room = λ l at text. refl;
      within = λ l h. lit< tt;
    }
