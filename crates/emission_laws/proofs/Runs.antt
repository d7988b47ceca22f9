-- Separators held back in front of a text: they stand there, unless the text is empty. Assumes nothing.
use Prim.Native.Nat.{ℕ, ◌+◌}
use mathlib.Core.Path.{◌≡◌, refl, sym, ap, ◌∙◌}
use mathlib.Core.Bool.{false, true≢false}
use mathlib.Core.List.{List, [], ◌∷◌, ◌++◌, append_assoc}
use lib.ListN.{replicate, replicate-append-replicate}
use Rattle.lists.specs.Lists.{is_empty}

-- n times x in front of a text, unless nothing follows
unfoldable pub held : ℕ → ℕ → List ℕ → List ℕ
held n x [] = []
held n x (y ∷ ys) = replicate n x ++ y ∷ ys

pub held_none : (x : ℕ) (ys : List ℕ) → held 0 x ys ≡ ys
unfolding held
held_none x [] = refl
held_none x (y ∷ ys) = refl

-- one more after those that are held back
pub held_more : (n x : ℕ) (ys : List ℕ) → held n x (held 1 x ys) ≡ held (n + 1) x ys
unfolding held
held_more n x [] = refl
held_more n x (y ∷ ys) =
    sym (append_assoc (replicate n x) (x ∷ []) (y ∷ ys)) ∙ ap (λ (l : List ℕ). l ++ y ∷ ys) (replicate-append-replicate n 1 x)

-- they stay in front of a text that is not empty
pub held_full : (n x : ℕ) (ys : List ℕ) → is_empty ys ≡ false → held n x ys ≡ replicate n x ++ ys
unfolding held is_empty
held_full n x [] h = absurd (true≢false h)
held_full n x (y ∷ ys) h = refl
