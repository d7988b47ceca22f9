-- One level of trimming, read from the left: a list is cut into pieces, each is read and spelled, idle ones at the end go, and
-- the others are joined by a separator. So are an element's values, and a segment's elements. Assumes nothing.
use Rattle.std.specs.Prelude.{if◌then◌else◌}
use Prim.Native.Nat.{ℕ}
use mathlib.Core.Path.{◌≡◌, refl, sym, ap, ◌∙◌}
use mathlib.Core.Bool.{Bool}
use mathlib.Core.List.{List, [], ◌∷◌, ◌++◌, map}
use Rattle.lists.specs.Lists.{is_empty, through, cut, unless_idle, drop_end, trim_end, each_led_by, joined, beyond}
use Rattle.lists.proofs.Pieces.{cut_first}
use Rattle.emission_laws.proofs.Runs.{held}

-- the pieces, trimmed and spelled
unfoldable pub whole : {T A : Type 0} → (T → Bool) → (List T → A) → (A → Bool) → (A → List ℕ) → ℕ → List T → List ℕ
whole ends read idle spelled x ts = joined x (map spelled (trim_end idle (map read (cut ends ts))))

module _ {A : Type 0} (idle : A → Bool) (spelled : A → List ℕ) (x : ℕ) where
  -- the separator in front of a piece stays, unless the piece and all after it are empty
  spelled_after : (a : A) (rest : List A) → idle a ≡ is_empty (spelled a)
      → each_led_by x (map spelled (unless_idle (idle a) a rest)) ≡ held 1 x (spelled a ++ each_led_by x (map spelled rest))
  unfolding each_led_by unless_idle held is_empty
  spelled_after a rest h = ap (λ (b : Bool). each_led_by x (map spelled (unless_idle b a rest))) h ∙ step (spelled a) refl rest
    where
      step : (s : List ℕ) → spelled a ≡ s → (rest : List A)
          → each_led_by x (map spelled (unless_idle (is_empty s) a rest)) ≡ held 1 x (s ++ each_led_by x (map spelled rest))
      step [] e [] = refl
      step [] e (r ∷ rs) = ap (λ (l : List ℕ). x ∷ (l ++ each_led_by x (map spelled (r ∷ rs)))) e
      step (y ∷ ys) e rest = ap (λ (l : List ℕ). x ∷ (l ++ each_led_by x (map spelled rest))) e

  module _ {T : Type 0} (ends : T → Bool) (read : List T → A)
      (nothing : spelled (read []) ≡ []) (blank : (t : T) (ts : List T) → idle (read (t ∷ ts)) ≡ is_empty (spelled (read (t ∷ ts)))) where
    -- the pieces after another one are held back as one
    all_after : (ts : List T) → each_led_by x (map spelled (drop_end idle (map read (cut ends ts)))) ≡ held 1 x (whole ends read idle spelled x ts)
    unfolding whole cut through joined each_led_by trim_end drop_end held
    all_after [] = refl
    all_after (t ∷ ts) =
        ap (λ (ps : List (List T)). each_led_by x (map spelled (drop_end idle (map read ps)))) (cut_first ends t ts)
        ∙ spelled_after
        (read (through ends (t ∷ ts)))
        (drop_end idle (map read (cut ends (beyond ends (t ∷ ts)))))
        (blank t (if ends t then [] else through ends ts))
        ∙ ap (λ (ps : List (List T)). held 1 x (joined x (map spelled (trim_end idle (map read ps))))) (sym (cut_first ends t ts))

    -- the whole is the first piece and, held back after it, the whole of what follows
    pub whole_step : (ts : List T)
        → whole ends read idle spelled x ts ≡ spelled (read (through ends ts)) ++ held 1 x (whole ends read idle spelled x (beyond ends ts))
    unfolding whole cut through beyond joined each_led_by trim_end drop_end held
    whole_step [] = sym (ap (λ (l : List ℕ). l ++ []) nothing)
    whole_step (t ∷ ts) =
        ap (λ (ps : List (List T)). joined x (map spelled (trim_end idle (map read ps)))) (cut_first ends t ts)
        ∙ ap (λ (l : List ℕ). spelled (read (through ends (t ∷ ts))) ++ l) (all_after (beyond ends (t ∷ ts)))
