-- A shelf put together from its parts: heading, map, sums, pairs, and what stands behind them. Assumes nothing.
use Prim.Native.Nat.{ℕ, ◌+◌, ◌≤◌}
use mathlib.Core.Path.{◌≡◌, sym, ap, ap₂, ◌∙◌}
use mathlib.Core.List.{List, ◌++◌}
use lib.ListN.{length, take, drop, take-append-drop}
use lib.Seq.{take-take, drop-drop}
use Rattle.numbers.proofs.Stores.{part_cut}

-- a part of a front is a part of the whole
pub part_front : (n w m : ℕ) (xs : List ℕ) → n + w ≤ m → take w (drop n (take m xs)) ≡ take w (drop n xs)
part_front n w m xs h = part_cut n w (take m xs) ∙ ap (drop n) (take-take (n + w) m xs h) ∙ sym (part_cut n w xs)

pub assembled : (x heading map sums pairs behind : List ℕ) → take 5 x ≡ heading → take 8 (drop 5 x) ≡ map → take (length sums) (drop 13 x) ≡ sums
    → take 512 (drop (13 + length sums) x) ≡ pairs → drop (13 + length sums + 512) x ≡ behind
    → x ≡ heading ++ (map ++ (sums ++ (pairs ++ behind)))
assembled x heading map sums pairs behind a b c d e =
    let n = length sums in
    let from_pairs : drop (13 + n) x ≡ pairs ++ behind =
    sym (take-append-drop 512 (drop (13 + n) x)) ∙ ap₂ (λ (y z : List ℕ). y ++ z) d (drop-drop 512 (13 + n) x ∙ e) in
    let from_sums : drop 13 x ≡ sums ++ (pairs ++ behind) =
    sym (take-append-drop n (drop 13 x)) ∙ ap₂ (λ (y z : List ℕ). y ++ z) c (drop-drop n 13 x ∙ from_pairs) in
    let from_map : drop 5 x ≡ map ++ (sums ++ (pairs ++ behind)) =
    sym (take-append-drop 8 (drop 5 x)) ∙ ap₂ (λ (y z : List ℕ). y ++ z) b (drop-drop 8 5 x ∙ from_sums) in
    sym (take-append-drop 5 x) ∙ ap₂ (λ (y z : List ℕ). y ++ z) a from_map
