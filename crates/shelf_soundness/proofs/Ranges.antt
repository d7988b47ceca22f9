-- A slot's pair and text, from the numbers that were read. Assumes nothing.
use Prim.Native.Nat.{ℕ, ◌+◌, ◌≤◌}
use mathlib.Core.Path.{◌≡◌, sym, ap, ap₂, ◌∙◌}
use mathlib.Core.Bool.{Bool, true, false, not, ◌&&◌, ◌||◌}
use mathlib.Core.List.{List}
use native.Mathlib.Omega.{arith}
use lib.Dec.{eqb, leb}
use lib.ListN.{length, drop, length-drop}
use lib.Seq.{length-take-le}
use Rattle.lists.specs.Lists.{same}
use Rattle.lists.proofs.Texts.{if_true, if_false, same_length}
use Rattle.lists.proofs.Tests.{fails, says_same}
use Rattle.shelves.specs.Layout.{Layout, total, base, is_occupied, start_of, length_of, text_of, end_of}
use Rattle.shelves.specs.Soundness.{is_normal_form, lies, apart, differ, is_blank_pair}
use Rattle.shelf_soundness.specs.Clauses.{placed, sum_in, parted, formed}

module _ (l : Layout) (s : List ℕ) where
  module _ (k : ℕ) where
    -- ---- its pair

    pub placed_kept : is_occupied s k ≡ true → {b a n e : ℕ} → b ≡ base l → a ≡ start_of l s k → n ≡ length_of l s k → e ≡ end_of l s
        → (leb b a && leb (a + n) e) ≡ placed l s k
    unfolding placed lies
    placed_kept o p q r t =
        ap₂ ◌&&◌ (ap₂ leb p q) (ap₂ leb (ap₂ ◌+◌ q r) t) ∙ sym (if_true (is_occupied s k) (lies l s k) (is_blank_pair l s k) o)

    pub placed_free : is_occupied s k ≡ false → {a n : ℕ} → a ≡ start_of l s k → n ≡ length_of l s k → (eqb a 0 && eqb n 0) ≡ placed l s k
    unfolding placed is_blank_pair
    placed_free o q r =
        ap₂ ◌&&◌ (ap (λ (x : ℕ). eqb x 0) q) (ap (λ (x : ℕ). eqb x 0) r)
        ∙ sym (if_false (is_occupied s k) (lies l s k) (is_blank_pair l s k) o)

    -- ---- its text

    pub text_length : start_of l s k + length_of l s k ≤ length s → length (text_of l s k) ≡ length_of l s k
    unfolding text_of
    text_length h = length-take-le (length_of l s k) (drop (start_of l s k) s) (omega (arith, length-drop (start_of l s k) s))

    pub sum_kept : is_occupied s k ≡ true → total (text_of l s k) ≡ sum_in l s k
    unfolding sum_in
    sum_kept o = sym (if_true (is_occupied s k) (total (text_of l s k)) 0 o)

    pub sum_free : is_occupied s k ≡ false → 0 ≡ sum_in l s k
    unfolding sum_in
    sum_free o = sym (if_false (is_occupied s k) (total (text_of l s k)) 0 o)

    pub formed_kept : is_occupied s k ≡ true → is_normal_form (text_of l s k) ≡ formed l s k
    unfolding formed
    formed_kept o = sym (if_true (is_occupied s k) (is_normal_form (text_of l s k)) true o)

    pub formed_free : is_occupied s k ≡ false → true ≡ formed l s k
    unfolding formed
    formed_free o = sym (if_false (is_occupied s k) (is_normal_form (text_of l s k)) true o)

  -- ---- two texts

  module _ (j k : ℕ) where
    -- texts of different lengths, or of different sums
    pub lengths_differ : start_of l s j + length_of l s j ≤ length s → start_of l s k + length_of l s k ≤ length s
        → (length_of l s j ≡ length_of l s k → ⊥) → false ≡ same (text_of l s j) (text_of l s k)
    lengths_differ g h d =
        sym (same_length (text_of l s j) (text_of l s k) (λ e. d (sym (text_length j g) ∙ e ∙ text_length k h)))

    pub sums_differ : is_occupied s j ≡ true → is_occupied s k ≡ true → {a b : ℕ} → a ≡ sum_in l s j → b ≡ sum_in l s k → (a ≡ b → ⊥)
        → false ≡ same (text_of l s j) (text_of l s k)
    sums_differ o q {a} {b} e f d =
        sym ((fails (same (text_of l s j) (text_of l s k)) (says_same (text_of l s j) (text_of l s k))).1
        (λ same_text. d (e ∙ sym (sum_kept j o) ∙ ap total same_text ∙ sum_kept k q ∙ sym f)))

    pub apart_is : {a b n m : ℕ} → a ≡ start_of l s j → b ≡ start_of l s k → n ≡ length_of l s j → m ≡ length_of l s k
        → (leb (a + n) b || leb (b + m) a) ≡ apart l s j k
    unfolding apart
    apart_is p q r t = ap₂ ◌||◌ (ap₂ leb (ap₂ ◌+◌ p r) q) (ap₂ leb (ap₂ ◌+◌ q t) p)

    pub parted_free : is_occupied s k ≡ false → true ≡ parted l s j k
    unfolding parted
    parted_free o = sym (if_false (is_occupied s k) (apart l s j k && differ l s j k) true o)

    pub parted_near : is_occupied s k ≡ true → {r : Bool} → r ≡ apart l s j k → r ≡ false → false ≡ parted l s j k
    unfolding parted
    parted_near o e f =
        ap (λ (t : Bool). t && differ l s j k) (sym f ∙ e) ∙ sym (if_true (is_occupied s k) (apart l s j k && differ l s j k) true o)

    pub parted_far : is_occupied s k ≡ true → {r t : Bool} → r ≡ apart l s j k → r ≡ true → t ≡ same (text_of l s j) (text_of l s k)
        → not t ≡ parted l s j k
    unfolding parted differ
    parted_far o e f g =
        ap not g
        ∙ ap (λ (t : Bool). t && not (same (text_of l s j) (text_of l s k))) (sym f ∙ e)
        ∙ sym (if_true (is_occupied s k) (apart l s j k && differ l s j k) true o)
