-- Trimming only shortens what is spelled, and leaves it as long only where it takes nothing. Assumes nothing.
use Prim.Native.Nat.{ℕ, zero, suc, ◌+◌, ◌≤◌}
use mathlib.Core.Path.{◌≡◌, refl, sym, ap, ap₂, ◌∙◌}
use mathlib.Core.Bool.{Bool, true, false}
use mathlib.Core.List.{List, [], ◌∷◌, ◌++◌, map}
use native.Mathlib.Omega.{arith}
use lib.ListN.{length, length-append}
use Rattle.lists.specs.Lists.{is_empty, unless_idle, drop_end, trim_end, each_led_by, joined, gather}
use Rattle.nesting.specs.Nesting.{Nest, spelled, idle, trim}
use Rattle.nesting_laws.proofs.Shape.{trim_step}
use Rattle.characters.specs.declared.Characters.{Characters}
use Rattle.values.specs.Spelling.{SegmentList, separator_of, spell_value, spell_repeat, spell_element, spell_segment, spell}
use Rattle.values.specs.Trimming.{trim_repeat, trim_element, trim_segment}
use Rattle.operations.specs.ValueList.{trim_list}

-- what is spelled of g x is at most as long as what is spelled of x, and as long only where g leaves x as it is
pub record Shortens {A : Type 0} (spelled : A → List ℕ) (g : A → A) (x : A) : Type 0 where
  pub at_most : length (spelled (g x)) ≤ length (spelled x)
  pub only_where : length (spelled (g x)) ≡ length (spelled x) → g x ≡ x

module _ {A : Type 0} where
  -- one after the other
  shortens_both : (f : A → List ℕ) (g h : A → A) (x : A) → Shortens f g x → Shortens f h (g x) → Shortens f (λ y. h (g y)) x
  shortens_both f g h x p q = record {
    at_most = omega (arith, p.at_most, q.at_most);
    only_where = λ e. q.only_where (omega (arith, p.at_most, q.at_most)) ∙ p.only_where (omega (arith, p.at_most, q.at_most));
  }

  -- each of several
  gather_shortens : (f : A → List ℕ) (g : A → A) → ((x : A) → Shortens f g x) → (xs : List A) → Shortens (gather f) (map g) xs
  unfolding gather
  gather_shortens f g h [] = record { at_most = omega arith; only_where = λ e. refl }
  gather_shortens f g h (x ∷ xs) =
      let p = h x in
      let q = gather_shortens f g h xs in
      let before = length-append (f (g x)) (gather f (map g xs)) in
      let after = length-append (f x) (gather f xs) in
      record {
        at_most = omega (arith, p.at_most, q.at_most, before, after);
        only_where = λ e.
            ap₂ ◌∷◌ (p.only_where (omega (arith, p.at_most, q.at_most, before, after)))
            (q.only_where (omega (arith, p.at_most, q.at_most, before, after)));
      }

  -- pieces led by a separator are gathered with it
  led_gather : (f : A → List ℕ) (x : ℕ) (xs : List A) → each_led_by x (map f xs) ≡ gather (λ y. x ∷ f y) xs
  unfolding each_led_by gather
  led_gather f x [] = refl
  led_gather f x (y ∷ ys) = ap (λ (l : List ℕ). x ∷ (f y ++ l)) (led_gather f x ys)

  -- what pieces led by a separator come to, and one more in front of them
  abbrev led : (A → List ℕ) → ℕ → List A → List ℕ
  led f x ys = each_led_by x (map f ys)

  led_more : (f : A → List ℕ) (x : ℕ) (y : A) (ys : List A) → length (led f x (y ∷ ys)) ≡ suc (length (f y) + length (led f x ys))
  unfolding each_led_by
  led_more f x y ys = ap suc (length-append (f y) (led f x ys))

  -- an idle end that is dropped was led by a separator each
  idle_shortens : (f : A → List ℕ) (x : ℕ) (b : Bool) (y : A) (zs ys : List A) → length (led f x zs) ≤ length (led f x ys)
      → (length (led f x zs) ≡ length (led f x ys) → zs ≡ ys)
      → (length (led f x (unless_idle b y zs)) ≤ length (led f x (y ∷ ys)))
      × (length (led f x (unless_idle b y zs)) ≡ length (led f x (y ∷ ys)) → unless_idle b y zs ≡ y ∷ ys)
  unfolding unless_idle each_led_by
  idle_shortens f x true y [] ys p q = (omega arith, λ e. absurd (omega (arith, led_more f x y ys)))
  idle_shortens f x true y (z ∷ zs) ys p q = (
    omega (arith, led_more f x y ys, led_more f x y (z ∷ zs)),
    λ e. ap (λ (l : List A). y ∷ l) (q (omega (arith, led_more f x y ys, led_more f x y (z ∷ zs)))),
  )
  idle_shortens f x false y zs ys p q = (
    omega (arith, led_more f x y ys, led_more f x y zs),
    λ e. ap (λ (l : List A). y ∷ l) (q (omega (arith, led_more f x y ys, led_more f x y zs))),
  )

  drop_shortens : (f : A → List ℕ) (x : ℕ) (t : A → Bool) (xs : List A) → Shortens (led f x) (drop_end t) xs
  unfolding drop_end
  drop_shortens f x t [] = record { at_most = omega arith; only_where = λ e. refl }
  drop_shortens f x t (y ∷ ys) =
      let rest = drop_shortens f x t ys in
      let more = idle_shortens f x (t y) y (drop_end t ys) ys rest.at_most rest.only_where in
      record { at_most = more.0; only_where = more.1 }

  -- joined pieces, each shortened, and then without their idle end
  trim_shortens : (f : A → List ℕ) (x : ℕ) (t : A → Bool) (xs : List A) → Shortens (λ ys. joined x (map f ys)) (trim_end t) xs
  unfolding trim_end joined
  trim_shortens f x t [] = record { at_most = omega arith; only_where = λ e. refl }
  trim_shortens f x t (y ∷ ys) =
      let rest = drop_shortens f x t ys in
      let before = length-append (f y) (led f x (drop_end t ys)) in
      let after = length-append (f y) (led f x ys) in
      record {
        at_most = omega (arith, rest.at_most, before, after);
        only_where = λ e. ap (λ (l : List A). y ∷ l) (rest.only_where (omega (arith, before, after)));
      }

  each_shortens : (f : A → List ℕ) (x : ℕ) (g : A → A) → ((y : A) → Shortens f g y) → (xs : List A)
      → Shortens (λ ys. joined x (map f ys)) (map g) xs
  unfolding joined
  each_shortens f x g h [] = record { at_most = omega arith; only_where = λ e. refl }
  each_shortens f x g h (y ∷ ys) =
      let led-each : Shortens (gather (λ z. x ∷ f z)) (map g) ys =
      gather_shortens (λ z. x ∷ f z) g (λ z. record { at_most = omega (arith, (h z).at_most); only_where = λ e. (h z).only_where (omega arith) }) ys in
      let first = h y in
      let before = length-append (f (g y)) (led f x (map g ys)) in
      let after = length-append (f y) (led f x ys) in
      let was = ap length (led_gather f x ys) in
      let is = ap length (led_gather f x (map g ys)) in
      record {
        at_most = omega (arith, first.at_most, led-each.at_most, before, after, was, is);
        only_where = λ e.
            ap₂ ◌∷◌ (first.only_where (omega (arith, first.at_most, led-each.at_most, before, after, was, is)))
            (led-each.only_where (omega (arith, first.at_most, led-each.at_most, before, after, was, is)));
      }

-- both
both_shorten : {A : Type 0} (f : A → List ℕ) (x : ℕ) (g : A → A) → ((y : A) → Shortens f g y) → (t : A → Bool) (xs : List A)
    → Shortens (λ ys. joined x (map f ys)) (λ ys. trim_end t (map g ys)) xs
both_shorten f x g h t xs =
    shortens_both (λ ys. joined x (map f ys)) (map g) (trim_end t) xs (each_shortens f x g h xs) (trim_shortens f x t (map g xs))

-- ---- a part of any depth, a list of segments

module _ (c : Characters) where
  abbrev spelt : (n : ℕ) → Nest (List ℕ) n → List ℕ
  spelt n x = spelled (separator_of c) (spell_value c) n x

  part_shortens : (n : ℕ) (x : Nest (List ℕ) n) → Shortens (spelt n) (trim (List ℕ) is_empty n) x
  part_shortens zero v = record { at_most = omega arith; only_where = λ e. refl }
  part_shortens (suc n) xs =
      let shorter = both_shorten (spelt n) (separator_of c n) (trim (List ℕ) is_empty n) (part_shortens n) (idle (List ℕ) is_empty n) xs in
      let step = trim_step (List ℕ) is_empty n xs in
      record {
        at_most = omega (arith, shorter.at_most, ap (λ (y : Nest (List ℕ) (suc n)). length (spelt (suc n) y)) step);
        only_where = λ e.
            step ∙ shorter.only_where (sym (ap (λ (y : Nest (List ℕ) (suc n)). length (spelt (suc n) y)) step) ∙ e);
      }

  segment_shortens : (segment : List (List (List (List ℕ)))) → Shortens (spell_segment c) (trim_segment is_empty) segment
  unfolding spell_segment spell_element spell_repeat trim_segment trim_element trim_repeat
  segment_shortens segment =
      let shorter = part_shortens 3 segment in
      let ended : (ys : List (List (List (List ℕ)))) → length (spelt 3 ys ++ c.terminator ∷ []) ≡ length (spelt 3 ys) + 1 =
      λ ys. length-append (spelt 3 ys) (c.terminator ∷ []) in
      let trimmed : List (List (List (List ℕ))) = trim (List ℕ) is_empty 3 segment in
      record {
        at_most = omega (arith, shorter.at_most, ended segment, ended trimmed);
        only_where = λ e. shorter.only_where (omega (arith, ended segment, ended trimmed));
      }

  -- what is spelled of a trimmed list is at most as long as what is spelled of the list, and as long only where nothing was trimmed
  pub spelling_shortens : (list : SegmentList) → Shortens (spell c) trim_list list
  unfolding spell trim_list
  spelling_shortens list = gather_shortens (spell_segment c) (trim_segment is_empty) segment_shortens list
