-- Of two texts, one is at most as long as the other, and as long only where it is the other. What passes over breaks is so: a list
-- spelled without breaks after its segments, and what stands after the breaks in front of a text. Assumes nothing.
use Prim.Native.Nat.{ℕ, zero, suc, ◌≤◌}
use mathlib.Core.Path.{◌≡◌, refl, ap, ◌∙◌}
use mathlib.Core.List.{List, [], ◌∷◌, ◌++◌}
use native.Mathlib.Omega.{arith}
use lib.ListN.{length, drop, length-append}
use Rattle.lists.specs.Lists.{gather}
use Rattle.characters.specs.declared.Characters.{Characters}
use Rattle.values.specs.Spelling.{Bytes, SegmentList, spell_segment, spell, spell_apart}

pub record Within (xs ys : Bytes) : Type 0 where
  pub at_most : length xs ≤ length ys
  pub only_where : length xs ≡ length ys → xs ≡ ys

pub within_itself : {xs ys : Bytes} → xs ≡ ys → Within xs ys
within_itself e = record { at_most = omega (arith, ap length e); only_where = λ h. e }

pub within_within : {xs ys zs : Bytes} → Within xs ys → Within ys zs → Within xs zs
within_within p q = record {
  at_most = omega (arith, p.at_most, q.at_most);
  only_where = λ e. p.only_where (omega (arith, p.at_most, q.at_most)) ∙ q.only_where (omega (arith, p.at_most, q.at_most));
}

-- behind the same
pub within_behind : (front : Bytes) {xs ys : Bytes} → Within xs ys → Within (front ++ xs) (front ++ ys)
within_behind front {xs} {ys} p =
    let before = length-append front xs in
    let after = length-append front ys in
    record {
      at_most = omega (arith, p.at_most, before, after);
      only_where = λ e. ap (λ (bs : Bytes). front ++ bs) (p.only_where (omega (arith, before, after)));
    }

-- what follows something
pub end_within : (xs ys : Bytes) → Within ys (xs ++ ys)
end_within [] ys = within_itself refl
end_within (x ∷ xs) ys =
    let whole = length-append (x ∷ xs) ys in
    record { at_most = omega (arith, whole); only_where = λ e. absurd (omega (arith, whole)) }

pub drop_within : (n : ℕ) (xs : Bytes) → Within (drop n xs) xs
drop_within zero xs = within_itself refl
drop_within (suc n) [] = within_itself refl
drop_within (suc n) (x ∷ xs) = within_within (drop_within n xs) (end_within (x ∷ []) xs)

-- a list spelled with nothing after its segments
pub spelling_within : (c : Characters) (list : SegmentList) (between : List Bytes) → Within (spell c list) (spell_apart c list between)
unfolding spell spell_apart gather
spelling_within c [] between = within_itself refl
spelling_within c (g ∷ list) [] = within_behind (spell_segment c g) (spelling_within c list [])
spelling_within c (g ∷ list) (gap ∷ between) =
    within_behind (spell_segment c g) (within_within (spelling_within c list between) (end_within gap (spell_apart c list between)))
