-- What the definitions say in numbers: both levels as ranges of byte values, and which level UNB names. Assumes nothing.
use Rattle.std.specs.Prelude.{if◌then◌else◌}
use Prim.Native.Nat.{ℕ, ◌≤◌}
use mathlib.Core.Path.{◌≡◌, refl, sym, ap, ◌∙◌}
use mathlib.Core.Bool.{Bool, true, false, not, ◌&&◌, ◌||◌, and-false, false≢true}
use mathlib.Core.List.{List, [], ◌∷◌, nil≢cons, cons≢nil, head-eq_of_cons-eq, tail-eq_of_cons-eq}
use mathlib.Core.Option.{Option, none, some, none-ne-some, some-injective}
use mathlib.Core.Logic.{◌⊎◌, inl, inr, ⊎_elim, ◌↔◌}
use native.Mathlib.Omega.{arith}
use lib.Dec.{eqb, leb}
use Rattle.lists.specs.Lists.{text, same, member, all, at, single, maybe}
use Rattle.lists.proofs.Texts.{if_true, if_false}
use Rattle.lists.proofs.Tests.{Says, says_as, says_eq, says_both, says_either, says_all, says_member, says_same, all_from, tested_from}
use Rattle.characters.specs.declared.Characters.{Characters}
use Rattle.characters.specs.Characters.{between, upper, lower, digit, has_repetition}
use Rattle.characters.proofs.Words.{between_says, upper_says, lower_says, digit_says}
use Rattle.values.specs.Tokens.{Segment}
use Rattle.values.specs.Trimming.{contents_of}
use Rattle.values.specs.Spelling.{SegmentList}
use Rattle.levels.specs.Levels.{in_level_a, in_level_b, class_of, level_named, in_level, syntax_identifier, is_version4, is_old_version, is_our_version, level_in, level_of, has_version4}
pub use Rattle.levels.specs.Notions.{LevelA, LevelB, Names, FourthVersion}

-- ---- bytes

-- the same as a test
abbrev ranges : ℕ → Bool
ranges b = between 32 34 b || (between 37 63 b || between 65 90 b)

ranges_say : (b : ℕ) → Says (ranges b) (LevelA b)
ranges_say b =
    says_either (between 32 34 b) (between 37 63 b || between 65 90 b) (between_says 32 34 b)
    (says_either (between 37 63 b) (between 65 90 b) (between_says 37 63 b) (between_says 65 90 b))

pub level_a_says : (b : ℕ) → Says (in_level_a b) (LevelA b)
unfolding in_level_a all between all_from upper digit member
level_a_says b = (
  λ h.
      ⊎_elim (⊎_elim (λ k. inr (inr k)) (λ (k : (48 ≤ b) × (b ≤ 57)). inr (inl (omega arith, omega arith))))
      (λ m. (ranges_say b).0 ((says_all ranges (λ x. (λ e. e, λ e. e)) signs).0 refl b m))
      ((says_either (upper b || digit b) (member b signs)
      (says_either (upper b) (digit b) (upper_says b) (digit_says b))
      (says_member b signs)).0 h),
  ⊎_elim (λ h. tested_from in_level_a 32 3 refl b h.0 (omega arith))
      (⊎_elim (λ h. tested_from in_level_a 37 27 refl b h.0 (omega arith)) (λ h. tested_from in_level_a 65 26 refl b h.0 (omega arith))),
)
  where
    signs : List ℕ
    signs = text " .,-()/='+:?!\"%&*;<>"

pub level_b_says : (b : ℕ) → Says (in_level_b b) (LevelB b)
unfolding in_level_b
level_b_says b = says_either (in_level_a b) (lower b) (level_a_says b) (lower_says b)

-- a level holds the bytes whose class is not below its own: 2 for level A, 1 for level B
pub in_level_says : (b : ℕ) → Says (in_level 2 b) (LevelA b) × Says (in_level 1 b) (LevelB b)
unfolding in_level class_of in_level_b
in_level_says b = step (in_level_a b) (level_a_says b) (lower b) (lower_says b)
  where
    step : (t : Bool) → Says t (LevelA b) → (l : Bool) → Says l ((97 ≤ b) × (b ≤ 122))
        → let class : ℕ = if t then 2 else (if t || l then 1 else 0) in
        Says (leb 2 class) (LevelA b) × Says (leb 1 class) (LevelB b)
    step true a l h = (a, (λ e. inl (a.0 refl), λ e. refl))
    step false a true h = (a, (λ e. inr (h.0 refl), λ e. refl))
    step false a false h = (a, says_either false false a h)

-- ---- the level that UNB names

-- 2 is the number of the one name, 1 that of the other, and no other name has a number
named_says : (name : List ℕ) (l : ℕ) → level_named name ≡ some l
    → ((l ≡ 2) × (name ≡ 85 ∷ 78 ∷ 79 ∷ 65 ∷ [])) ⊎ ((l ≡ 1) × (name ≡ 85 ∷ 78 ∷ 79 ∷ 66 ∷ []))
unfolding level_named
named_says name l = step (same name (text "UNOA")) (says_same name (text "UNOA")) (same name (text "UNOB")) (says_same name (text "UNOB"))
  where
    step : (t : Bool) → Says t (name ≡ text "UNOA") → (v : Bool) → Says v (name ≡ text "UNOB")
        → (if t then some 2 else (if v then some 1 else none)) ≡ some l
        → ((l ≡ 2) × (name ≡ text "UNOA")) ⊎ ((l ≡ 1) × (name ≡ text "UNOB"))
    step true a v b e = inl (sym (some-injective 2 l e), a.0 refl)
    step false a true b e = inr (sym (some-injective 1 l e), b.0 refl)
    step false a false b e = absurd (none-ne-some l e)

module _ (c : Characters) where
  -- the second component is `4`, or `1` or `2` where there is no repetition separator
  abbrev OurVersion : List ℕ → Type 0
  OurVersion version = (version ≡ 52 ∷ []) ⊎ ((c.repetition ≡ 32) × ((version ≡ 49 ∷ []) ⊎ (version ≡ 50 ∷ [])))

  -- what is asked of the two components, each of which may be missing
  abbrev ours : Option (List ℕ) → Bool
  ours version =
      maybe false (λ v. same v (text "4")) version
      || (not (has_repetition c) && maybe false (λ v. same v (text "1") || same v (text "2")) version)

  ours_says : (version : List ℕ) → Says (ours (some version)) (OurVersion version)
  unfolding maybe has_repetition
  ours_says version =
      says_either (same version (text "4")) (not (has_repetition c) && (same version (text "1") || same version (text "2")))
      (says_same version (text "4"))
      (says_both (not (has_repetition c)) (same version (text "1") || same version (text "2"))
      (space (eqb c.repetition 32) (says_eq c.repetition 32))
      (says_either (same version (text "1")) (same version (text "2")) (says_same version (text "1")) (says_same version (text "2"))))
    where
      space : (t : Bool) → Says t (c.repetition ≡ 32) → Says (not (not t)) (c.repetition ≡ 32)
      space true s = s
      space false s = s

  -- a version that is missing is not ours
  ours_none : ours none ≡ false
  unfolding maybe
  ours_none = and-false (not (has_repetition c))

  module _ (unb : Segment) where
    abbrev parts : List (List (List (List ℕ)))
    parts = contents_of unb

    -- either name is read,
    named : (letter l : ℕ) → level_named (85 ∷ 78 ∷ 79 ∷ letter ∷ []) ≡ some l → Names c parts letter → level_of c unb ≡ some l
    unfolding level_of level_in syntax_identifier is_our_version is_version4 is_old_version single maybe
    named letter l e h =
        let version : (v : List ℕ) → at h.0 1 ≡ some v → OurVersion v → ours (at h.0 1) ≡ true =
        λ v k o. ap ours k ∙ (ours_says v).1 o in
        rw (h.1, h.2)
        (if_true (ours (at h.0 1)) (level_named (85 ∷ 78 ∷ 79 ∷ letter ∷ [])) none
        (⊎_elim (λ k. version (52 ∷ []) k (inl refl))
        (λ k. ⊎_elim (λ v. version (49 ∷ []) v (inr (k.0, inl refl))) (λ v. version (50 ∷ []) v (inr (k.0, inr refl))) k.1)
        h.3)
        ∙ e)

    pub names_level : (Names c parts 65 → level_of c unb ≡ some 2) × (Names c parts 66 → level_of c unb ≡ some 1)
    unfolding level_named same
    names_level = (named 65 2 refl, named 66 1 refl)

    -- and what is read was named
    pub level_names : (l : ℕ) → level_of c unb ≡ some l → ((l ≡ 2) × Names c parts 65) ⊎ ((l ≡ 1) × Names c parts 66)
    unfolding level_of level_in syntax_identifier is_our_version is_version4 is_old_version single maybe
    level_names l = by_element (at parts 1) refl
      where
        Named : Type 0
        Named = ((l ≡ 2) × Names c parts 65) ⊎ ((l ≡ 1) × Names c parts 66)

        by_test : (values : List (List ℕ)) → at parts 1 ≡ some (values ∷ [])
            → (name version : List ℕ) → at values 0 ≡ some name → at values 1 ≡ some version
            → (t : Bool) → Says t (OurVersion version) → (if t then level_named name else none) ≡ some l → Named
        by_test values e name version n v true s h =
            let version-is : (at values 1 ≡ some (52 ∷ [])) ⊎ ((c.repetition ≡ 32) × ((at values 1 ≡ some (49 ∷ [])) ⊎ (at values 1 ≡ some (50 ∷ [])))) =
            ⊎_elim (λ q. inl (v ∙ ap some q))
            (λ q. inr (q.0, ⊎_elim (λ r. inl (v ∙ ap some r)) (λ r. inr (v ∙ ap some r)) q.1)) (s.0 refl) in
            ⊎_elim (λ k. inl (k.0, (values, e, n ∙ ap some k.1, version-is))) (λ k. inr (k.0, (values, e, n ∙ ap some k.1, version-is)))
            (named_says name l h)
        by_test values e name version n v false s h = absurd (none-ne-some l h)

        nothing : (t : Bool) → (if t then none else none) ≡ some l → ⊥
        nothing true h = none-ne-some l h
        nothing false h = none-ne-some l h

        by_values : (values : List (List ℕ)) → at parts 1 ≡ some (values ∷ [])
            → (o p : Option (List ℕ)) → at values 0 ≡ o → at values 1 ≡ p → (if ours p then maybe none level_named o else none) ≡ some l → Named
        by_values values e o none n v h = absurd (none-ne-some l (sym (if_false (ours none) (maybe none level_named o) none ours_none) ∙ h))
        by_values values e none (some version) n v h = absurd (nothing (ours (some version)) h)
        by_values values e (some name) (some version) n v h = by_test values e name version n v (ours (some version)) (ours_says version) h

        by_element : (o : Option (List (List (List ℕ)))) → at parts 1 ≡ o → maybe none (level_in c) (maybe none single o) ≡ some l → Named
        by_element none e h = absurd (none-ne-some l h)
        by_element (some []) e h = absurd (none-ne-some l h)
        by_element (some (values ∷ [])) e h = by_values values e (at values 0) (at values 1) refl refl h
        by_element (some (values ∷ next ∷ rest)) e h = absurd (none-ne-some l h)

    -- nothing is read exactly where neither is named
    pub level_none : (level_of c unb ≡ none) ↔ ((Names c parts 65 → ⊥) × (Names c parts 66 → ⊥))
    level_none = (
      λ e. (λ h. none-ne-some 2 (sym e ∙ names_level.0 h), λ h. none-ne-some 1 (sym e ∙ names_level.1 h)),
      λ h. step (level_of c unb) refl h,
    )
      where
        step : (o : Option ℕ) → level_of c unb ≡ o → (Names c parts 65 → ⊥) × (Names c parts 66 → ⊥) → o ≡ none
        step none e h = refl
        step (some l) e h = absurd (⊎_elim (λ k. h.0 k.1) (λ k. h.1 k.1) (level_names l e))

-- ---- version 4

-- the contents are of version 4 where those of the first segment say so
pub fourth_says : (unb : List (List (List (List ℕ)))) (rest : SegmentList) → Says (has_version4 (unb ∷ rest)) (FourthVersion unb)
unfolding has_version4 syntax_identifier is_version4 single at maybe
fourth_says unb rest = by_element (at unb 1) refl
  where
    none_says : {P : Type 0} → (P → ⊥) → Says false P
    none_says n = (λ h. absurd (false≢true h), λ h. absurd (n h))

    by_element : (o : Option (List (List (List ℕ)))) → at unb 1 ≡ o
        → Says (maybe false (λ i. maybe false (λ v. same v (text "4")) (at i 1)) (maybe none single o)) (FourthVersion unb)
    by_element none e = none_says (λ h. none-ne-some (h.0 ∷ []) (sym e ∙ h.1))
    by_element (some []) e = none_says (λ h. nil≢cons (some-injective [] (h.0 ∷ []) (sym e ∙ h.1)))
    by_element (some (values ∷ next ∷ more)) e =
        none_says (λ h. cons≢nil (tail-eq_of_cons-eq (some-injective (values ∷ next ∷ more) (h.0 ∷ []) (sym e ∙ h.1))))
    by_element (some (values ∷ [])) e = by_version (at values 1) refl
      where
        by_version : (o : Option (List ℕ)) → at values 1 ≡ o → Says (maybe false (λ v. same v (text "4")) o) (FourthVersion unb)
        by_version none k =
            none_says (λ h. none-ne-some (52 ∷ [])
            (sym k ∙ ap (λ (vs : List (List ℕ)). at vs 1) (head-eq_of_cons-eq (some-injective (values ∷ []) (h.0 ∷ []) (sym e ∙ h.1))) ∙ h.2))
        by_version (some version) k =
            says_as (says_same version (text "4")) (λ q. (values, e, k ∙ ap some q))
            (λ h. some-injective version (52 ∷ [])
            (sym k ∙ ap (λ (vs : List (List ℕ)). at vs 1) (head-eq_of_cons-eq (some-injective (values ∷ []) (h.0 ∷ []) (sym e ∙ h.1))) ∙ h.2))

pub no_version : has_version4 [] ≡ false
unfolding has_version4 at maybe
no_version = refl
