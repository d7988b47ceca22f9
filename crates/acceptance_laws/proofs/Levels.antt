-- Levels: refusals 7 and 8 are not met exactly where UNB names a level and a version that are ours, and every value byte is in
-- that level. Assumes nothing.
use Rattle.std.specs.Prelude.{if◌then◌else◌}
use Prim.Native.Nat.{ℕ}
use mathlib.Core.Path.{◌≡◌, refl, sym, ap, fun_ext, ◌∙◌}
use mathlib.Core.Logic.{◌↔◌, ⊎_elim}
use mathlib.Core.Bool.{Bool, true, false, ◌||◌}
use mathlib.Core.List.{List, [], ◌∷◌, cons-ne-nil}
use mathlib.Core.Option.{Option, none, some}
use lib.Dec.{leb}
use Rattle.lists.specs.Lists.{all, at, maybe}
use Rattle.characters.specs.declared.Characters.{Characters}
use Rattle.characters.specs.Characters.{lower, characters_of}
use Rattle.values.specs.Tokens.{Segment, start}
use Rattle.levels.specs.Levels.{in_level_a, in_level_b, class_of, in_level, level_of}
use Rattle.levels.proofs.Words.{names_level, level_names}
use Rattle.stages.specs.Contents.{segments_of}
use Rattle.stages.specs.Places.{foreign_level, level, outside_level}
use Rattle.normal_form_laws.specs.Forms.{list_read}
use Rattle.normal_form_laws.proofs.Trimmed.{all_bytes}
use Rattle.normal_form_laws.proofs.LevelBytes.{level_bytes}
use Rattle.acceptance_laws.specs.Allowed.{Level, level_a, level_b, holds, NamesLevel}

-- the least class of a level's bytes
abbrev pub class : Level → ℕ
class level_a = 2
class level_b = 1

class_holds : (l : Level) (b : ℕ) → in_level (class l) b ≡ holds l b
unfolding in_level class_of in_level_b
class_holds level_a b = step (in_level_a b) (lower b)
  where
    step : (a l : Bool) → leb 2 (if a then 2 else (if a || l then 1 else 0)) ≡ a
    step true l = refl
    step false true = refl
    step false false = refl
class_holds level_b b = step (in_level_a b) (lower b)
  where
    step : (a l : Bool) → leb 1 (if a then 2 else (if a || l then 1 else 0)) ≡ (a || l)
    step true l = refl
    step false true = refl
    step false false = refl

-- ---- what UNB names

module _ (c : Characters) (unb : Segment) where
  level_named_lem : (n : ℕ) → level_of c unb ≡ some n → (l : Level) × (n ≡ class l) × NamesLevel c unb l
  level_named_lem n h =
      ⊎_elim
      (λ k. (level_a, k.0, record { values = k.1.0; alone = k.1.1; name = k.1.2; version = k.1.3 }))
      (λ k. (level_b, k.0, record { values = k.1.0; alone = k.1.1; name = k.1.2; version = k.1.3 }))
      (level_names c unb n h)

  named_level : (l : Level) → NamesLevel c unb l → level_of c unb ≡ some (class l)
  named_level level_a d = (names_level c unb).0 (d.values, d.alone, d.name, d.version)
  named_level level_b d = (names_level c unb).1 (d.values, d.alone, d.name, d.version)

-- ---- of an input that has a first segment

module _ (s : List ℕ) (unb : Segment) (rest : List Segment) (shape : segments_of s ≡ unb ∷ rest) where
  abbrev foreign : Option ℕ → List ℕ
  foreign o = maybe (start unb ∷ []) (λ n. []) o

  foreign_is : foreign_level s ≡ foreign (level_of (characters_of s) unb)
  unfolding foreign_level at maybe
  foreign_is = ap (λ (gs : List Segment). maybe [] (λ g. maybe (start g ∷ []) (λ n. []) (level_of (characters_of s) g)) (at gs 0)) shape

  level_is : level s ≡ maybe 0 (λ n. n) (level_of (characters_of s) unb)
  unfolding level at maybe
  level_is = ap (λ (gs : List Segment). maybe 0 (λ g. maybe 0 (λ n. n) (level_of (characters_of s) g)) (at gs 0)) shape

  -- 7 is not met exactly where UNB names a level, which is then the one that 8 asks for
  pub levels_clear : foreign_level s ≡ [] → (l : Level) × (level s ≡ class l) × NamesLevel (characters_of s) unb l
  unfolding maybe
  levels_clear h = step (level_of (characters_of s) unb) refl (sym foreign_is ∙ h)
    where
      step : (o : Option ℕ) → level_of (characters_of s) unb ≡ o → foreign o ≡ [] → (l : Level) × (level s ≡ class l) × NamesLevel (characters_of s) unb l
      step none e k = absurd (cons-ne-nil (start unb) [] k)
      step (some n) e k = let (l, c, d) = level_named_lem (characters_of s) unb n e in (l, level_is ∙ ap (maybe 0 (λ (m : ℕ). m)) e ∙ c, d)

  pub clear_levels : (l : Level) → NamesLevel (characters_of s) unb l → (foreign_level s ≡ []) × (level s ≡ class l)
  unfolding maybe
  clear_levels l d =
      (foreign_is ∙ ap foreign (named_level (characters_of s) unb l d), level_is ∙ ap (maybe 0 (λ (m : ℕ). m)) (named_level (characters_of s) unb l d))

-- 8 is not met exactly where every value byte is in the level
pub inside_clear : (s : List ℕ) (l : Level) → level s ≡ class l
    → (outside_level s ≡ []) ↔ (all (all (all (all (all (holds l))))) (list_read s) ≡ true)
inside_clear s l e =
    let same_test : in_level (level s) ≡ holds l = fun_ext (λ b. ap (λ (n : ℕ). in_level n b) e ∙ class_holds l b) in
    let same_bytes : all_bytes (in_level (level s)) (list_read s) ≡ all_bytes (holds l) (list_read s) = ap (λ (t : ℕ → Bool). all_bytes t (list_read s)) same_test in
    (λ h. sym same_bytes ∙ (level_bytes s).0 h, λ h. (level_bytes s).1 (same_bytes ∙ h))
