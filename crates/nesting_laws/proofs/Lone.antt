-- Where no two parts of a depth stand side by side, nothing that is written ends just such a part and nothing that is listed begins a
-- next one, and the other way round. Assumes nothing.
use Prim.Native.Nat.{ℕ, zero, suc, ◌≤◌}
use mathlib.Core.Path.{◌≡◌, refl, ap, ap₂, ◌∙◌}
use mathlib.Core.Bool.{Bool, true, false, not, ◌&&◌, ◌||◌, and-true}
use mathlib.Core.List.{List, [], ◌∷◌}
use native.Mathlib.Omega.{arith}
use lib.Dec.{eqb}
use borrow.Author.Tests.{ne_eqb, eq-eqb}
use Rattle.lists.specs.Lists.{is_empty, is_single, all}
use Rattle.lists.proofs.Texts.{and_both, all_append}
use Rattle.nesting.specs.Nesting.{Nest, shaped, every, written, flat, lone}
use Rattle.nesting_laws.proofs.Shape.{shaped_some, shaped_first, shaped_rest}
use Rattle.nesting_laws.proofs.Flat.{flat_last, flat_next}

-- a test of all that is written, which what ends just a part of depth d fails, is a test of every value, and that no two parts of depth d
-- stand side by side
module _ {T A : Type 0} (write : ℕ → A → List T) (d : ℕ) (p : T → Bool) (q : A → Bool)
    (one : (end : ℕ) (v : A) → all p (write end v) ≡ (q v && not (eqb d end))) where
  pub lone_written : (n end : ℕ) (x : Nest A n) → shaped A n x ≡ true
      → all p (written write n end x) ≡ (every q n x && (lone A d n x && not (eqb d end)))
  unfolding all is_single is_empty
  lone_written zero end v s = one end v
  lone_written (suc n) end [] s = absurd (shaped_some A n s)
  lone_written (suc n) end (x ∷ []) s =
      lone_written n end x (shaped_first A n x [] s) ∙ step (every q n x) (lone A d n x) (eqb d n)
    where
      step : (a l t : Bool) → (a && (l && not (eqb d end))) ≡ ((a && true) && (((not t || true) && (l && true)) && not (eqb d end)))
      step false l t = refl
      step true false true = refl
      step true false false = refl
      step true true true = refl
      step true true false = refl
  lone_written (suc n) end (x ∷ y ∷ ys) s =
      all_append p (written write n n x) (written write (suc n) end (y ∷ ys))
      ∙ ap₂ ◌&&◌ (lone_written n n x (shaped_first A n x (y ∷ ys) s)) (lone_written (suc n) end (y ∷ ys) (shaped_rest A n x y ys s))
      ∙ step (every q n x) (lone A d n x) (eqb d n) (all (every q n) (y ∷ ys)) (is_empty ys) (all (lone A d n) (y ∷ ys)) (not (eqb d end))
    where
      step : (a l t b s m e : Bool)
          → ((a && (l && not t)) && (b && (((not t || s) && m) && e))) ≡ ((a && b) && (((not t || false) && (l && m)) && e))
      step false l t b s m e = refl
      step true false true true s m e = refl
      step true false true false s m e = refl
      step true false false true s m e = refl
      step true false false false s m e = refl
      step true true true true s m e = refl
      step true true true false s m e = refl
      step true true false b s m e = refl

-- a test of all that is listed, which goes by the kind and which what begins a next part of depth d fails, is a test of the first kind,
-- and that no two parts of depth d stand side by side
module _ {A B : Type 0} (kinds : ℕ → ℕ) (item : ℕ → A → B) (d : ℕ) (p : B → Bool) (ok : ℕ → Bool)
    (one : (kind : ℕ) (v : A) → p (item kind v) ≡ ok kind) (own : (n : ℕ) → ok (kinds n) ≡ not (eqb d n)) where
  pub lone_flat : (n first : ℕ) (x : Nest A n) → shaped A n x ≡ true → all p (flat kinds item n first x) ≡ (ok first && lone A d n x)
  unfolding all is_single is_empty
  lone_flat zero first v s = ap (λ (b : Bool). b && true) (one first v)
  lone_flat (suc n) first [] s = absurd (shaped_some A n s)
  lone_flat (suc n) first (x ∷ []) s =
      ap (all p) (flat_last kinds item n first x)
      ∙ lone_flat n first x (shaped_first A n x [] s)
      ∙ ap (λ (b : Bool). ok first && b) (step (lone A d n x) (eqb d n))
    where
      step : (l t : Bool) → l ≡ ((not t || true) && (l && true))
      step true true = refl
      step true false = refl
      step false true = refl
      step false false = refl
  lone_flat (suc n) first (x ∷ y ∷ ys) s =
      ap (all p) (flat_next kinds item n first x y ys)
      ∙ all_append p (flat kinds item n first x) (flat kinds item (suc n) (kinds n) (y ∷ ys))
      ∙ ap₂ ◌&&◌ (lone_flat n first x (shaped_first A n x (y ∷ ys) s))
      (lone_flat (suc n) (kinds n) (y ∷ ys) (shaped_rest A n x y ys s) ∙ ap (λ (b : Bool). b && lone A d (suc n) (y ∷ ys)) (own n))
      ∙ step (ok first) (lone A d n x) (eqb d n) (is_empty ys) (all (lone A d n) (y ∷ ys))
    where
      step : (f l t s m : Bool) → ((f && l) && (not t && ((not t || s) && m))) ≡ (f && ((not t || false) && (l && m)))
      step false l t s m = refl
      step true false true s m = refl
      step true false false s m = refl
      step true true true s m = refl
      step true true false s m = refl

-- what each passes, all pass
each_all : {B : Type 0} (t : B → Bool) → ((x : B) → t x ≡ true) → (xs : List B) → all t xs ≡ true
unfolding all
each_all t h [] = refl
each_all t h (x ∷ xs) = and_both (t x) (all t xs) (h x) (each_all t h xs)

-- in a part that is no deeper, no two stand side by side
pub lone_within : (A : Type 0) (d n : ℕ) → n ≤ d → (x : Nest A n) → lone A d n x ≡ true
lone_within A d zero h v = refl
lone_within A d (suc n) h xs =
    ap₂ (λ (a b : Bool). (not a || is_single xs) && b) (ne_eqb d n (λ e. omega arith))
    (each_all (lone A d n) (lone_within A d n (omega arith)) xs)

-- and one that is just deeper has one part
pub lone_single : (A : Type 0) (d : ℕ) (xs : List (Nest A d)) → lone A d (suc d) xs ≡ is_single xs
lone_single A d xs =
    ap₂ (λ (a b : Bool). (not a || is_single xs) && b) (eq-eqb d d refl) (each_all (lone A d d) (lone_within A d d (omega arith)) xs)
    ∙ and-true (is_single xs)
