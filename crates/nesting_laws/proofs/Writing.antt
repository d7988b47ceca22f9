-- What is written is read back, and what was read is written back, at any depth. Assumes nothing.
use Prim.Native.Nat.{ℕ, zero, suc, ◌≤◌}
use mathlib.Core.Path.{◌≡◌, refl, sym, ap, ap₂, ◌∙◌}
use mathlib.Core.Bool.{Bool, true, false, not, ◌&&◌, true≢false, and-true}
use mathlib.Core.List.{List, [], ◌∷◌, ◌++◌, map, append_assoc, append-nil}
use lib.Dec.{leb}
use native.Mathlib.Omega.{arith}
use borrow.Author.Tests.{le-leb, lt-leb, leb-true, leb-false, not-true}
use Rattle.lists.specs.Lists.{is_empty, all, cut, gather, each_led_by, joined}
use Rattle.lists.proofs.Texts.{and_left, and_right, and_both, all_append, gather_append}
use Rattle.lists.proofs.Pieces.{None, cut_append}
use Rattle.nesting.specs.Nesting.{Nest, shaped, every, nested, written, spelled}
use Rattle.nesting_laws.proofs.Shape.{shaped_some, shaped_first, shaped_all, shaped_rest, all_shaped}
use Rattle.nesting_laws.proofs.Reading.{pushed, bare, push, nested_next, nested_shaped}

-- a value is written as a front, and what ends it
abbrev pub with_end : {T A : Type 0} → (A → List T) → (ℕ → A → T) → ℕ → A → List T
with_end front last end v = front v ++ last end v ∷ []

-- In the front nothing ends a part, and what ends it ends the parts up to the depth asked for, and no deeper ones. Depths go up to
-- `top`.
module _ {T A : Type 0} (ends : ℕ → T → Bool) (front : A → List T) (last : ℕ → A → T) (top : ℕ)
    (less : (n : ℕ) (t : T) → ends (suc n) t ≡ true → ends n t ≡ true)
    (quiet : (v : A) → None (ends 0) (front v))
    (exact : (n end : ℕ) (v : A) → end ≤ top → ends n (last end v) ≡ leb n end) where
  abbrev write : ℕ → A → List T
  write = with_end front last

  -- what ends a part ends a value
  ends_value_lem : (n : ℕ) (t : T) → ends n t ≡ true → ends 0 t ≡ true
  ends_value_lem zero t e = e
  ends_value_lem (suc n) t e = ends_value_lem n t (less n t e)

  -- a test of all that is written is a test of every value
  pub all_written : (p : T → Bool) (q : A → Bool) → ((end : ℕ) (v : A) → all p (write end v) ≡ q v)
      → (n end : ℕ) (x : Nest A n) → all p (written write n end x) ≡ every q n x
  unfolding all
  all_written p q h zero end v = h end v
  all_written p q h (suc n) end [] = refl
  all_written p q h (suc n) end (x ∷ []) = all_written p q h n end x ∙ sym (and-true (every q n x))
  all_written p q h (suc n) end (x ∷ y ∷ ys) =
      all_append p (written write n n x) (written write (suc n) end (y ∷ ys))
      ∙ ap₂ ◌&&◌ (all_written p q h n n x) (all_written p q h (suc n) end (y ∷ ys))

  -- ---- what is written is read back

  -- what is written of a part is tokens none of which ends such a part, and one that does
  pub record Ended (n end : ℕ) (ts : List T) : Type 0 where
    pub before : List T
    pub value : A
    pub parts : ts ≡ before ++ last end value ∷ []
    pub within : None (ends n) before

  none_more : (n : ℕ) (ts : List T) → None (ends n) ts → None (ends (suc n)) ts
  unfolding all
  none_more n [] h = refl
  none_more n (t ∷ ts) h =
      let others : Bool = all (λ u. not (ends n u)) ts in
      and_both (not (ends (suc n) t)) (all (λ u. not (ends (suc n) u)) ts)
      (step (ends (suc n) t) refl (and_left (not (ends n t)) others h))
      (none_more n ts (and_right (not (ends n t)) others h))
    where
      step : (b : Bool) → ends (suc n) t ≡ b → not (ends n t) ≡ true → not b ≡ true
      step true e k = absurd (true≢false (sym (less n t e) ∙ not-true (ends n t) k))
      step false e k = refl

  pub written_ended : (n end : ℕ) → n ≤ suc top → (x : Nest A n) → shaped A n x ≡ true → Ended n end (written write n end x)
  unfolding all
  written_ended zero end k v s = record { before = front v; value = v; parts = refl; within = quiet v }
  written_ended (suc n) end k [] s = absurd (shaped_some A n s)
  written_ended (suc n) end k (x ∷ []) s =
      let p = written_ended n end (omega arith) x (shaped_first A n x [] s) in
      record { before = p.before; value = p.value; parts = p.parts; within = none_more n p.before p.within }
  written_ended (suc n) end k (x ∷ y ∷ ys) s =
      let p = written_ended n n (omega arith) x (shaped_first A n x (y ∷ ys) s) in
      let q = written_ended (suc n) end k (y ∷ ys) (shaped_rest A n x y ys s) in
      record {
        before = p.before ++ last n p.value ∷ q.before;
        value = q.value;
        parts =
            ap₂ ◌++◌ p.parts q.parts
            ∙ append_assoc p.before (last n p.value ∷ []) (q.before ++ last end q.value ∷ [])
            ∙ sym (append_assoc p.before (last n p.value ∷ q.before) (last end q.value ∷ []));
        within =
            all_append (λ u. not (ends (suc n) u)) p.before (last n p.value ∷ q.before)
            ∙ ap₂ ◌&&◌ (none_more n p.before p.within)
            (ap₂ (λ (b c : Bool). not b && c) (exact (suc n) n p.value (omega arith) ∙ lt-leb (suc n) n (omega arith)) q.within);
      }

  -- so it is cut off from what follows it
  written_cut : (n end : ℕ) → n ≤ end → end ≤ top → (x : Nest A n) → shaped A n x ≡ true → (rest : List T)
      → cut (ends n) (written write n end x ++ rest) ≡ written write n end x ∷ cut (ends n) rest
  written_cut n end l k x s rest =
      let p = written_ended n end (omega arith) x s in
      ap (λ (ts : List T). cut (ends n) (ts ++ rest)) p.parts
      ∙ ap (cut (ends n)) (append_assoc p.before (last end p.value ∷ []) rest)
      ∙ cut_append (ends n) p.before (last end p.value) rest p.within (exact n end p.value k ∙ le-leb n end l)
      ∙ ap (λ (ts : List T). ts ∷ cut (ends n) rest) (sym p.parts)

  module _ (read : List T → A) (back : (end : ℕ) (v : A) → read (write end v) ≡ v) where
    read_part : (n end : ℕ) → n ≤ suc end → end ≤ top → (x : Nest A n) → shaped A n x ≡ true → nested ends read n (written write n end x) ≡ x
    unfolding cut
    read_part zero end l k v s = back end v
    read_part (suc n) end l k [] s = refl
    read_part (suc n) end l k (x ∷ []) s =
        let one = shaped_first A n x [] s in
        ap (λ (ts : List T). map (nested ends read n) (cut (ends n) ts)) (sym (append-nil (written write n end x)))
        ∙ ap (map (nested ends read n)) (written_cut n end (omega arith) k x one [])
        ∙ ap (λ (y : Nest A n). y ∷ []) (read_part n end (omega arith) k x one)
    read_part (suc n) end l k (x ∷ y ∷ ys) s =
        let one = shaped_first A n x (y ∷ ys) s in
        ap (map (nested ends read n)) (written_cut n n (omega arith) (omega arith) x one (written write (suc n) end (y ∷ ys)))
        ∙ ap₂ ◌∷◌ (read_part n n (omega arith) (omega arith) x one) (read_part (suc n) end l k (y ∷ ys) (shaped_rest A n x y ys s))

    -- the law: a list of parts of the greatest depth, each of which has what it should
    pub read_written : (xs : List (Nest A top)) → all (shaped A top) xs ≡ true → nested ends read (suc top) (written write (suc top) top xs) ≡ xs
    unfolding cut is_empty
    read_written [] s = refl
    read_written (x ∷ xs) s = read_part (suc top) top (omega arith) (omega arith) (x ∷ xs) (all_shaped A top (x ∷ xs) refl s)

  -- ---- what is written is spelled token by token

  module _ {B : Type 0} (token : T → List B) (mark : ℕ → B) (spell : A → List B)
      (fronts : (v : A) → gather token (front v) ≡ spell v) (marks : (end : ℕ) (v : A) → end ≤ top → token (last end v) ≡ mark end ∷ []) where
    spelt_part : (n end : ℕ) → n ≤ suc top → end ≤ top → (x : Nest A n) → shaped A n x ≡ true
        → gather token (written write n end x) ≡ spelled mark spell n x ++ mark end ∷ []
    unfolding gather joined each_led_by
    spelt_part zero end l k v s =
        gather_append token (front v) (last end v ∷ []) ∙ ap₂ (λ (a b : List B). a ++ (b ++ [])) (fronts v) (marks end v k)
    spelt_part (suc n) end l k [] s = absurd (shaped_some A n s)
    spelt_part (suc n) end l k (x ∷ []) s =
        spelt_part n end (omega arith) k x (shaped_first A n x [] s)
        ∙ ap (λ (bs : List B). bs ++ mark end ∷ []) (sym (append-nil (spelled mark spell n x)))
    spelt_part (suc n) end l k (x ∷ y ∷ ys) s =
        gather_append token (written write n n x) (written write (suc n) end (y ∷ ys))
        ∙ ap₂ ◌++◌ (spelt_part n n (omega arith) (omega arith) x (shaped_first A n x (y ∷ ys) s))
        (spelt_part (suc n) end l k (y ∷ ys) (shaped_rest A n x y ys s))
        ∙ simp append_assoc

    -- the law: a list of parts is spelled part by part
    pub spelled_written : (xs : List (Nest A top)) → all (shaped A top) xs ≡ true
        → gather token (written write (suc top) top xs) ≡ gather (λ x. spelled mark spell top x ++ mark top ∷ []) xs
    unfolding all gather
    spelled_written [] s = refl
    spelled_written (x ∷ []) s =
        spelt_part top top (omega arith) (omega arith) x (and_left (shaped A top x) true s)
        ∙ sym (append-nil (spelled mark spell top x ++ mark top ∷ []))
    spelled_written (x ∷ y ∷ ys) s =
        gather_append token (written write top top x) (written write (suc top) top (y ∷ ys))
        ∙ ap₂ ◌++◌ (spelt_part top top (omega arith) (omega arith) x (and_left (shaped A top x) (all (shaped A top) (y ∷ ys)) s))
        (spelled_written (y ∷ ys) (and_right (shaped A top x) (all (shaped A top) (y ∷ ys)) s))

  -- ---- what was read is written back

  module _ (start : A) (add : T → A → A) where
    -- a token that is written: one of a value's front, or one that ends an empty front and the parts up to a depth
    pub data Writes (t : T) : Type 0 where
      in_front : ends 0 t ≡ false → ((v : A) → front (add t v) ≡ t ∷ front v) → ((end : ℕ) (v : A) → last end (add t v) ≡ last end v)
          → Writes t
      at_last : (end : ℕ) → end ≤ top → front (add t start) ≡ [] → last end (add t start) ≡ t → Writes t

    -- tokens that are written, the last of which ends a part of the greatest depth
    pub data Row : List T → Type 0 where
      nothing : Row []
      ending : {t : T} → Writes t → ends top t ≡ true → Row (t ∷ [])
      next : {t u : T} {us : List T} → Writes t → Row (u ∷ us) → Row (t ∷ u ∷ us)

    -- the part in which nothing but the token stands
    abbrev one : (n : ℕ) → T → Nest A n
    one n t = push ends start add n t (bare start n)

    one_written : (n end : ℕ) (t : T) → front (add t start) ≡ [] → last end (add t start) ≡ t → written write n end (one n t) ≡ t ∷ []
    one_written zero end t f l = ap₂ (λ (ts : List T) (u : T). ts ++ u ∷ []) f l
    one_written (suc n) end t f l = step (ends n t) ∙ one_written n end t f l
      where
        step : (b : Bool) → written write (suc n) end (pushed (bare start n) b (push ends start add n t) []) ≡ written write n end (one n t)
        step true = refl
        step false = refl

    ends_last : (n end : ℕ) (t : T) → end ≤ top → last end (add t start) ≡ t → ends n t ≡ leb n end
    ends_last n end t k l = ap (ends n) (sym l) ∙ exact n end (add t start) k

    not_deeper : (t : T) → Writes t → ends (suc top) t ≡ false
    not_deeper t (in_front q f l) = step (ends (suc top) t) refl
      where
        step : (b : Bool) → ends (suc top) t ≡ b → b ≡ false
        step true e = absurd (true≢false (sym (ends_value_lem (suc top) t e) ∙ q))
        step false e = refl
    not_deeper t (at_last end k f l) = ends_last (suc top) end t k l ∙ lt-leb (suc top) end (omega arith)

    -- one that ends parts of a depth, and none of the next, is written by such a part
    just_written : (n : ℕ) (t : T) → Writes t → ends n t ≡ true → ends (suc n) t ≡ false → written write n n (one n t) ≡ t ∷ []
    just_written n t (in_front q f l) e d = absurd (true≢false (sym (ends_value_lem n t e) ∙ q))
    just_written n t (at_last end k f l) e d =
        let low : n ≤ end = leb-true n end (sym (ends_last n end t k l) ∙ e) in
        let high = leb-false (suc n) end (sym (ends_last (suc n) end t k l) ∙ d) in
        let same : end ≡ n = omega arith in
        ap (λ (m : ℕ). written write n m (one n t)) (sym same) ∙ one_written n end t f l

    -- one token more in front of a part that it does not end
    more_written : (n end : ℕ) (t : T) → Writes t → (x : Nest A n) → shaped A n x ≡ true → ends n t ≡ false
        → written write n end (push ends start add n t x) ≡ t ∷ written write n end x
    more_written zero end t (in_front q f l) v s d = ap₂ (λ (ts : List T) (u : T). ts ++ u ∷ []) (f v) (l end v)
    more_written zero end t (at_last m k f l) v s d = absurd (true≢false (sym (ends_last 0 m t k l ∙ le-leb 0 m (omega arith)) ∙ d))
    more_written (suc n) end t w [] s d = absurd (shaped_some A n s)
    more_written (suc n) end t w (x ∷ xs) s d =
        step (ends n t) refl xs (λ i m. more_written n m t w x (shaped_first A n x xs s) i)
      where
        step : (b : Bool) → ends n t ≡ b → (xs : List (Nest A n))
            → (ends n t ≡ false → (m : ℕ) → written write n m (push ends start add n t x) ≡ t ∷ written write n m x)
            → written write (suc n) end (pushed (bare start n) b (push ends start add n t) (x ∷ xs)) ≡ t ∷ written write (suc n) end (x ∷ xs)
        step true i xs h = ap (λ (ts : List T). ts ++ written write (suc n) end (x ∷ xs)) (just_written n t w i d)
        step false i [] h = h i end
        step false i (y ∷ ys) h = ap (λ (ts : List T). ts ++ written write (suc n) end (y ∷ ys)) (h i n)

    -- the law: such tokens are those of the list that they are read as, and that has what it should
    module _ (read : List T → A) (none : read [] ≡ start) (more : (t : T) (ts : List T) → read (t ∷ ts) ≡ add t (read ts)) where
      full : (t : T) (ts : List T) → all (shaped A top) (nested ends read (suc top) (t ∷ ts)) ≡ true
      unfolding is_empty
      full t ts = shaped_all A top (nested ends read (suc top) (t ∷ ts)) (nested_shaped ends read (suc top) (t ∷ ts) refl)

      pub written_nested : {ts : List T} → Row ts
          → (written write (suc top) top (nested ends read (suc top) ts) ≡ ts) × (all (shaped A top) (nested ends read (suc top) ts) ≡ true)
      unfolding cut all is_empty
      written_nested nothing = (refl, refl)
      written_nested (ending {t} w e) = (
        ap (written write (suc top) top)
            (nested_next ends start add read none more (suc top) t []
            ∙ ap (λ (b : Bool). pushed (bare start top) b (push ends start add top t) []) e)
            ∙ just_written top t w e (not_deeper t w),
        full t [],
      )
      written_nested (next {t} {u} {us} w row) = (
        ap (written write (suc top) top) (nested_next ends start add read none more (suc top) t (u ∷ us))
            ∙ more_written (suc top) top t w (nested ends read (suc top) (u ∷ us)) (nested_shaped ends read (suc top) (u ∷ us) refl) (not_deeper t w)
            ∙ ap (λ (ts : List T). t ∷ ts) (written_nested row).0,
        full t (u ∷ us),
      )
