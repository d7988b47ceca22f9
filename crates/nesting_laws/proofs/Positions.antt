-- Where a value stands, at any depth: what trimming and reading do to what stands at a position, which tokens reach it, and that no two
-- pieces stand at one. Assumes nothing.
use Rattle.std.specs.Prelude.{if◌then◌else◌}
use Prim.Native.Nat.{ℕ, zero, suc, ◌+◌, ◌<◌}
use mathlib.Core.Path.{◌≡◌, refl, sym, ap, subst, ◌∙◌}
use mathlib.Core.Bool.{Bool, true, false, not, true≢false}
use mathlib.Core.Logic.{◌⊎◌, inl, inr}
use mathlib.Core.List.{List, [], ◌∷◌, ◌++◌, map, append_assoc, append-nil, cons≢nil, head-eq_of_cons-eq, tail-eq_of_cons-eq}
use mathlib.Core.Option
use mathlib.Core.Option.{Option, none, some, none-ne-some, some-injective}
use native.Mathlib.Omega.{arith}
use borrow.Author.Tests.{not-true}
use Rattle.lists.specs.Lists.{is_empty, all, last_or, through, at, cut, drop_end, trim_end}
use Rattle.lists.proofs.Texts.{and_left, and_right}
use Rattle.lists.proofs.Pieces.{None, through_through}
use Rattle.nesting.specs.Nesting.{Nest, nested, idle, trim}
use Rattle.nesting_laws.proofs.Shape.{trim_step}
use Rattle.nesting_laws.proofs.Trimmed.{drop_end_shortened}
use Rattle.nesting_laws.proofs.Splits.{Pieces, nothing, ended, within, cut_found, through_after, through_there}

-- a position: the number of a part, and the position in that
abbrev pub Place : ℕ → Type 0
Place zero = Unit {0}
Place (suc n) = ℕ × Place n

abbrev pub origin : (n : ℕ) → Place n
origin zero = tt
origin (suc n) = (0, origin n)

-- the value stands at the position
abbrev pub At : (A : Type 0) (n : ℕ) → Place n → Nest A n → A → Type 0
At A zero p v w = v ≡ w
At A (suc n) p xs w = (x : Nest A n) × (at xs p.0 ≡ some x) × At A n p.1 x w

-- ---- one list

module _ {A B : Type 0} (f : A → B) where
  pub at_map : (xs : List A) (n : ℕ) → at (map f xs) n ≡ Option.map f (at xs n)
  unfolding at
  at_map [] n = refl
  at_map (x ∷ xs) zero = refl
  at_map (x ∷ xs) (suc n) = at_map xs n

  -- what stands after a map is the map of what stands there
  pub at_mapped : (xs : List A) (n : ℕ) (y : B) → at (map f xs) n ≡ some y → (x : A) × (at xs n ≡ some x) × (f x ≡ y)
  at_mapped xs n y e = step (at xs n) (sym (at_map xs n) ∙ e)
    where
      step : (o : Option A) → Option.map f o ≡ some y → (x : A) × (o ≡ some x) × (f x ≡ y)
      step none k = absurd (none-ne-some y k)
      step (some x) k = (x, refl, some-injective (f x) y k)

module _ {A : Type 0} where
  at_front : (xs ys : List A) (n : ℕ) (x : A) → at xs n ≡ some x → at (xs ++ ys) n ≡ some x
  unfolding at
  at_front [] ys n x e = absurd (none-ne-some x e)
  at_front (y ∷ xs) ys zero x e = e
  at_front (y ∷ xs) ys (suc n) x e = at_front xs ys n x e

  -- what is left of an idle end stands where it stood
  pub at_trimmed : (t : A → Bool) (xs : List A) (n : ℕ) (x : A) → at (trim_end t xs) n ≡ some x → at xs n ≡ some x
  unfolding trim_end at
  at_trimmed t [] n x e = e
  at_trimmed t (y ∷ xs) zero x e = e
  at_trimmed t (y ∷ xs) (suc n) x e =
      let s = drop_end_shortened t xs in
      ap (λ (l : List A). at l n) s.parts ∙ at_front (drop_end t xs) s.gone n x e

-- ---- any depth

-- what trimming leaves stands where it stood
pub at_trim : (A : Type 0) (is_blank : A → Bool) (n : ℕ) (p : Place n) (x : Nest A n) (v : A) → At A n p (trim A is_blank n x) v → At A n p x v
at_trim A is_blank zero p x v h = h
at_trim A is_blank (suc n) p xs v h =
    let f : Nest A n → Nest A n = trim A is_blank n in
    let left : at (trim_end (idle A is_blank n) (map f xs)) p.0 ≡ some h.0 =
    ap (λ (l : List (Nest A n)). at l p.0) (sym (trim_step A is_blank n xs)) ∙ h.1 in
    let m = at_mapped f xs p.0 h.0 (at_trimmed (idle A is_blank n) (map f xs) p.0 h.0 left) in
    (m.0, m.1, at_trim A is_blank n p.1 m.0 v (subst (λ (y : Nest A n). At A n p.1 y v) (sym m.2) h.2))

module _ {T : Type 0} (ends : ℕ → T → Bool) where
  -- the piece stands at the position among the tokens
  abbrev pub PieceAt : (n : ℕ) → Place n → List T → List T → Type 0
  PieceAt zero p ts piece = ts ≡ piece
  PieceAt (suc n) p ts piece = (part : List T) × (at (cut (ends n) ts) p.0 ≡ some part) × PieceAt n p.1 part piece

  -- what was read stands where its piece stands
  pub at_nested : {A : Type 0} (read : List T → A) (n : ℕ) (p : Place n) (ts : List T) (v : A) → At A n p (nested ends read n ts) v
      → (piece : List T) × PieceAt n p ts piece × (read piece ≡ v)
  at_nested read zero p ts v h = (ts, refl, h)
  at_nested {A} read (suc n) p ts v h =
      let m = at_mapped (nested ends read n) (cut (ends n) ts) p.0 h.0 h.1 in
      let q = at_nested read n p.1 m.0 v (subst (λ (y : Nest A n). At A n p.1 y v) (sym m.2) h.2) in
      (q.0, (m.0, m.1, q.1), q.2)

  -- ---- the position that tokens reach

  -- after what ends a part of a depth the next part of that depth begins
  abbrev pub passed : (n : ℕ) → Place n → T → Place n
  passed zero p t = p
  passed (suc n) p t = if ends n t then (suc p.0, origin n) else (p.0, passed n p.1 t)

  abbrev pub reached : (n : ℕ) → Place n → List T → Place n
  reached n p [] = p
  reached n p (t ∷ ts) = reached n (passed n p t) ts

  -- they are none, or end in one that ends a value
  abbrev pub Separated : List T → Type 0
  Separated [] = Unit {0}
  Separated (t ∷ ts) = ends 0 (last_or t ts) ≡ true

  -- The piece is where the tokens part at the position: those before reach it and are separated, and it is the first value of the rest.
  pub record Parted (n : ℕ) (ts : List T) (p : Place n) (piece : List T) : Type 0 where
    pub before : List T
    pub rest : List T
    pub parts : ts ≡ before ++ rest
    pub reaches : reached n (origin n) before ≡ p
    pub separated : Separated before
    pub there : is_empty rest ≡ false
    pub begins : through (ends 0) rest ≡ piece

  reached_append : (n : ℕ) (p : Place n) (xs ys : List T) → reached n p (xs ++ ys) ≡ reached n (reached n p xs) ys
  reached_append n p [] ys = refl
  reached_append n p (x ∷ xs) ys = reached_append n (passed n p x) xs ys

  -- so many parts
  abbrev onward : (n k : ℕ) → Place (suc n) → Place (suc n)
  onward n zero p = p
  onward n (suc k) p = (suc k + p.0, origin n)

  over_parts : (n : ℕ) {k : ℕ} {ts : List T} → Pieces (ends n) k ts → (p : Place (suc n)) → reached (suc n) p ts ≡ onward n k p
  over_parts n nothing p = refl
  over_parts n (ended {x} {n = k} {xs} h pieces) p =
      ap (λ (b : Bool). reached (suc n) (if b then (suc p.0, origin n) else (p.0, passed n p.1 x)) xs) h
      ∙ over_parts n pieces (suc p.0, origin n)
      ∙ step k
    where
      step : (k : ℕ) → onward n k (suc p.0, origin n) ≡ onward n (suc k) p
      step zero = let e : suc p.0 ≡ 1 + p.0 = omega arith in ap (λ (m : ℕ). (m, origin n)) e
      step (suc k) = let e : suc k + suc p.0 ≡ suc (suc k) + p.0 = omega arith in ap (λ (m : ℕ). (m, origin n)) e
  over_parts n (within {x} {n = k} {xs} h pieces) p =
      ap (λ (b : Bool). reached (suc n) (if b then (suc p.0, origin n) else (p.0, passed n p.1 x)) xs) h
      ∙ over_parts n pieces (p.0, passed n p.1 x)

  from_origin : (n : ℕ) {k : ℕ} {ts : List T} → Pieces (ends n) k ts → reached (suc n) (origin (suc n)) ts ≡ (k, origin n)
  from_origin n {k} pieces = over_parts n pieces (origin (suc n)) ∙ step k
    where
      step : (k : ℕ) → onward n k (origin (suc n)) ≡ (k, origin n)
      step zero = refl
      step (suc k) = let e : suc k + 0 ≡ suc k = omega arith in ap (λ (m : ℕ). (m, origin n)) e

  -- within one part
  over_none : (n : ℕ) (ts : List T) → None (ends n) ts → (p : Place (suc n)) → reached (suc n) p ts ≡ (p.0, reached n p.1 ts)
  unfolding all
  over_none n [] h p = refl
  over_none n (x ∷ xs) h p =
      let others : Bool = all (λ y. not (ends n y)) xs in
      ap (λ (b : Bool). reached (suc n) (if b then (suc p.0, origin n) else (p.0, passed n p.1 x)) xs)
      (not-true (ends n x) (and_left (not (ends n x)) others h))
      ∙ over_none n xs (and_right (not (ends n x)) others h) (p.0, passed n p.1 x)

module _ {T : Type 0} (ends : ℕ → T → Bool) (value : (n : ℕ) (t : T) → ends n t ≡ true → ends 0 t ≡ true) where
  -- ---- they are separated

  last_ends : (n : ℕ) {k : ℕ} {xs : List T} → Pieces (ends n) k xs → (x : T) → (k ≡ 0 → ends 0 x ≡ true) → ends 0 (last_or x xs) ≡ true
  unfolding last_or
  last_ends n nothing x h = h refl
  last_ends n (ended {x = y} k pieces) x h = last_ends n pieces y (λ z. value n y k)
  last_ends n (within {x = y} k pieces) x h = last_ends n pieces y (λ z. absurd (omega (arith, z)))

  pieces_separated : (n : ℕ) {k : ℕ} {xs : List T} → Pieces (ends n) k xs → Separated ends xs
  pieces_separated n nothing = tt
  pieces_separated n (ended {x} k pieces) = last_ends n pieces x (λ z. value n x k)
  pieces_separated n (within {x} k pieces) = last_ends n pieces x (λ z. absurd (omega (arith, z)))

  separated_append : (xs ys : List T) → Separated ends xs → Separated ends ys → Separated ends (xs ++ ys)
  unfolding last_or
  separated_append [] ys h k = k
  separated_append (x ∷ xs) [] h k = subst (λ (l : List T). ends 0 (last_or x l) ≡ true) (sym (append-nil xs)) h
  separated_append (x ∷ xs) (y ∷ ys) h k = ap (ends 0) (after x xs) ∙ k
    where
      after : (x : T) (xs : List T) → last_or x (xs ++ y ∷ ys) ≡ last_or y ys
      after x [] = refl
      after x (z ∷ xs) = after z xs

  -- the law: a piece is where the tokens part at its position
  pub piece_parted : (n : ℕ) (p : Place (suc n)) (ts piece : List T) → PieceAt ends (suc n) p ts piece → Parted ends (suc n) ts p piece
  piece_parted zero p ts piece h =
      let f = cut_found (ends 0) ts p.0 h.0 h.1 in
      record {
        before = f.before;
        rest = f.rest;
        parts = f.parts;
        reaches = from_origin ends 0 f.pieces;
        separated = pieces_separated 0 f.pieces;
        there = f.there;
        begins = f.begins ∙ h.2;
      }
  piece_parted (suc n) p ts piece h =
      let f = cut_found (ends (suc n)) ts p.0 h.0 h.1 in
      let q = piece_parted n p.1 h.0 piece h.2 in
      let d = through_after (ends (suc n)) f.rest q.before q.rest (f.begins ∙ q.parts) q.there in
      record {
        before = f.before ++ q.before;
        rest = d.rest;
        parts =
            f.parts
            ∙ ap (λ (l : List T). f.before ++ l) d.parts
            ∙ sym (append_assoc f.before q.before d.rest);
        reaches =
            reached_append ends (suc (suc n)) (origin (suc (suc n))) f.before q.before
            ∙ ap (λ (r : Place (suc (suc n))). reached ends (suc (suc n)) r q.before) (from_origin ends (suc n) f.pieces)
            ∙ over_none ends (suc n) q.before d.without (p.0, origin (suc n))
            ∙ ap (λ (r : Place (suc n)). (p.0, r)) q.reaches;
        separated = separated_append f.before q.before (pieces_separated (suc n) f.pieces) q.separated;
        there = sym (through_there (ends (suc n)) d.rest) ∙ ap is_empty d.begins ∙ q.there;
        begins =
            sym (through_through (ends (suc n)) (ends 0) (value (suc n)) d.rest) ∙ ap (through (ends 0)) d.begins ∙ q.begins;
      }

  -- ---- one piece alone stands at a position

  abbrev Later : (n : ℕ) → Place n → Place n → Type 0
  Later zero p q = ⊥
  Later (suc n) p q = (p.0 < q.0) ⊎ ((p.0 ≡ q.0) × Later n p.1 q.1)

  later_later : (n : ℕ) (p q r : Place n) → Later n p q → Later n q r → Later n p r
  later_later zero p q r a b = a
  later_later (suc n) p q r (inl a) (inl b) = inl (omega (arith, a, b))
  later_later (suc n) p q r (inl a) (inr b) = inl (omega (arith, a, b.0))
  later_later (suc n) p q r (inr a) (inl b) = inl (omega (arith, a.0, b))
  later_later (suc n) p q r (inr a) (inr b) = inr (a.0 ∙ b.0, later_later n p.1 q.1 r.1 a.1 b.1)

  not_later : (n : ℕ) (p : Place n) → Later n p p → ⊥
  not_later zero p h = h
  not_later (suc n) p (inl a) = omega (arith, a)
  not_later (suc n) p (inr a) = not_later n p.1 a.1

  -- every separator leads on, and nothing else does
  leads_on : (n : ℕ) (p : Place (suc n)) (t : T) → ends 0 t ≡ true → Later (suc n) p (passed ends (suc n) p t)
  leads_on zero p t h = rw h (inl (omega arith))
  leads_on (suc n) p t h = step (ends (suc n) t) (leads_on n p.1 t h)
    where
      step : (b : Bool) → Later (suc n) p.1 (passed ends (suc n) p.1 t)
          → Later (suc (suc n)) p (if b then (suc p.0, origin (suc n)) else (p.0, passed ends (suc n) p.1 t))
      step true l = inl (omega arith)
      step false l = inr (refl, l)

  stays : (n : ℕ) (p : Place n) (t : T) → ends 0 t ≡ false → passed ends n p t ≡ p
  stays zero p t h = refl
  stays (suc n) p t h = step (ends n t) refl (stays n p.1 t h)
    where
      step : (b : Bool) → ends n t ≡ b → passed ends n p.1 t ≡ p.1
          → (if b then (suc p.0, origin n) else (p.0, passed ends n p.1 t)) ≡ p
      step true e ih = absurd (true≢false (sym (value n t e) ∙ h))
      step false e ih = ap (λ (q : Place n). (p.0, q)) ih

  -- so what ends in one leads on
  reached_later : (n : ℕ) (p : Place (suc n)) (t : T) (ts : List T) → ends 0 (last_or t ts) ≡ true → Later (suc n) p (reached ends (suc n) p (t ∷ ts))
  unfolding last_or
  reached_later n p t [] h = leads_on n p t h
  reached_later n p t (u ∷ us) h = step (ends 0 t) refl (reached_later n (passed ends (suc n) p t) u us h)
    where
      end : Place (suc n)
      end = reached ends (suc n) (passed ends (suc n) p t) (u ∷ us)

      step : (b : Bool) → ends 0 t ≡ b → Later (suc n) (passed ends (suc n) p t) end → Later (suc n) p end
      step true e l = later_later (suc n) p (passed ends (suc n) p t) end (leads_on n p t e) l
      step false e l = subst (λ (q : Place (suc n)). Later (suc n) q end) (stays (suc n) p t e) l

  -- and a list that reaches only the position where it began is empty
  back_nowhere : (n : ℕ) (p : Place (suc n)) (ts : List T) → Separated ends ts → reached ends (suc n) p ts ≡ p → ts ≡ []
  back_nowhere n p [] h e = refl
  back_nowhere n p (t ∷ ts) h e = absurd (not_later (suc n) p (subst (Later (suc n) p) e (reached_later n p t ts h)))

  separated_next : (t : T) (ts : List T) → Separated ends (t ∷ ts) → Separated ends ts
  unfolding last_or
  separated_next t [] h = tt
  separated_next t (u ∷ us) h = h

  -- the law: tokens part at a position in one way
  pub one_parting : (n : ℕ) (p : Place (suc n)) (a b r q : List T) → a ++ r ≡ b ++ q
      → reached ends (suc n) p a ≡ reached ends (suc n) p b → Separated ends a → Separated ends b → r ≡ q
  one_parting n p [] b r q e l h k = e ∙ ap (λ (c : List T). c ++ q) (back_nowhere n p b k (sym l))
  one_parting n p (x ∷ a) [] r q e l h k = absurd (cons≢nil (back_nowhere n p (x ∷ a) h l))
  one_parting n p (x ∷ a) (y ∷ b) r q e l h k =
      one_parting n (passed ends (suc n) p x) a b r q (tail-eq_of_cons-eq e)
      (l ∙ ap (λ (z : T). reached ends (suc n) (passed ends (suc n) p z) b) (sym (head-eq_of_cons-eq e)))
      (separated_next x a h)
      (separated_next y b k)
