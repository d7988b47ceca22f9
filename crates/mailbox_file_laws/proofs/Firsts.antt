-- The first UNZ in words: which segment it is, and when there is none. Assumes nothing.
use Rattle.std.specs.Prelude.{if◌then◌else◌}
use Prim.Native.Nat.{ℕ}
use mathlib.Core.Path.{◌≡◌, refl, sym, ap, ap₂, ◌∙◌, subst}
use mathlib.Core.Logic.{⊎_elim}
use mathlib.Core.Bool.{Bool, true, false}
use mathlib.Core.List.Memᴰ
use mathlib.Core.List.{List, [], ◌∷◌, ◌++◌, Memᴰ}
use mathlib.Core.Option.{none, some}
use native.Mathlib.Omega.{arith}
use Rattle.lists.proofs.Texts.{and_left, and_right, and_both}
use Rattle.values.specs.Tokens.{Segment}
use Rattle.values.specs.Values.{finished}
use Rattle.segments.specs.declared.Kind.TheVariants.{Unz}
use Rattle.segments.specs.Kinds.{is}
use Rattle.segments.specs.Tags.{kind_of, tag_rule}
use Rattle.lists.proofs.Tests.{Says, fails}
use Rattle.segments.proofs.Words.{is_says}
use Rattle.mailbox_files.specs.Pieces.{is_whole, first_unz}
use Rattle.mailbox_file_laws.specs.Cutting.{Faultless, NoUnz}

-- what the test of a segment says
pub whole_says : (g : Segment) → Says (is_whole g) (Faultless g)
unfolding is_whole
whole_says g = (
  λ h. (and_left (finished g) (tag_rule g) h, and_right (finished g) (tag_rule g) h),
  λ h. and_both (finished g) (tag_rule g) h.0 h.1,
)

-- it is a UNZ, or is none
unz_says : (g : Segment) → Says (is Unz (kind_of g)) (kind_of g ≡ Unz)
unz_says g = is_says Unz (kind_of g)

not_unz : (g : Segment) → is Unz (kind_of g) ≡ false → kind_of g ≡ Unz → ⊥
not_unz g h = (fails (is Unz (kind_of g)) (unz_says g)).0 h

-- one more that is none
no_unz_more : (g : Segment) (gs : List Segment) → is Unz (kind_of g) ≡ false → NoUnz gs → NoUnz (g ∷ gs)
no_unz_more g gs h n q m k = ⊎_elim (λ e. not_unz g h (ap kind_of (sym e) ∙ k)) (λ i. n q i k) (Memᴰ.cases_cons m)

-- ---- the first UNZ

-- it is a UNZ, none stands before it, no segment up to it meets 4 to 6, and these follow it
pub record First (gs : List Segment) (unz : Segment) (after : List Segment) : Type 0 where
  pub before : List Segment
  pub split : gs ≡ before ++ unz ∷ after
  pub none_before : NoUnz before
  pub faultless : (g : Segment) → Memᴰ g before → Faultless g
  pub own : Faultless unz
  pub kind : kind_of unz ≡ Unz

-- it stands here
pub first_here : (g : Segment) (after : List Segment) → is_whole g ≡ true → is Unz (kind_of g) ≡ true → First (g ∷ after) g after
first_here g after w u =
    record {
      before = [];
      split = refl;
      none_before = λ q m. absurd (Memᴰ.not-nil m);
      faultless = λ q m. absurd (Memᴰ.not-nil m);
      own = (whole_says g).0 w;
      kind = (unz_says g).0 u;
    }

-- or behind another segment
pub first_on : (g : Segment) {gs : List Segment} {unz : Segment} {after : List Segment} → is_whole g ≡ true → is Unz (kind_of g) ≡ false
    → First gs unz after → First (g ∷ gs) unz after
first_on g w u f =
    record {
      before = g ∷ f.before;
      split = ap (λ (l : List Segment). g ∷ l) f.split;
      none_before = no_unz_more g f.before u f.none_before;
      faultless = λ q m. ⊎_elim (λ e. subst Faultless (sym e) ((whole_says g).0 w)) (f.faultless q) (Memᴰ.cases_cons m);
      own = f.own;
      kind = f.kind;
    }

-- of the same segments
pub first_as : {gs hs : List Segment} {unz : Segment} {after : List Segment} → gs ≡ hs → First hs unz after → First gs unz after
first_as e f =
    record {
      before = f.before;
      split = e ∙ f.split;
      none_before = f.none_before;
      faultless = f.faultless;
      own = f.own;
      kind = f.kind;
    }

-- the walk over a segment, by what it is
over : (g : Segment) (gs : List Segment) {w u : Bool} → is_whole g ≡ w → is Unz (kind_of g) ≡ u
    → first_unz (g ∷ gs) ≡ (if w then (if u then some g else first_unz gs) else none)
unfolding first_unz
over g gs e d = ap₂ (λ (w u : Bool). if w then (if u then some g else first_unz gs) else none) e d

-- no other is the first
pub first_is : (before : List Segment) (unz : Segment) (after : List Segment) → NoUnz before
    → ((g : Segment) → Memᴰ g before → Faultless g) → Faultless unz → kind_of unz ≡ Unz → first_unz (before ++ unz ∷ after) ≡ some unz
first_is [] unz after n f own k = over unz after ((whole_says unz).1 own) ((unz_says unz).1 k)
first_is (g ∷ before) unz after n f own k =
    over g (before ++ unz ∷ after) ((whole_says g).1 (f g (Memᴰ.head refl))) ((fails (is Unz (kind_of g)) (unz_says g)).1 (n g (Memᴰ.head refl)))
    ∙ first_is before unz after (λ q m. n q (Memᴰ.tail m)) (λ q m. f q (Memᴰ.tail m)) own k

-- ---- none

-- a segment meets 4 to 6 before which no UNZ stands, or no UNZ stands anywhere
pub data None (gs : List Segment) : Type 0 where
  fault : (before : List Segment) (g : Segment) (after : List Segment) → gs ≡ before ++ g ∷ after → NoUnz before → (Faultless g → ⊥) → None gs
  nowhere : NoUnz gs → None gs

pub first_none : (gs : List Segment) → first_unz gs ≡ none → None gs
unfolding first_unz
first_none [] h = nowhere (λ q m. absurd (Memᴰ.not-nil m))
first_none (g ∷ gs) h = step (is_whole g) (is Unz (kind_of g)) refl refl h (first_none gs)
  where
    more : is Unz (kind_of g) ≡ false → None gs → None (g ∷ gs)
    more e (fault before q after split n f) = fault (g ∷ before) q after (ap (λ (l : List Segment). g ∷ l) split) (no_unz_more g before e n) f
    more e (nowhere n) = nowhere (no_unz_more g gs e n)

    step : (w u : Bool) → is_whole g ≡ w → is Unz (kind_of g) ≡ u → (if w then (if u then some g else first_unz gs) else none) ≡ none
        → (first_unz gs ≡ none → None gs) → None (g ∷ gs)
    step false u w e k rest = fault [] g gs refl (λ q m. absurd (Memᴰ.not-nil m)) ((fails (is_whole g) (whole_says g)).0 w)
    step true true w e k rest = let z : ◌≡◌ {A = ℕ} 0 1 = cc in absurd (omega arith)
    step true false w e k rest = more e (rest k)

-- where a segment is passed over, or stops the walk
past : (g : Segment) (gs : List Segment) → (kind_of g ≡ Unz → ⊥) → first_unz gs ≡ none → first_unz (g ∷ gs) ≡ none
past g gs n h = step (is_whole g) refl
  where
    u : is Unz (kind_of g) ≡ false
    u = (fails (is Unz (kind_of g)) (unz_says g)).1 n

    step : (w : Bool) → is_whole g ≡ w → first_unz (g ∷ gs) ≡ none
    step true e = over g gs e u ∙ h
    step false e = over g gs e u

pub none_faulty : (before : List Segment) (g : Segment) (after : List Segment) → NoUnz before → (Faultless g → ⊥) → first_unz (before ++ g ∷ after) ≡ none
none_faulty [] g after n f = over g after ((fails (is_whole g) (whole_says g)).1 f) refl
none_faulty (q ∷ before) g after n f =
    past q (before ++ g ∷ after) (n q (Memᴰ.head refl)) (none_faulty before g after (λ p m. n p (Memᴰ.tail m)) f)

pub none_nowhere : (gs : List Segment) → NoUnz gs → first_unz gs ≡ none
unfolding first_unz
none_nowhere [] n = refl
none_nowhere (g ∷ gs) n = past g gs (n g (Memᴰ.head refl)) (none_nowhere gs (λ q m. n q (Memᴰ.tail m)))
