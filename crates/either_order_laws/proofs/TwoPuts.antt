-- One text put on two shelves that are alike leaves them alike, and so do two texts in either order. Assumes nothing.
use Prim.Native.Nat.{ℕ}
use mathlib.Core.Path.{◌≡◌, refl, sym, ap, subst}
use mathlib.Core.List.{List}
use mathlib.Core.Logic.{inl, inr, ⊎_elim}
use native.Mathlib.Omega.{arith}
use lib.ListN.{length}
use Rattle.lists.specs.Lists.{same}
use Rattle.lists.proofs.Tests.{says_same, decides}
use Rattle.shelves.specs.Layout.{Layout, occupied, duplicates_of, held}
use Rattle.either_order_laws.specs.EitherOrder.{Kept, Alike}
use Rattle.either_order_laws.proofs.OnePut.{AsCopy, AsNew, Stepped, is_copy_lem, is_new_lem}

-- as many slots are occupied, as many bytes held, as many duplicates found
abbrev Figures : Layout → (s t : List ℕ) → Type 0
Figures l s t = (length (occupied s) ≡ length (occupied t)) × (held l s ≡ held l t) × (duplicates_of s ≡ duplicates_of t)

module _ (l : Layout) where
  -- a shelf is like itself, and likeness goes from one to the next
  pub alike_itself : (s : List ℕ) → Alike l s s
  alike_itself s = record { texts = λ text. (λ k. k, λ k. k); slots = refl; bytes = refl; duplicates = refl }

  pub alike_on : {s t v : List ℕ} → Alike l s t → Alike l t v → Alike l s v
  alike_on a b = record {
    texts = λ text. (λ k. (b.texts text).0 ((a.texts text).0 k), λ k. (a.texts text).1 ((b.texts text).1 k));
    slots = omega arith;
    bytes = omega arith;
    duplicates = omega arith;
  }

  -- ---- the same text on two shelves

  module _ (f s m t n : List ℕ) (a : Alike l s t) (p : Stepped l s f m) (q : Stepped l t f n) where
    one_figures : Figures l m n
    one_figures =
        ⊎_elim
        (λ (c : AsCopy l s f m). let d = is_copy_lem l t f n q ((a.texts f).0 c.kept) in (omega arith, omega arith, omega arith))
        (λ (c : AsNew l s f m). let d = is_new_lem l t f n q (λ k. c.fresh ((a.texts f).1 k)) in (omega arith, omega arith, omega arith))
        p.either

    pub one_text : Alike l m n
    one_text = record {
      texts =
          λ text. (
            λ k. (q.texts text).1 (⊎_elim (λ h. inl ((a.texts text).0 h)) inr ((p.texts text).0 k)),
            λ k. (p.texts text).1 (⊎_elim (λ h. inl ((a.texts text).1 h)) inr ((q.texts text).0 k)),
          );
      slots = one_figures.0;
      bytes = one_figures.1;
      duplicates = one_figures.2;
    }

  -- ---- two texts in either order

  -- what is kept after f and then g is kept after g and then f
  kept_also : (f g s m x t n y : List ℕ) → ((text : List ℕ) → Kept l s text → Kept l t text)
      → Stepped l s f m → Stepped l m g x → Stepped l t g n → Stepped l n f y → (text : List ℕ) → Kept l x text → Kept l y text
  kept_also f g s m x t n y also sf mg tg nf text k =
      ⊎_elim
      (λ (h : Kept l m text).
      (nf.texts text).1 (⊎_elim (λ (i : Kept l s text). inl ((tg.texts text).1 (inl (also text i)))) inr ((sf.texts text).0 h)))
      (λ (e : text ≡ g). (nf.texts text).1 (inl ((tg.texts text).1 (inr e))))
      ((mg.texts text).0 k)

  module _ (f g s m x t n y : List ℕ) (a : Alike l s t)
      (sf : Stepped l s f m) (mg : Stepped l m g x) (tg : Stepped l t g n) (nf : Stepped l n f y) where
    -- f was kept: it is a copy in both orders, and g is what it would be without f
    f_kept : AsCopy l s f m → Figures l x y
    f_kept c =
        let fn = is_copy_lem l n f y nf ((tg.texts f).1 (inl ((a.texts f).0 c.kept))) in
        ⊎_elim
        (λ (d : AsCopy l t g n).
        let gm = is_copy_lem l m g x mg ((sf.texts g).1 (inl ((a.texts g).1 d.kept))) in (omega arith, omega arith, omega arith))
        (λ (d : AsNew l t g n).
        let gm =
        is_new_lem l m g x mg (λ k.
        ⊎_elim (λ (h : Kept l s g). d.fresh ((a.texts g).0 h)) (λ (e : g ≡ f). d.fresh ((a.texts g).0 (subst (Kept l s) (sym e) c.kept)))
        ((sf.texts g).0 k)) in
        (omega arith, omega arith, omega arith))
        tg.either

    -- f was not kept, g was: g is a copy in both orders, and f is new
    g_kept : AsNew l s f m → AsCopy l t g n → Figures l x y
    g_kept c d =
        let gm = is_copy_lem l m g x mg ((sf.texts g).1 (inl ((a.texts g).1 d.kept))) in
        let fn =
        is_new_lem l n f y nf (λ k.
        ⊎_elim (λ (h : Kept l t f). c.fresh ((a.texts f).1 h)) (λ (e : f ≡ g). c.fresh ((a.texts f).1 (subst (Kept l t) (sym e) d.kept)))
        ((tg.texts f).0 k)) in
        (omega arith, omega arith, omega arith)

    -- neither was: where they are the same, the first is new and the second its copy; else both are new
    none_kept : AsNew l s f m → AsNew l t g n → Figures l x y
    none_kept c d =
        ⊎_elim
        (λ (e : f ≡ g).
        let gm = is_copy_lem l m g x mg ((sf.texts g).1 (inr (sym e))) in
        let fn = is_copy_lem l n f y nf ((tg.texts f).1 (inr e)) in
        let long = ap length e in
        (omega arith, omega arith, omega arith))
        (λ (u : f ≡ g → ⊥).
        let gm = is_new_lem l m g x mg (λ k. ⊎_elim (λ (h : Kept l s g). d.fresh ((a.texts g).0 h)) (λ (e : g ≡ f). u (sym e)) ((sf.texts g).0 k)) in
        let fn = is_new_lem l n f y nf (λ k. ⊎_elim (λ (h : Kept l t f). c.fresh ((a.texts f).1 h)) u ((tg.texts f).0 k)) in
        (omega arith, omega arith, omega arith))
        (decides (same f g) (says_same f g))

    figures : Figures l x y
    figures = ⊎_elim f_kept (λ (c : AsNew l s f m). ⊎_elim (g_kept c) (none_kept c) tg.either) sf.either

    pub two_texts : Alike l x y
    two_texts = record {
      texts =
          λ text. (
            kept_also f g s m x t n y (λ z. (a.texts z).0) sf mg tg nf text,
            kept_also g f t n y s m x (λ z. (a.texts z).1) tg nf sf mg text,
          );
      slots = figures.0;
      bytes = figures.1;
      duplicates = figures.2;
    }
