-- Texts put one after the other on shelves that are alike, in two orders, leave them alike: by swaps of neighbours, from the law for two.
-- Assumes nothing.
use Rattle.refusals.specs.declared.Refusal.{Refusal}
use Rattle.std.specs.Prelude.{Result}
use Prim.Native.Nat.{ℕ, ◌+◌, ◌-◌, ◌≤◌, min}
use mathlib.Core.Path.{◌≡◌, refl, sym, ap, subst, ◌∙◌}
use mathlib.Core.Bool.{true, ◌||◌}
use mathlib.Core.List.Memᴰ
use mathlib.Core.List.{List, [], ◌∷◌, ◌++◌, map, Memᴰ, Permᴰ}
use mathlib.Core.Option.{none}
use mathlib.Core.Logic.{◌⊎◌, inl, inr, ⊎_elim, ◌↔◌}
use native.Mathlib.Omega.{arith}
use lib.ListN.{length}
use Rattle.lists.specs.Lists.{same}
use Rattle.lists.proofs.Tests.{Says, says_as, says_either, says_any, says_same, fails}
use Rattle.stages.specs.Contents.{normal_form}
use Rattle.stages.specs.Stages.{refusal_of}
use Rattle.shelves.specs.declared.Shelved.{Shelved}
use Rattle.shelves.specs.Layout.{Layout, slot_count, total, is_occupied, occupied, free, duplicates_of, text_of, kept, held, end_of}
use Rattle.shelves.specs.Soundness.{is_normal_form}
use Rattle.shelves.specs.Operations.{put_shelf}
use Rattle.shelves.proofs.Passing.{passing_has}
use Rattle.shelves.proofs.Sound.{Sound, says_normal}
use Rattle.shelf_contracts.specs.Promises.{Puts}
use Rattle.own_form_laws.proofs.OwnForm.{form_normal}
use Rattle.shelf_laws.specs.Shelf.{Keeps}
use Rattle.either_order_laws.specs.EitherOrder.{Kept, Alike, new_of, PutAll}
use Rattle.either_order_laws.proofs.Reordering.{Texts, weigh_alike, as_many, Each, each_alike}
use Rattle.either_order_laws.proofs.NewTexts.{among, says_alike, among_more, all_bytes, new_none, new_known, new_fresh, known_alike, new_fewer, new_alike}
use Rattle.either_order_laws.proofs.OnePut.{AsCopy, AsNew, Stepped, free_slots, one_put}
use Rattle.either_order_laws.proofs.TwoPuts.{alike_itself, alike_on, one_text, two_texts}

abbrev pub IsForm : List ℕ → Type 0
IsForm form = is_normal_form form ≡ true

abbrev pub IsAccepted : List ℕ → Type 0
IsAccepted input = refusal_of input ≡ none

module _ (l : Layout) where
  -- ---- the texts that are not kept yet

  pub says_kept : (s text : List ℕ) → Says (among (kept l s) text) (Kept l s text)
  unfolding kept occupied
  says_kept s text =
      says_as {P = (form : List ℕ) × Memᴰ form (kept l s) × (text ≡ form)} (says_any (same text) (says_same text) (kept l s))
      (λ (form, m, e).
      let (k, n, h) = Memᴰ.of_map (text_of l s) (occupied s) m in
      (k, (passing_has (is_occupied s) slot_count k).0 n, h ∙ sym e))
      (λ (k, o, h). (text_of l s k, Memᴰ.map (text_of l s) ((passing_has (is_occupied s) slot_count k).1 o), sym h))

  -- those of a list
  abbrev pub new_on : (s : List ℕ) → Texts → Texts
  new_on s forms = new_of (kept l s) forms

  pub new_kept : (s form : List ℕ) (forms : Texts) → Kept l s form → new_on s (form ∷ forms) ≡ new_on s forms
  new_kept s form forms k = new_known (kept l s) form forms ((says_kept s form).1 k)

  pub new_unkept : (s form : List ℕ) (forms : Texts) → (Kept l s form → ⊥) → new_on s (form ∷ forms) ≡ form ∷ new_of (form ∷ kept l s) forms
  new_unkept s form forms u = new_fresh (kept l s) form forms ((fails (among (kept l s) form) (says_kept s form)).1 u)

  module _ (s form : List ℕ) (forms : Texts) (after : List ℕ) (p : Stepped l s form after) where
    -- after a copy they are the same
    new_copy : AsCopy l s form after → new_on s (form ∷ forms) ≡ new_on after forms
    new_copy c =
        new_kept s form forms c.kept
        ∙ known_alike forms (kept l s) (kept l after) (λ text.
        says_alike {P = Kept l s text} (among (kept l s) text) (among (kept l after) text) (says_kept s text)
        (says_as {P = Kept l after text} (says_kept after text)
        (λ k. ⊎_elim (λ (h : Kept l s text). h) (λ (e : text ≡ form). subst (Kept l s) (sym e) c.kept) ((p.texts text).0 k))
        (λ k. (p.texts text).1 (inl k))))

    -- a new text was one of them
    new_new : AsNew l s form after → new_on s (form ∷ forms) ≡ form ∷ new_on after forms
    new_new c =
        new_unkept s form forms c.fresh
        ∙ ap (λ (more : Texts). form ∷ more) (known_alike forms (form ∷ kept l s) (kept l after) (λ text.
        among_more (kept l s) form text
        ∙ says_alike {P = (text ≡ form) ⊎ Kept l s text} (same text form || among (kept l s) text) (among (kept l after) text)
        (says_either (same text form) (among (kept l s) text) (says_same text form) (says_kept s text))
        (says_as {P = Kept l after text} (says_kept after text)
        (λ k. ⊎_elim (λ (h : Kept l s text). inr h) (λ (e : text ≡ form). inl e) ((p.texts text).0 k))
        (λ d. (p.texts text).1 (⊎_elim (λ (e : text ≡ form). inr e) (λ (h : Kept l s text). inl h) d)))))

  -- ---- room

  -- a sound shelf with room for those that are new
  pub record Ready (s : List ℕ) (forms : Texts) : Type 0 where
    pub is : Sound l s
    pub slots : length (new_on s forms) ≤ length (free s)
    pub bytes : end_of l s + total (map length (new_on s forms)) ≤ length s

  -- so for the first, where it is
  pub room_first : (s form : List ℕ) (forms : Texts) → Ready s (form ∷ forms) → (Kept l s form → ⊥)
      → (1 ≤ length (free s)) × (end_of l s + length form ≤ length s)
  unfolding total
  room_first s form forms r u =
      let e = new_unkept s form forms u in (omega (arith, r.slots, ap length e), omega (arith, r.bytes, ap all_bytes e))

  module _ (s form : List ℕ) (forms : Texts) (after : List ℕ) (p : Stepped l s form after) where
    -- room is left for the rest
    pub ready_on : Ready s (form ∷ forms) → Ready after forms
    unfolding end_of total
    ready_on r =
        let was = free_slots s in
        let now = free_slots after in
        ⊎_elim
        (λ (c : AsCopy l s form after).
        let e = new_copy s form forms after p c in
        record { is = p.is; slots = omega (arith, r.slots, ap length e); bytes = omega (arith, r.bytes, p.long, ap all_bytes e) })
        (λ (c : AsNew l s form after).
        let e = new_new s form forms after p c in
        record { is = p.is; slots = omega (arith, r.slots, ap length e); bytes = omega (arith, r.bytes, p.long, ap all_bytes e) })
        p.either

    -- and where it is left there was room for all
    pub ready_back : Sound l s → Ready after forms → Ready s (form ∷ forms)
    unfolding end_of total
    ready_back is r =
        let was = free_slots s in
        let now = free_slots after in
        ⊎_elim
        (λ (c : AsCopy l s form after).
        let e = new_copy s form forms after p c in
        record { is = is; slots = omega (arith, r.slots, ap length e); bytes = omega (arith, r.bytes, p.long, ap all_bytes e) })
        (λ (c : AsNew l s form after).
        let e = new_new s form forms after p c in
        record { is = is; slots = omega (arith, r.slots, ap length e); bytes = omega (arith, r.bytes, p.long, ap all_bytes e) })
        p.either

  -- in another order it is the same room
  pub ready_alike : (s : List ℕ) {xs ys : Texts} → Permᴰ xs ys → Ready s xs → Ready s ys
  ready_alike s d r =
      let news = new_alike d (kept l s) in
      record { is = r.is; slots = omega (arith, r.slots, as_many news); bytes = omega (arith, r.bytes, weigh_alike length news) }

  -- ---- what is kept then

  -- texts put one after the other
  unfoldable pub Steps : (s : List ℕ) → Texts → (t : List ℕ) → Type 0
  Steps s [] t = t ≡ s
  Steps s (form ∷ forms) t = (after : List ℕ) × Stepped l s form after × Steps after forms t

  pub steps_sound : (forms : Texts) (s t : List ℕ) → Sound l s → Steps s forms t → Sound l t
  unfolding Steps
  steps_sound [] s t was e = subst (Sound l) (sym e) was
  steps_sound (form ∷ forms) s t was (after, p, rest) = steps_sound forms after t p.is rest

  pub steps_keep : (forms : Texts) (s t : List ℕ) → Steps s forms t → (text : List ℕ) → Kept l t text ↔ (Kept l s text ⊎ Memᴰ text forms)
  unfolding Steps
  steps_keep [] s t e text = (
    λ k. inl (subst (λ (u : List ℕ). Kept l u text) e k),
    ⊎_elim (λ (k : Kept l s text). subst (λ (u : List ℕ). Kept l u text) (sym e) k) (λ (m : Memᴰ text []). absurd (Memᴰ.not-nil m)),
  )
  steps_keep (form ∷ forms) s t (after, p, rest) text =
      let ih = steps_keep forms after t rest text in (
        λ k.
            ⊎_elim
            (λ (h : Kept l after text). ⊎_elim inl (λ (e : text ≡ form). inr (Memᴰ.head e)) ((p.texts text).0 h))
            (λ (m : Memᴰ text forms). inr (Memᴰ.tail m))
            (ih.0 k),
        ⊎_elim
            (λ (k : Kept l s text). ih.1 (inl ((p.texts text).1 (inl k))))
            (λ (m : Memᴰ text (form ∷ forms)).
            ⊎_elim (λ (e : text ≡ form). ih.1 (inl ((p.texts text).1 (inr e)))) (λ (n : Memᴰ text forms). ih.1 (inr n))
            (Memᴰ.cases_cons m)),
      )

  -- the two figures: the new texts' bytes, and as many duplicates as there were others
  abbrev pub Summed : (s : List ℕ) → Texts → (t : List ℕ) → Type 0
  Summed s forms t =
      (held l t ≡ held l s + total (map length (new_on s forms)))
      × (duplicates_of s ≤ 4294967295 → duplicates_of t ≡ min (duplicates_of s + (length forms - length (new_on s forms))) 4294967295)

  pub steps_figures : (forms : Texts) (s t : List ℕ) → Steps s forms t → Summed s forms t
  unfolding Steps total
  steps_figures [] s t e =
      let none = new_none (kept l s) in
      (omega (arith, ap (held l) e, ap all_bytes none), λ h. omega (arith, ap duplicates_of e))
  steps_figures (form ∷ forms) s t (after, p, rest) =
      let (sum, found) = steps_figures forms after t rest in
      let fewer = new_fewer forms (kept l after) in
      ⊎_elim
      (λ (c : AsCopy l s form after).
      let e = new_copy s form forms after p c in
      (omega (arith, ap all_bytes e), λ h. let d = found (omega arith) in omega (arith, ap length e)))
      (λ (c : AsNew l s form after).
      let e = new_new s form forms after p c in
      (omega (arith, ap all_bytes e), λ h. let d = found (omega arith) in omega (arith, ap length e)))
      p.either

  -- ---- the same texts in the same order

  pub same_order : (forms : Texts) (s t x y : List ℕ) → Alike l s t → Steps s forms x → Steps t forms y → Alike l x y
  unfolding Steps
  same_order [] s t x y a e d = subst (λ (u : List ℕ). Alike l u y) (sym e) (subst (Alike l s) (sym d) a)
  same_order (form ∷ forms) s t x y a (m, p, ps) (n, q, qs) = same_order forms m n x y (one_text l form s m t n a p q) ps qs

  -- ---- in any two orders

  module _ (sums : 21 ≤ l.pairs) where
    -- a normal form can be put itself
    form_put : (s form : List ℕ) (forms : Texts) → IsForm form → Ready s (form ∷ forms) → Stepped l s form (put_shelf l s form)
    form_put s form forms normal r =
        let own = (says_normal form).0 normal in
        subst (λ (g : List ℕ). Stepped l s g (put_shelf l s form)) own.1
        (one_put l sums s form r.is own.0
        (subst (λ (g : List ℕ). (Kept l s g → ⊥) → (1 ≤ length (free s)) × (end_of l s + length g ≤ length s)) (sym own.1)
        (room_first s form forms r))).0

    -- so there is a shelf to which any list of them with room leads
    some_end : (forms : Texts) (s : List ℕ) → Each IsForm forms → Ready s forms → (t : List ℕ) × Steps s forms t
    unfolding Steps Each
    some_end [] s each r = (s, refl)
    some_end (form ∷ forms) s each r =
        let p = form_put s form forms each.0 r in
        let (t, rest) = some_end forms (put_shelf l s form) each.1 (ready_on s form forms (put_shelf l s form) p r) in
        (t, (put_shelf l s form, p, rest))

    pub any_two : {xs ys : Texts} → Permᴰ xs ys → (s t x y : List ℕ) → Alike l s t → Each IsForm xs → Ready s xs
        → Steps s xs x → Steps t ys y → Alike l x y
    unfolding Steps Each
    any_two Permᴰ.nil s t x y a each r e d = same_order [] s t x y a e d
    any_two (Permᴰ.cons {a = f} {b = g} {l₁ = fs} e d) s t x y a each r (m, p, ps) (n, q, qs) =
        let q' = subst (λ (h : List ℕ). Stepped l t h n) (sym e) q in
        any_two d m n x y (one_text l f s m t n a p q') each.1 (ready_on s f fs m p r) ps qs
    any_two (Permᴰ.swap {a = f} {b = g} {l = fs} e d) s t x y a each r (m, sf, (u, mg, ps)) (n, tg, (v, nf, qs)) =
        let tg' = subst (λ (h : List ℕ). Stepped l t h n) (sym d) tg in
        let nf' = subst (λ (h : List ℕ). Stepped l n h v) (sym e) nf in
        same_order fs u v x y (two_texts l f g s m u t n v a sf mg tg' nf') ps qs
    any_two (Permᴰ.trans {l₂ = ys} c d) s t x y a each r ps qs =
        let each' = each_alike IsForm c each in
        let r' = ready_alike s c r in
        let (z, mid) = some_end ys s each' r' in
        alike_on l (any_two c s s x z (alike_itself l s) each r ps mid) (any_two d s t z y a each' r' mid qs)

    -- ---- the contract of Put

    -- a Put that the contract allows, where there is room: what it does, and that it answers a slot
    pub put_step : (s input : List ℕ) (forms : Texts) (after : List ℕ) (r : Result Shelved Refusal) → IsAccepted input → Ready s (normal_form input ∷ forms)
        → Puts l s input r after → Stepped l s (normal_form input) after × ((slot : ℕ) × Keeps l s input slot)
    put_step s input forms after r accepted room p =
        let one = one_put l sums s input room.is accepted (room_first s (normal_form input) forms room) in
        (subst (Stepped l s (normal_form input)) (sym p.1) one.0, one.1)

    -- runs of interchanges that the contract allows are runs of their normal forms
    pub put_steps : (inputs : Texts) (s t : List ℕ) → Each IsAccepted inputs → Ready s (map normal_form inputs) → PutAll l s inputs t
        → Steps s (map normal_form inputs) t
    unfolding Steps Each PutAll
    put_steps [] s t each r e = e
    put_steps (input ∷ inputs) s t each r (answer, after, p, rest) =
        let one = (put_step s input (map normal_form inputs) after answer each.0 r p).0 in
        (after, one, put_steps inputs after t each.1 (ready_on s (normal_form input) (map normal_form inputs) after one r) rest)

    -- on the way there is room for those that are still to be put
    pub ready_behind : (before behind : Texts) (s m : List ℕ) → Each IsAccepted (before ++ behind) → Ready s (map normal_form (before ++ behind))
        → PutAll l s before m → Each IsAccepted behind × Ready m (map normal_form behind)
    unfolding Each PutAll
    ready_behind [] behind s m each r e = (each, subst (λ (u : List ℕ). Ready u (map normal_form behind)) (sym e) r)
    ready_behind (input ∷ before) behind s m each r (answer, after, p, rest) =
        let forms : Texts = map normal_form (before ++ behind) in
        let one = (put_step s input forms after answer each.0 r p).0 in
        ready_behind before behind after m each.1 (ready_on s (normal_form input) forms after one r) rest

  -- the normal forms of accepted interchanges are normal forms
  pub forms_normal : (inputs : Texts) → Each IsAccepted inputs → Each IsForm (map normal_form inputs)
  unfolding Each
  forms_normal [] each = each
  forms_normal (input ∷ inputs) each = (form_normal input each.0, forms_normal inputs each.1)
