-- Where there is room for either of two texts and not for both, the one that is put first is kept and the other is not. Assumes nothing.
use Prim.Native.Nat.{ℕ, ◌+◌, ◌≤◌}
use mathlib.Core.Path.{◌≡◌, refl, sym, ap, subst, ◌∙◌}
use mathlib.Core.Bool.{true, true≢false}
use mathlib.Core.List.Permᴰ
use mathlib.Core.List.{List, [], ◌∷◌, map}
use mathlib.Core.Logic.{inr, ⊎_elim}
use native.Mathlib.Omega.{arith}
use lib.Dec.{leb}
use lib.ListN.{length}
use Rattle.lists.specs.Lists.{is_empty}
use Rattle.lists.proofs.Tests.{says_le, decides}
use Rattle.stages.specs.Contents.{normal_form}
use Rattle.shelves.specs.Layout.{Layout, total, free, kept, end_of}
use Rattle.shelves.specs.Operations.{lowest_free, put_shelf}
use Rattle.shelves.proofs.Sound.{Sound, says_accepted, says_sound}
use Rattle.shelves.proofs.Found.{lowest_free_lem, some_free}
use Rattle.shelf_laws.specs.Shelf.{New}
use Rattle.shelf_laws.proofs.Order.{then_full, then_roomless}
use Rattle.shelf_laws.proofs.PutLaws.{refused_stays}
use Rattle.either_order_laws.specs.EitherOrder.{Kept, free_bytes, new_forms, Room, RoomForEither, PutAll}
use Rattle.either_order_laws.proofs.Reordering.{Texts}
use Rattle.either_order_laws.proofs.NewTexts.{all_bytes, new_none}
use Rattle.either_order_laws.proofs.OnePut.{Stepped, some_left, one_put}
use Rattle.either_order_laws.proofs.ManyPuts.{new_kept, new_unkept, Ready, room_first, ready_back, ready_alike}

none_left : (ks : List ℕ) → (1 ≤ length ks → ⊥) → is_empty ks ≡ true
unfolding is_empty
none_left [] u = refl
none_left (k ∷ ks) u = absurd (u (omega arith))

module _ (l : Layout) where
  -- ---- room, as it is said of interchanges and of normal forms

  pub ready : (s : List ℕ) (inputs : Texts) → Sound l s → Room l s inputs → Ready l s (map normal_form inputs)
  unfolding free_bytes new_forms
  ready s inputs was room = record { is = was; slots = room.slots; bytes = omega (arith, room.bytes, was.room) }

  pub room_of : (s : List ℕ) (inputs : Texts) → Ready l s (map normal_form inputs) → Room l s inputs
  unfolding free_bytes new_forms
  room_of s inputs r = record { slots = r.slots; bytes = omega (arith, r.bytes) }

  -- the two may be named in either order
  pub turned : (s a b : List ℕ) → RoomForEither l s a b → RoomForEither l s b a
  turned s a b e = record {
    sane = e.sane;
    accepted_a = e.accepted_b;
    accepted_b = e.accepted_a;
    room_a = e.room_b;
    room_b = e.room_a;
    not_both =
        λ r.
        e.not_both (room_of s (a ∷ b ∷ [])
        (ready_alike l s (Permᴰ.swap refl refl) (ready s (b ∷ a ∷ []) ((says_sound l s).0 e.sane) r)));
  }

module _ (l : Layout) (sums : 21 ≤ l.pairs) (s a b : List ℕ) (either : RoomForEither l s a b) where
  abbrev after : List ℕ
  after = put_shelf l s a

  head : 13 ≤ l.pairs
  head = omega arith

  was : Sound l s
  was = (says_sound l s).0 either.sane

  first_put : Stepped l s (normal_form a) after
  first_put =
      (one_put l sums s a was ((says_accepted a).0 either.accepted_a)
      (room_first l s (normal_form a) [] (ready l s (a ∷ []) was either.room_a))).0

  -- then there is no room for the other
  unready : Ready l after (normal_form b ∷ []) → ⊥
  unready r = either.not_both (room_of l s (a ∷ b ∷ []) (ready_back l s (normal_form a) (normal_form b ∷ []) after first_put was r))

  not_kept : Kept l after (normal_form b) → ⊥
  unfolding total
  not_kept k =
      let e = new_kept l after (normal_form b) [] k ∙ new_none (kept l after) in
      unready (record { is = first_put.is; slots = omega (arith, ap length e); bytes = omega (arith, first_put.is.room, ap all_bytes e) })

  still_new : New l after b
  still_new = ((says_sound l after).1 first_put.is, (says_accepted b).0 either.accepted_b, λ k o e. not_kept (k, o, e))

  -- no slot is left, or too few bytes are
  slotless : (1 ≤ length (free after) → ⊥) → put_shelf l after b ≡ after
  slotless u =
      refused_stays l head after b _
      (then_full l after b still_new (λ k f. true≢false (sym (none_left (free after) u) ∙ some_free l after k f)))

  roomless : 1 ≤ length (free after) → (end_of l after + length (normal_form b) ≤ length after → ⊥) → put_shelf l after b ≡ after
  roomless h u =
      refused_stays l head after b _
      (then_roomless l after b still_new (lowest_free l after) (lowest_free_lem l after (some_left (free after) h)).is_free (omega arith))

  both_left : 1 ≤ length (free after) → end_of l after + length (normal_form b) ≤ length after → Ready l after (normal_form b ∷ [])
  unfolding total
  both_left h i =
      let e = new_unkept l after (normal_form b) [] not_kept in
      let n = new_none (normal_form b ∷ kept l after) in
      record { is = first_put.is; slots = omega (arith, ap length e, ap length n); bytes = omega (arith, ap all_bytes e, ap all_bytes n) }

  second_stays : put_shelf l after b ≡ after
  second_stays =
      ⊎_elim
      (λ (h : 1 ≤ length (free after)).
      ⊎_elim (λ (i : end_of l after + length (normal_form b) ≤ length after). absurd (unready (both_left h i))) (roomless h)
      (decides (leb (end_of l after + length (normal_form b)) (length after)) (says_le (end_of l after + length (normal_form b)) (length after))))
      slotless
      (decides (leb 1 (length (free after))) (says_le 1 (length (free after))))

  pub first_alone : (t : List ℕ) → PutAll l s (a ∷ b ∷ []) t → Kept l t (normal_form a) × (Kept l t (normal_form b) → ⊥)
  unfolding PutAll
  first_alone t (ra, m, p, (rb, n, q, e)) =
      let end : after ≡ t = sym (e ∙ q.1 ∙ subst (λ (x : List ℕ). put_shelf l x b ≡ after) (sym p.1) second_stays) in
      subst (λ (x : List ℕ). Kept l x (normal_form a) × (Kept l x (normal_form b) → ⊥)) end
      ((first_put.texts (normal_form a)).1 (inr refl), not_kept)
