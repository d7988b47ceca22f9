-- Two networks, either order, for every layout that has the two sums. Assumes nothing.
use Rattle.refusals.specs.declared.Refusal.{Refusal}
use Rattle.std.specs.Prelude.{Ok, Result}
use Prim.Native.Nat.{ℕ, ◌+◌, ◌-◌, ◌≤◌, min}
use mathlib.Core.Path.{◌≡◌, refl, sym, ap, ◌∙◌}
use mathlib.Core.Bool.{true}
use mathlib.Core.List.{List, [], ◌∷◌, ◌++◌, map, Permᴰ}
use mathlib.Core.Logic.{◌⊎◌, inl, inr, ⊎_elim}
use native.Mathlib.Omega.{arith}
use lib.ListN.{length, length-map, get_or}
use Rattle.lists.specs.Lists.{all}
use Rattle.lists.proofs.Texts.{and_left, and_right}
use Rattle.stages.specs.Contents.{normal_form}
use Rattle.operations.specs.Compare.{is_accepted}
use Rattle.answers.specs.Answers.{Answer, given}
use Rattle.shelves.specs.declared.Shelved.{Shelved}
use Rattle.shelves.specs.declared.Shelved.TheVariants as shelved
use Rattle.shelves.specs.Answers.{new_at, copy_at, told_shelved, told_slots}
use Rattle.shelves.specs.declared.TwoSums.{TwoSums}
use Rattle.shelves.specs.Layout.{Layout, version_two, total, occupied, free, duplicates_of, kept, held}
use Rattle.shelves.specs.Operations.{put}
use Rattle.shelves.proofs.Sound.{says_accepted, says_sound}
use Rattle.shelves.proofs.Answered.{sums_given, slots_given}
use Rattle.shelf_contracts.specs.Promises.{Puts, Counts, Sums}
use Rattle.shelf_contracts.proofs.Told.{shelved_tells, sums_tells}
use Rattle.shelf_laws.specs.Shelf.{Sound}
use Rattle.either_order_laws.specs.EitherOrder.{Alike, free_bytes, new_forms, Room, PutAll, Reordered, EitherOrder}
use Rattle.either_order_laws.proofs.Reordering.{Texts, Each, each_alike, map_alike, by_swaps}
use Rattle.either_order_laws.proofs.NewTexts.{new_fewer, new_shorter}
use Rattle.either_order_laws.proofs.TwoPuts.{alike_itself}
use Rattle.either_order_laws.proofs.ManyPuts.{IsAccepted, Ready, ready_alike, steps_sound, steps_keep, steps_figures, any_two, put_step, put_steps, ready_behind, forms_normal}
use Rattle.either_order_laws.proofs.RoomNeeded.{ready, turned, first_alone}

-- ---- from the tests

each_accepted : (inputs : Texts) → all is_accepted inputs ≡ true → Each IsAccepted inputs
unfolding all Each
each_accepted [] h = tt
each_accepted (input ∷ inputs) h = (
  (says_accepted input).0 (and_left (is_accepted input) (all is_accepted inputs) h),
  each_accepted inputs (and_right (is_accepted input) (all is_accepted inputs) h),
)

module _ (l : Layout) (sums : 21 ≤ l.pairs) where
  enough_room : (s : List ℕ) (inputs : Texts) → length inputs ≤ length (free s) → total (map length (map normal_form inputs)) ≤ free_bytes l s
      → Room l s inputs
  unfolding new_forms
  enough_room s inputs slots bytes =
      let forms : Texts = map normal_form inputs in
      record {
        slots = omega (arith, new_fewer forms (kept l s), length-map inputs normal_form);
        bytes = omega (arith, new_shorter forms (kept l s));
      }

  is_ready : (s : List ℕ) (inputs : Texts) → Sound l s → Room l s inputs → Ready l s (map normal_form inputs)
  is_ready s inputs sane = ready l s inputs ((says_sound l s).0 sane)

  -- ---- any two orders

  -- by swaps that lead from the one list to the other
  reordered : (s : List ℕ) (first second : Texts) → Sound l s → Each IsAccepted first → Room l s first → Permᴰ first second
      → (t v : List ℕ) → PutAll l s first t → PutAll l s second v → Alike l t v
  reordered s first second sane each room swaps t v p q =
      let r = is_ready s first sane room in
      let forms = map_alike normal_form swaps in
      any_two l sums forms s s t v (alike_itself l s) (forms_normal l first each) r
      (put_steps l sums first s t each r p)
      (put_steps l sums second s v (each_alike IsAccepted swaps each) (ready_alike l s forms r) q)

  two_sites : (s u : List ℕ) (first second : Texts) → Sound l s → Sound l u → Alike l s u
      → all is_accepted first ≡ true → all is_accepted second ≡ true → Room l s first → Room l u second
      → Reordered (map normal_form first) (map normal_form second)
      → (t v : List ℕ) → PutAll l s first t → PutAll l u second v → Alike l t v
  two_sites s u first second sane also a accepted second-accepted rf rs h t v p q =
      let ef = each_accepted first accepted in
      let r = is_ready s first sane rf in
      any_two l sums (by_swaps (map normal_form first) (map normal_form second) h) s u t v a (forms_normal l first ef) r
      (put_steps l sums first s t ef r p)
      (put_steps l sums second u v (each_accepted second second-accepted) (is_ready u second also rs) q)

  -- ---- what each answers

  none_refused : (s : List ℕ) (before : Texts) (input : List ℕ) (behind : Texts) → Sound l s
      → all is_accepted (before ++ input ∷ behind) ≡ true → Room l s (before ++ input ∷ behind)
      → (m after : List ℕ) (r : Result Shelved Refusal) → PutAll l s before m → Puts l m input r after
      → (slot : ℕ) × ((r ≡ Ok (shelved.New slot)) ⊎ (r ≡ Ok (shelved.Copy slot)))
  unfolding told_shelved Each
  none_refused s before input behind sane accepted room m after r all p =
      let (each, left) =
      ready_behind l sums before (input ∷ behind) s m (each_accepted (before ++ input ∷ behind) accepted)
      (is_ready s (before ++ input ∷ behind) sane room) all in
      let (slot, told) = (put_step l sums m input (map normal_form behind) after r each.0 left p).1 in (
        slot,
        ⊎_elim
            (λ (e : put l m input ≡ new_at slot). inl (shelved_tells r (Ok (shelved.New slot)) (p.0 ∙ e)))
            (λ (e : put l m input ≡ copy_at slot). inr (shelved_tells r (Ok (shelved.Copy slot)) (p.0 ∙ e)))
            told,
      )

  -- ---- the two figures

  figures_then : (s : List ℕ) (inputs : Texts) → Sound l s → all is_accepted inputs ≡ true → Room l s inputs
      → (t : List ℕ) → PutAll l s inputs t
      → (held l t ≡ held l s + total (map length (new_forms l s inputs)))
      × (duplicates_of s ≤ 4294967295
      → duplicates_of t ≡ min (duplicates_of s + (length inputs - length (new_forms l s inputs))) 4294967295)
  unfolding new_forms
  figures_then s inputs sane accepted room t p =
      let steps = put_steps l sums inputs s t (each_accepted inputs accepted) (is_ready s inputs sane room) p in
      let (sum, found) = steps_figures l (map normal_form inputs) s t steps in
      (sum, λ h. omega (arith, found h, length-map inputs normal_form))

  -- ---- what is told

  sums_alike : (s t : List ℕ) → Sound l s → Sound l t → Alike l s t → (r q : Result TwoSums Refusal) → Sums l s r → Sums l t q → r ≡ q
  sums_alike s t sane also a r q h k =
      sums_tells r q (h ∙ sums_given l s sane ∙ same ∙ sym (k ∙ sums_given l t also))
    where
      same : given (held l s ∷ duplicates_of s ∷ []) ≡ given (held l t ∷ duplicates_of t ∷ [])
      same = rw (a.bytes, a.duplicates)

  abbrev first_value : Answer → ℕ
  first_value a = get_or a.values 0 0

  told_occupied : (s : List ℕ) → Sound l s → (n j : ℕ) → Counts l s (Ok (record { occupied = n; lowest_free = j })) → n ≡ length (occupied s)
  unfolding told_slots given
  told_occupied s sane n j h = ap first_value (h ∙ slots_given l s sane)

  slots_alike : (s t : List ℕ) → Sound l s → Sound l t → Alike l s t
      → (n m j k : ℕ) → Counts l s (Ok (record { occupied = n; lowest_free = j })) → Counts l t (Ok (record { occupied = m; lowest_free = k })) → n ≡ m
  slots_alike s t sane also a n m j k h i = told_occupied s sane n j h ∙ a.slots ∙ sym (told_occupied t also m k i)

  pub either_order : EitherOrder l
  unfolding total PutAll Each
  either_order = record {
    two =
        λ s a b sane aa ab slots bytes ra rb qb qa m t n v pa pb qb' qa'.
        reordered s (a ∷ b ∷ []) (b ∷ a ∷ []) sane ((says_accepted a).0 aa, ((says_accepted b).0 ab, tt))
        (enough_room s (a ∷ b ∷ []) slots (omega arith))
        (Permᴰ.swap refl refl) t v (ra, m, pa, (rb, t, pb, refl)) (qb, n, qb', (qa, v, qa', refl));
    any_order =
        λ s first second sane aa room h. reordered s first second sane (each_accepted first aa) room (by_swaps first second h);
    two_sites = two_sites;
    enough_room = enough_room;
    keeps_all =
        λ s inputs sane aa room t p.
        let steps = put_steps l sums inputs s t (each_accepted inputs aa) (is_ready s inputs sane room) p in
        let is = steps_sound l (map normal_form inputs) s t ((says_sound l s).0 sane) steps in
        ((says_sound l t).1 is, steps_keep l (map normal_form inputs) s t steps);
    none_refused = none_refused;
    figures_then = figures_then;
    room_needed =
        λ s a b either t v p q.
        (first_alone l sums s a b either t p, first_alone l sums s b a (turned l s a b either) v q);
    told_alike = λ s t sane also a. (sums_alike s t sane also a, slots_alike s t sane also a);
  }

-- so for version 2
pub either_order_two : EitherOrder version_two
either_order_two = either_order version_two (omega arith)
