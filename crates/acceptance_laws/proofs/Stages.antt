-- The stages, by their faults: a refusal is answered exactly where the paper says so. Assumes nothing.
use Prim.Native.Nat.{ℕ, ◌≤◌, ◌<◌}
use mathlib.Core.Path.{◌≡◌, refl, sym, ap, ap₂, subst, ◌∙◌}
use mathlib.Core.Logic.{◌↔◌, ⊎_elim, ◌⊎◌, inl, inr}
use mathlib.Core.Bool.{Bool, true, false}
use mathlib.Core.List.Memᴰ
use mathlib.Core.List.{List, [], ◌∷◌, ◌++◌, map, map-append, cons-ne-nil, Memᴰ}
use mathlib.Core.Option.{some}
use native.Mathlib.Omega.{arith}
use lib.Dec.{ltb}
use borrow.Author.Tests.{ltb-true, ltb-false}
use Rattle.lists.specs.Lists.{gather}
use Rattle.refusals.specs.declared.Fault.{Fault}
use Rattle.refusals.specs.declared.Refusal.{Refusal}
use Rattle.refusals.specs.Refusals.{Stage, number, met, is_lower, lowest, or_else, answering}
use Rattle.refusals.proofs.Order.{number_below, key, not_lower, key_least}
use Rattle.refusals.proofs.Lowest.{LowestOf, lowest_is, lowest_answers}
use Rattle.refusals.proofs.Stages.{NoneMet, met_member, answering_append, answering_first, answering_some, answering_none}
use Rattle.stages.specs.Stages.{places_of, brackets, bracketed, stages, refusal_of}
use Rattle.stages.proofs.Stages.{bracketed_is, none_met}
use Rattle.acceptance_laws.specs.Refused.{Refused}

-- ---- lists

-- where what a map gives is split in two, so is the list that it was made from
record Split {A B : Type 0} (f : A → B) (xs : List A) (ys : List B) (z : B) : Type 0 where
  before : List A
  one : A
  after : List A
  parts : xs ≡ before ++ one ∷ after
  front : map f before ≡ ys
  here : f one ≡ z

split_next : {A B : Type 0} (f : A → B) (x : A) {xs : List A} {y : B} {ys : List B} {z : B} → f x ≡ y → Split f xs ys z
    → Split f (x ∷ xs) (y ∷ ys) z
split_next f x e rest = record {
  before = x ∷ rest.before;
  one = rest.one;
  after = rest.after;
  parts = ap (λ (l : List _). x ∷ l) rest.parts;
  front = ap₂ ◌∷◌ e rest.front;
  here = rest.here;
}

map_split : {A B : Type 0} (f : A → B) (xs : List A) (ys : List B) (z : B) (zs : List B) → map f xs ≡ ys ++ z ∷ zs
    → Split f xs ys z
map_split f [] [] z zs e = absurd (cons-ne-nil z zs (sym e))
map_split f [] (y ∷ ys) z zs e = absurd (cons-ne-nil y (ys ++ z ∷ zs) (sym e))
map_split f (x ∷ xs) [] z zs e = record { before = []; one = x; after = xs; parts = refl; front = refl; here = cc }
map_split f (x ∷ xs) (y ∷ ys) z zs e = split_next f x (cc) (map_split f xs ys z zs (cc))

-- ---- "the lowest place, then the lowest number"

not_below : (r q : Refusal)
    → (is_lower q r ≡ false) ↔ ((r.place < q.place) ⊎ ((r.place ≡ q.place) × (number r.fault ≤ number q.fault)))
unfolding key
not_below r q = (λ h. step (ltb r.place q.place) refl (key_least q r h), λ h. not_lower q r (below h))
  where
    step : (t : Bool) → ltb r.place q.place ≡ t → key r ≤ key q
        → (r.place < q.place) ⊎ ((r.place ≡ q.place) × (number r.fault ≤ number q.fault))
    step true e h = inl (ltb-true r.place q.place e)
    step false e h =
        let farther : q.place ≤ r.place = ltb-false r.place q.place e in
        inr (omega (arith, number_below q.fault), omega (arith, number_below q.fault))

    below : (r.place < q.place) ⊎ ((r.place ≡ q.place) × (number r.fault ≤ number q.fault)) → key r ≤ key q
    below (inl h) = omega (arith, number_below r.fault)
    below (inr h) = omega arith

module _ (s : List ℕ) where
  -- a refusal is met in a stage exactly where its fault is of the stage, and is met at its place
  bracketed_member : (r : Refusal) (faults : List Fault)
      → Memᴰ r (bracketed s faults) ↔ (Memᴰ r.fault faults × Memᴰ r.place (places_of r.fault s))
  unfolding gather
  bracketed_member r faults = rw (bracketed_is s faults) (gathered faults)
    where
      MetBy : Fault → Type 0
      MetBy g = Memᴰ r.place (places_of g s)

      all_met : List Fault → Stage
      all_met faults = gather (λ f. met f (places_of f s)) faults

      gathered : (faults : List Fault) → Memᴰ r (all_met faults) ↔ (Memᴰ r.fault faults × MetBy r.fault)
      gathered [] = (λ m. absurd (Memᴰ.not-nil m), λ m. absurd (Memᴰ.not-nil m.0))
      gathered (f ∷ faults) =
          let rest = gathered faults in (
            λ m.
                ⊎_elim
                (λ k. let (e, p) = (met_member f r (places_of f s)).0 k in (Memᴰ.head e, subst MetBy (sym e) p))
                (λ k. let (e, p) = rest.0 k in (Memᴰ.tail e, p))
                (Memᴰ.append_cases (met f (places_of f s)) m),
            λ m.
                ⊎_elim
                (λ e. Memᴰ.append_left (all_met faults) ((met_member f r (places_of f s)).1 (e, subst MetBy e m.1)))
                (λ k. Memᴰ.append_right (met f (places_of f s)) (rest.1 (k, m.1)))
                (Memᴰ.cases_cons m.0),
          )

  -- a refusal is answered exactly where the paper says so
  pub refused_exactly : (f : Fault) (p : ℕ) → (refusal_of s ≡ some (record { fault = f; place = p })) ↔ Refused s f p
  unfolding refusal_of stages or_else
  refused_exactly f p = (there, back)
    where
      r : Refusal
      r = record { fault = f; place = p }

      there : answering (stages s) ≡ some r → Refused s f p
      there e =
          let (before, stage, after, split, earlier, low) = answering_some (map (bracketed s) brackets) r e in
          let d = map_split (bracketed s) brackets before stage after split in
          let is = lowest_is (bracketed s d.one) r (ap lowest d.here ∙ low) in
          let own = (bracketed_member r d.one).0 is.met in
          record {
            before = d.before;
            stage = d.one;
            after = d.after;
            split = d.parts;
            own = own.0;
            met = own.1;
            earlier = (none_met s d.before).0 (subst NoneMet (sym d.front) earlier);
            lowest = λ g m q k.
                let other : Refusal = record { fault = g; place = q } in
                (not_below r other).0 (is.least other ((bracketed_member other d.one).1 (m, k)));
          }

      least : (d : Refused s f p) → LowestOf (bracketed s d.stage) r
      least d = record {
        met = (bracketed_member r d.stage).1 (d.own, d.met);
        least = λ q m.
            let k = (bracketed_member q d.stage).0 m in (not_below r q).1 (d.lowest q.fault k.0 q.place k.1);
      }

      back : Refused s f p → answering (stages s) ≡ some r
      back d =
          ap answering (ap (map (bracketed s)) d.split ∙ map-append (bracketed s) d.before (d.stage ∷ d.after))
          ∙ answering_append (map (bracketed s) d.before) (bracketed s d.stage ∷ map (bracketed s) d.after)
          ∙ ap₂ or_else ((answering_none (map (bracketed s) d.before)).1 ((none_met s d.before).1 d.earlier))
          (answering_first (bracketed s d.stage) (map (bracketed s) d.after) (some r)
          (lowest_answers (bracketed s d.stage) r (least d)))
