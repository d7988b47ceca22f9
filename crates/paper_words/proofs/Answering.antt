-- Which refusal answers of stages that are lined up with lists of numbers: exactly the one that the paper's words name. Assumes nothing.
use Prim.Native.Nat.{ℕ, ◌≤◌, ◌<◌}
use mathlib.Core.Path.{◌≡◌, refl, sym, ap, subst, ◌∙◌}
use mathlib.Core.Bool.{Bool, true, false}
use mathlib.Core.Logic.{◌⊎◌, inl, inr, ⊎_elim, ◌↔◌}
use mathlib.Core.List.Memᴰ
use mathlib.Core.List.{List, [], ◌∷◌, ◌++◌, Memᴰ}
use mathlib.Core.Option.{Option, none, some, none-ne-some, some-injective}
use native.Mathlib.Omega.{arith}
use lib.Dec.{ltb}
use borrow.Author.Tests.{ltb-true, ltb-false}
use Rattle.lists.proofs.Tests.{fails}
use Rattle.refusals.specs.declared.Fault.{Fault}
use Rattle.refusals.specs.declared.Refusal.{Refusal}
use Rattle.refusals.specs.Refusals.{Stage, number, met, is_lower, lowest, or_else, answering}
use Rattle.refusals.proofs.Words.{lower_says}
use Rattle.refusals.proofs.Lowest.{lowest_none, lowest_is}
use Rattle.refusals.proofs.Stages.{met_member}
use Rattle.paper_words.specs.PaperWords.{Answers, here, later}

-- ---- "the lowest place, then the lowest number"

-- the first place and number are no higher than the second
abbrev pub Lower : ℕ → ℕ → ℕ → ℕ → Type 0
Lower p n q m = (p < q) ⊎ ((p ≡ q) × (n ≤ m))

pub lower_on : {p n q m o k : ℕ} → Lower p n q m → Lower q m o k → Lower p n o k
lower_on (inl a) (inl b) = inl (omega arith)
lower_on (inl a) (inr b) = inl (omega arith)
lower_on (inr a) (inl b) = inl (omega arith)
lower_on (inr a) (inr b) = inr (omega arith, omega arith)

lower_both : {p n q m : ℕ} → Lower p n q m → Lower q m p n → (p ≡ q) × (n ≡ m)
lower_both (inl a) (inl b) = absurd (omega arith)
lower_both (inl a) (inr b) = absurd (omega arith)
lower_both (inr a) (inl b) = absurd (omega arith)
lower_both (inr a) (inr b) = (a.0, omega arith)

-- what is not lower than another is no lower
not_lower : (r q : Refusal) → is_lower q r ≡ false → Lower r.place (number r.fault) q.place (number q.fault)
not_lower r q e = step (ltb r.place q.place) refl ((fails (is_lower q r) (lower_says q r)).0 e)
  where
    step : (t : Bool) → ltb r.place q.place ≡ t
        → ((q.place < r.place) ⊎ ((q.place ≡ r.place) × (number q.fault < number r.fault)) → ⊥)
        → Lower r.place (number r.fault) q.place (number q.fault)
    step true k n = inl (ltb-true r.place q.place k)
    step false k n = number_least (ltb q.place r.place) refl (ltb-false r.place q.place k)
      where
        by_number : (t : Bool) → ltb (number q.fault) (number r.fault) ≡ t → q.place ≡ r.place
            → Lower r.place (number r.fault) q.place (number q.fault)
        by_number true h same = absurd (n (inr (same, ltb-true (number q.fault) (number r.fault) h)))
        by_number false h same = inr (sym same, ltb-false (number q.fault) (number r.fault) h)

        number_least : (t : Bool) → ltb q.place r.place ≡ t → q.place ≤ r.place
            → Lower r.place (number r.fault) q.place (number q.fault)
        number_least true h le = absurd (n (inl (ltb-true q.place r.place h)))
        number_least false h le =
            by_number (ltb (number q.fault) (number r.fault)) refl (omega (arith, ltb-false q.place r.place h))

module _ (Met : ℕ → ℕ → Type 0) where
  -- ---- one stage

  -- what a stage with these numbers answers is the lowest that is met of them; where it answers nothing, none is met
  abbrev pub Settled : List ℕ → Option Refusal → Type 0
  Settled numbers none = (m q : ℕ) → Memᴰ m numbers → Met m q → ⊥
  Settled numbers (some r) =
      Memᴰ (number r.fault) numbers
      × Met (number r.fault) r.place
      × ((m q : ℕ) → Memᴰ m numbers → Met m q → Lower r.place (number r.fault) q m)

  -- all that the stage has is met, or something no higher is; and all that is met the stage has, or something no higher
  pub settles : (numbers : List ℕ) (stage : Stage)
      → ((r : Refusal) → Memᴰ r stage
      → (m : ℕ) × (q : ℕ) × Memᴰ m numbers × Met m q × Lower q m r.place (number r.fault))
      → ((m q : ℕ) → Memᴰ m numbers → Met m q
      → (r : Refusal) × Memᴰ r stage × Lower r.place (number r.fault) q m)
      → Settled numbers (lowest stage)
  settles numbers stage there back = step (lowest stage) refl
    where
      step : (o : Option Refusal) → lowest stage ≡ o → Settled numbers o
      step none e =
          λ m q k h. let (r, own, low) = back m q k h in Memᴰ.not-nil (subst (Memᴰ r) ((lowest_none stage).0 e) own)
      step (some r) e =
          let least = lowest_is stage r e in
          let (m, q, own, h, low) = there r least.met in
          let (r', own', low') = back m q own h in
          let same = lower_both (lower_on (not_lower r r' (least.least r' own')) low') low in (
            subst (λ (k : ℕ). Memᴰ k numbers) (sym same.1) own,
            subst (λ (k : ℕ). Met k r.place) (sym same.1) (subst (Met m) (sym same.0) h),
            λ k x i j. let (r'', own'', low'') = back k x i j in lower_on (not_lower r r'' (least.least r'' own'')) low'',
          )

  -- a stage of one number, whose places are those at which it is met
  pub settles_one : (f : Fault) (places : List ℕ) → ((p : ℕ) → Memᴰ p places ↔ Met (number f) p)
      → Settled (number f ∷ []) (lowest (met f places))
  settles_one f places are =
      settles (number f ∷ []) (met f places)
      (λ r k.
      let (e, p) = (met_member f r places).0 k in
      (number f, r.place, Memᴰ.head refl, (are r.place).0 p, inr (refl, omega (arith, ap number e))))
      (λ m q k h.
      let e : m ≡ number f = Memᴰ.eq_of_singleton k in
      let r : Refusal = record { fault = f; place = q } in
      (r, (met_member f r places).1 (refl, (are q).1 (subst (λ (x : ℕ). Met x q) e h)), inr (refl, omega arith)))

  -- a stage of three numbers: what is met of a later one is a place of it, or of an earlier one
  module _ (f g h : Fault) (ps qs rs : List ℕ) (fg : number f ≤ number g) (gh : number g ≤ number h) where
    abbrev three : Stage
    three = met f ps ++ (met g qs ++ met h rs)

    in_f : (p : ℕ) → Memᴰ p ps → Memᴰ (record { fault = f; place = p }) three
    in_f p m = Memᴰ.append_left (met g qs ++ met h rs) ((met_member f (record { fault = f; place = p }) ps).1 (refl, m))

    in_g : (p : ℕ) → Memᴰ p qs → Memᴰ (record { fault = g; place = p }) three
    in_g p m = Memᴰ.append_right (met f ps) (Memᴰ.append_left (met h rs) ((met_member g (record { fault = g; place = p }) qs).1 (refl, m)))

    in_h : (p : ℕ) → Memᴰ p rs → Memᴰ (record { fault = h; place = p }) three
    in_h p m = Memᴰ.append_right (met f ps) (Memᴰ.append_right (met g qs) ((met_member h (record { fault = h; place = p }) rs).1 (refl, m)))

    pub settles_three : ((p : ℕ) → Memᴰ p ps ↔ Met (number f) p)
        → ((p : ℕ) → Memᴰ p qs → Met (number g) p) → ((p : ℕ) → Met (number g) p → Memᴰ p qs ⊎ Memᴰ p ps)
        → ((p : ℕ) → Memᴰ p rs → Met (number h) p)
        → ((p : ℕ) → Met (number h) p → Memᴰ p rs ⊎ (Memᴰ p qs ⊎ Memᴰ p ps))
        → Settled (number f ∷ number g ∷ number h ∷ []) (lowest three)
    settles_three are g-there g-back h-there h-back = settles (number f ∷ number g ∷ number h ∷ []) three there back
      where
        numbers : List ℕ
        numbers = number f ∷ number g ∷ number h ∷ []

        there : (r : Refusal) → Memᴰ r three
            → (m : ℕ) × (q : ℕ) × Memᴰ m numbers × Met m q × Lower q m r.place (number r.fault)
        there r k =
            ⊎_elim
            (λ m.
            let (e, p) = (met_member f r ps).0 m in
            (number f, r.place, Memᴰ.head refl, (are r.place).0 p, inr (refl, omega (arith, ap number e))))
            (λ rest.
            ⊎_elim
            (λ m.
            let (e, p) = (met_member g r qs).0 m in
            (number g, r.place, Memᴰ.tail (Memᴰ.head refl), g-there r.place p, inr (refl, omega (arith, ap number e))))
            (λ m.
            let (e, p) = (met_member h r rs).0 m in
            (number h, r.place, Memᴰ.tail (Memᴰ.tail (Memᴰ.head refl)), h-there r.place p, inr (refl, omega (arith, ap number e))))
            (Memᴰ.append_cases (met g qs) rest))
            (Memᴰ.append_cases (met f ps) k)

        back : (m q : ℕ) → Memᴰ m numbers → Met m q → (r : Refusal) × Memᴰ r three × Lower r.place (number r.fault) q m
        back m q (Memᴰ.head e) k =
            (record { fault = f; place = q }, in_f q ((are q).1 (subst (λ (x : ℕ). Met x q) e k)), inr (refl, omega arith))
        back m q (Memᴰ.tail (Memᴰ.head e)) k =
            ⊎_elim
            (λ p. (record { fault = g; place = q }, in_g q p, inr (refl, omega arith)))
            (λ p. (record { fault = f; place = q }, in_f q p, inr (refl, omega arith)))
            (g-back q (subst (λ (x : ℕ). Met x q) e k))
        back m q (Memᴰ.tail (Memᴰ.tail (Memᴰ.tail j))) k = elim j [ ]
        back m q (Memᴰ.tail (Memᴰ.tail (Memᴰ.head e))) k =
            ⊎_elim
            (λ p. (record { fault = h; place = q }, in_h q p, inr (refl, omega arith)))
            (⊎_elim
            (λ p. (record { fault = g; place = q }, in_g q p, inr (refl, omega arith)))
            (λ p. (record { fault = f; place = q }, in_f q p, inr (refl, omega arith))))
            (h-back q (subst (λ (x : ℕ). Met x q) e k))

  -- ---- the stages, one after the other

  -- each is settled, if those before it have nothing
  abbrev pub Lined : List Stage → List (List ℕ) → Type 0
  Lined [] [] = Unit {0}
  Lined [] (numbers ∷ rest) = ⊥
  Lined (stage ∷ stages) [] = ⊥
  Lined (stage ∷ stages) (numbers ∷ rest) = Settled numbers (lowest stage) × (stage ≡ [] → Lined stages rest)

  -- what they answer, by its number and place
  abbrev pub Told : List Stage → ℕ → ℕ → Type 0
  Told stages n p = (r : Refusal) × (answering stages ≡ some r) × (number r.fault ≡ n) × (r.place ≡ p)

  module _ (n p : ℕ) where
    there : (stages : List Stage) (numbers : List (List ℕ)) → Lined stages numbers → Told stages n p → Answers Met n p numbers
    unfolding answering or_else
    there [] [] l t = absurd (none-ne-some t.0 t.1)
    there [] (numbers ∷ rest) l t = absurd l
    there (stage ∷ stages) [] l t = absurd l
    there (stage ∷ stages) (numbers ∷ rest) (settled, on) t =
        step (lowest stage) refl settled t (λ h. there stages rest (on h))
      where
        step : (o : Option Refusal) → lowest stage ≡ o → Settled numbers o
            → ((r : Refusal) × (or_else o (answering stages) ≡ some r) × (number r.fault ≡ n) × (r.place ≡ p))
            → (stage ≡ [] → Told stages n p → Answers Met n p rest) → Answers Met n p (numbers ∷ rest)
        step none e s t onward = later numbers rest s (onward ((lowest_none stage).0 e) t)
        step (some q) e (own, h, least) (r, same, number_is, place_is) onward =
            let q-is : q ≡ r = some-injective q r same in
            let number-q : number q.fault ≡ n = ap (λ (x : Refusal). number x.fault) q-is ∙ number_is in
            let place-q : q.place ≡ p = ap (λ (x : Refusal). x.place) q-is ∙ place_is in
            here numbers rest
            (subst (λ (k : ℕ). Memᴰ k numbers) number-q own)
            (subst (Met n) place-q (subst (λ (k : ℕ). Met k q.place) number-q h))
            (λ m x k j. lower_on {m = number q.fault} (inr (sym place-q, omega (arith, number-q))) (least m x k j))

    back : (stages : List Stage) (numbers : List (List ℕ)) → Lined stages numbers → Answers Met n p numbers → Told stages n p
    unfolding answering or_else
    back [] [] l a = elim a [ ]
    back [] (numbers ∷ rest) l a = absurd l
    back (stage ∷ stages) [] l a = absurd l
    back (stage ∷ stages) (numbers ∷ rest) (settled, on) a = step (lowest stage) refl settled a (λ h. back stages rest (on h))
      where
        step : (o : Option Refusal) → lowest stage ≡ o → Settled numbers o → Answers Met n p (numbers ∷ rest)
            → (stage ≡ [] → Answers Met n p rest → Told stages n p)
            → (r : Refusal) × (or_else o (answering stages) ≡ some r) × (number r.fault ≡ n) × (r.place ≡ p)
        step none e s (here _ _ own h least) onward = absurd (s n p own h)
        step none e s (later _ _ none_met a) onward = onward ((lowest_none stage).0 e) a
        step (some q) e (own, h, low) (here _ _ own' h' least) onward =
            let same = lower_both (low n p own' h') (least (number q.fault) q.place own h) in (q, refl, same.1, same.0)
        step (some q) e (own, h, low) (later _ _ none_met a) onward = absurd (none_met (number q.fault) q.place own h)

    pub answers_lined : (stages : List Stage) (numbers : List (List ℕ)) → Lined stages numbers → Told stages n p ↔ Answers Met n p numbers
    answers_lined stages numbers l = (there stages numbers l, back stages numbers l)
