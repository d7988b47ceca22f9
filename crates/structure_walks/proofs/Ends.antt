-- What a walk takes is the front of the list, made of the structure's tags; what it leaves is the rest. Behind a list that begins with another
-- tag it does not go. Assumes nothing.
use Rattle.std.specs.Prelude.{if◌then◌else◌}
use Prim.Native.Nat.{ℕ, zero, suc}
use mathlib.Core.Path.{◌≡◌, refl, sym, ap, ◌∙◌}
use mathlib.Core.Bool.{Bool, true, false, not, ◌&&◌}
use mathlib.Core.Logic.{⊎_elim}
use mathlib.Core.List.Memᴰ
use mathlib.Core.List.{List, [], ◌∷◌, ◌++◌, append_assoc, Memᴰ}
use mathlib.Core.Option.{some, none-ne-some, some-injective}
use lib.ListN.{drop}
use Rattle.lists.specs.Lists.{same}
use Rattle.lists.proofs.Texts.{same_eq}
use Rattle.message_tables.specs.Structure.{Structure, done, entry, tags_in}
use Rattle.message_structures.specs.Walking.{Walked, stopped, through, onward, leads, repeated, walk, left_over, unmatched}

module _ {A : Type 0} (f : A → List ℕ) where
  -- ---- what is taken

  -- all of them have one of the tags
  abbrev pub Tagged : List (List ℕ) → List A → Type 0
  Tagged tags taken = (g : A) → Memᴰ g taken → Memᴰ (f g) tags

  -- the list is what was taken, of these tags, and what is left
  abbrev pub Parts : List (List ℕ) → List A → List A → Type 0
  Parts tags gs left = (taken : List A) × (gs ≡ taken ++ left) × Tagged tags taken

  abbrev pub left_by : Walked A → List A
  left_by (stopped left) = left
  left_by (through left) = left

  nothing : (tags : List (List ℕ)) (gs : List A) → Parts tags gs gs
  nothing tags gs = ([], refl, λ g m. absurd (Memᴰ.not-nil m))

  -- one after the other
  both : (tags : List (List ℕ)) (gs mid left : List A) → Parts tags gs mid → Parts tags mid left → Parts tags gs left
  both tags gs mid left h k = (
    h.0 ++ k.0,
    h.1 ∙ ap (λ (xs : List A). h.0 ++ xs) k.1 ∙ sym (append_assoc h.0 k.0 left),
    λ g m. ⊎_elim (h.2 g) (k.2 g) (Memᴰ.append_cases h.0 m),
  )

  more_tags : (tags others : List (List ℕ)) → ((tag : List ℕ) → Memᴰ tag tags → Memᴰ tag others)
      → (gs left : List A) → Parts tags gs left → Parts others gs left
  more_tags tags others sub gs left h = (h.0, h.1, λ g m. sub (f g) (h.2 g m))

  onward_parts : (tags : List (List ℕ)) (gs : List A) (w : Walked A) (next : List A → Walked A)
      → Parts tags gs (left_by w) → ((mid : List A) → Parts tags mid (left_by (next mid))) → Parts tags gs (left_by (onward f w next))
  unfolding onward
  onward_parts tags gs (stopped left) next h k = h
  onward_parts tags gs (through left) next h k = both tags gs left (left_by (next left)) h (k left)

  if_parts : (b : Bool) (tags : List (List ℕ)) (gs : List A) (v w : Walked A) → (b ≡ true → Parts tags gs (left_by v)) → Parts tags gs (left_by w)
      → Parts tags gs (left_by (if b then v else w))
  if_parts true tags gs v w h k = h refl
  if_parts false tags gs v w h k = k

  -- the first of them has the tag
  first_parts : (tag : List ℕ) (tags : List (List ℕ)) (gs : List A) → leads f tag gs ≡ true → Parts (tag ∷ tags) gs (drop 1 gs)
  unfolding leads
  first_parts tag tags [] h = nothing (tag ∷ tags) []
  first_parts tag tags (g ∷ gs) h = (
    g ∷ [],
    refl,
    λ x m. Memᴰ.head (ap f (Memᴰ.eq_of_singleton m) ∙ same_eq (f g) tag h),
  )

  repeated_parts : (inside : List A → Walked A) (tag : List ℕ) (tags : List (List ℕ)) → ((gs : List A) → Parts tags gs (left_by (inside gs)))
      → (most : ℕ) (gs : List A) → Parts (tag ∷ tags) gs (left_by (repeated f inside tag most gs))
  unfolding repeated
  repeated_parts inside tag tags h zero gs = nothing (tag ∷ tags) gs
  repeated_parts inside tag tags h (suc most) gs =
      let rest : (mid : List A) → Parts (tag ∷ tags) mid (left_by (repeated f inside tag most mid)) = repeated_parts inside tag tags h most in
      let one : Parts (tag ∷ tags) (drop 1 gs) (left_by (inside (drop 1 gs))) =
      more_tags tags (tag ∷ tags) (λ x m. Memᴰ.tail m) (drop 1 gs) (left_by (inside (drop 1 gs))) (h (drop 1 gs)) in
      if_parts (leads f tag gs) (tag ∷ tags) gs (onward f (inside (drop 1 gs)) (repeated f inside tag most)) (through gs)
      (λ lead.
      onward_parts (tag ∷ tags) gs (inside (drop 1 gs)) (repeated f inside tag most)
      (both (tag ∷ tags) gs (drop 1 gs) (left_by (inside (drop 1 gs))) (first_parts tag tags gs lead) one) rest)
      (nothing (tag ∷ tags) gs)

  pub walk_parts : (t : Structure) (gs : List A) → Parts (tags_in t) gs (left_by (walk f t gs))
  unfolding walk tags_in
  walk_parts done gs = nothing [] gs
  walk_parts (entry mandatory most tag inside following) gs =
      let tags : List (List ℕ) = tag ∷ (tags_in inside ++ tags_in following) in
      if_parts (mandatory && not (leads f tag gs)) tags gs (stopped gs) (onward f (repeated f (walk f inside) tag most gs) (walk f following))
      (λ e. nothing tags gs)
      (onward_parts tags gs (repeated f (walk f inside) tag most gs) (walk f following)
      (more_tags (tag ∷ tags_in inside) tags (λ x m. Memᴰ.append_left (tags_in following) m) gs (left_by (repeated f (walk f inside) tag most gs))
      (repeated_parts (walk f inside) tag (tags_in inside) (walk_parts inside) most gs))
      (λ mid.
      more_tags (tags_in following) tags (λ x m. Memᴰ.tail (Memᴰ.append_right (tags_in inside) m)) mid (left_by (walk f following mid))
      (walk_parts following mid)))

  -- what is left of a body is its end
  pub unmatched_end : (t : Structure) (gs left : List A) → unmatched f t gs ≡ some left → (taken : List A) × (gs ≡ taken ++ left)
  unfolding unmatched left_over
  unmatched_end t gs left e = step (walk f t gs) (walk_parts t gs) e
    where
      onto : (x : List A) → Parts (tags_in t) gs x → x ≡ left → (taken : List A) × (gs ≡ taken ++ left)
      onto x h e = (h.0, h.1 ∙ ap (λ (y : List A). h.0 ++ y) e)

      step : (w : Walked A) → Parts (tags_in t) gs (left_by w) → left_over f w ≡ some left → (taken : List A) × (gs ≡ taken ++ left)
      step (stopped x) h e = onto x h (some-injective x left e)
      step (through []) h e = absurd (none-ne-some left e)
      step (through (x ∷ xs)) h e = onto (x ∷ xs) h (some-injective (x ∷ xs) left e)

  -- ---- what stands behind

  -- the list begins with none of the tags
  abbrev pub Barred : List (List ℕ) → List A → Type 0
  Barred tags [] = Unit {0}
  Barred tags (g ∷ gs) = Memᴰ (f g) tags → ⊥

  barred_less : (tags others : List (List ℕ)) → ((tag : List ℕ) → Memᴰ tag tags → Memᴰ tag others)
      → (gs : List A) → Barred others gs → Barred tags gs
  barred_less tags others sub [] b = tt
  barred_less tags others sub (g ∷ gs) b = λ m. b (sub (f g) m)

  barred_leads : (tag : List ℕ) (tags : List (List ℕ)) (gs : List A) → Barred (tag ∷ tags) gs → leads f tag gs ≡ false
  unfolding leads
  barred_leads tag tags [] b = refl
  barred_leads tag tags (g ∷ gs) b = step (same (f g) tag) refl
    where
      step : (t : Bool) → same (f g) tag ≡ t → t ≡ false
      step true e = absurd (b (Memᴰ.head (same_eq (f g) tag e)))
      step false e = refl

  module _ (rest : List A) where
    -- the same with the rest behind it
    abbrev pub extended : Walked A → Walked A
    extended (stopped left) = stopped (left ++ rest)
    extended (through left) = through (left ++ rest)

    if_extended : (b : Bool) (v w : Walked A) → (if b then extended v else extended w) ≡ extended (if b then v else w)
    if_extended true v w = refl
    if_extended false v w = refl

    onward_extended : (w : Walked A) (next : List A → Walked A) → ((left : List A) → next (left ++ rest) ≡ extended (next left))
        → onward f (extended w) next ≡ extended (onward f w next)
    unfolding onward
    onward_extended (stopped left) next h = refl
    onward_extended (through left) next h = h left

    leads_extended : (tag : List ℕ) (gs : List A) → leads f tag rest ≡ false → leads f tag (gs ++ rest) ≡ leads f tag gs
    unfolding leads
    leads_extended tag [] b = b
    leads_extended tag (g ∷ gs) b = refl

    module _
        (inside : List A → Walked A) (h : (gs : List A) → inside (gs ++ rest) ≡ extended (inside gs))
        (tag : List ℕ) (b : leads f tag rest ≡ false) where
      repeated_extended : (most : ℕ) (gs : List A) → repeated f inside tag most (gs ++ rest) ≡ extended (repeated f inside tag most gs)
      unfolding repeated leads
      repeated_extended zero gs = refl
      repeated_extended (suc most) [] = rw b
      repeated_extended (suc most) (g ∷ gs) =
          let on : onward f (inside (gs ++ rest)) (repeated f inside tag most) ≡ extended (onward f (inside gs) (repeated f inside tag most)) =
          ap (λ w. onward f w (repeated f inside tag most)) (h gs)
          ∙ onward_extended (inside gs) (repeated f inside tag most) (repeated_extended most) in
          ap (λ w. if same (f g) tag then w else through (g ∷ (gs ++ rest))) on
          ∙ if_extended (same (f g) tag) (onward f (inside gs) (repeated f inside tag most)) (through (g ∷ gs))

    -- the walk goes through the list as if the rest did not stand behind it
    pub walk_extended : (t : Structure) → Barred (tags_in t) rest → (gs : List A) → walk f t (gs ++ rest) ≡ extended (walk f t gs)
    unfolding walk tags_in
    walk_extended done b gs = refl
    walk_extended (entry mandatory most tag inside following) b gs =
        let lead : leads f tag rest ≡ false = barred_leads tag (tags_in inside ++ tags_in following) rest b in
        let own : (xs : List A) → walk f inside (xs ++ rest) ≡ extended (walk f inside xs) =
        walk_extended inside
        (barred_less (tags_in inside) (tag ∷ (tags_in inside ++ tags_in following))
        (λ x m. Memᴰ.tail (Memᴰ.append_left (tags_in following) m)) rest b) in
        let next : (xs : List A) → walk f following (xs ++ rest) ≡ extended (walk f following xs) =
        walk_extended following
        (barred_less (tags_in following) (tag ∷ (tags_in inside ++ tags_in following))
        (λ x m. Memᴰ.tail (Memᴰ.append_right (tags_in inside) m)) rest b) in
        let on : onward f (repeated f (walk f inside) tag most (gs ++ rest)) (walk f following)
        ≡ extended (onward f (repeated f (walk f inside) tag most gs) (walk f following)) =
        ap (λ w. onward f w (walk f following)) (repeated_extended (walk f inside) own tag lead most gs)
        ∙ onward_extended (repeated f (walk f inside) tag most gs) (walk f following) next in
        (λ i. if mandatory && not (leads_extended tag gs lead i) then stopped (gs ++ rest) else on i)
        ∙ if_extended (mandatory && not (leads f tag gs)) (stopped gs) (onward f (repeated f (walk f inside) tag most gs) (walk f following))
