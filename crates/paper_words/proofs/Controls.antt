-- 10 to 12: control elements by kind of segment, and what a trailer says of what it closes. What passed is a list of segments, the nearest first.
-- Assumes nothing.
use Rattle.std.specs.Prelude.{if◌then◌else◌}
use Prim.Native.Nat.{ℕ, ◌+◌, ◌≤◌}
use mathlib.Core.Path.{◌≡◌, refl, sym, ap, subst, ◌∙◌}
use mathlib.Core.Bool.{Bool, true, false, not, true≢false}
use mathlib.Core.Logic.{◌⊎◌, inl, inr, ⊎_elim, ◌↔◌}
use mathlib.Core.List.Memᴰ
use mathlib.Core.List.{List, [], ◌∷◌, ◌++◌, map, reverse, Memᴰ}
use mathlib.Core.Option.{Option, none, some, none-ne-some, some-injective}
use native.Mathlib.Omega.{arith}
use lib.Dec.{eqb, lit≤}
use borrow.Author.Tests.{not-false}
use lib.ListN.{length}
use Rattle.lists.specs.Lists.{same, first, at, maybe}
use Rattle.lists.proofs.Tests.{Says, says_eq, says_not, says_same, fails, decides}
use Rattle.refusals.specs.declared.Fault.TheVariants.{BadControl, ReferenceDiffers, CountWrong}
use Rattle.refusals.specs.Refusals.{met, lowest}
use Rattle.values.specs.Tokens.{Segment}
use Rattle.values.specs.Trimming.{contents_of}
use Rattle.values.specs.Spelling.{Bytes}
use Rattle.segments.specs.declared.Kind.{Kind}
use Rattle.segments.specs.declared.Kind.TheVariants.{Unb, Ung, Unh, Uns, Unt, Une, Unz, User}
use Rattle.segments.specs.Kinds.{index, is}
use Rattle.segments.specs.Tags.{kind_of}
use Rattle.segments.specs.Order.{messages_in, groups_in}
use Rattle.segments.proofs.Words.{is_says}
use Rattle.control_elements.specs.Positions.{position_table, positions_of}
use Rattle.control_elements.specs.Control.{control_rule, control_element, header_of, reference_of, same_value, nearest_reference, reference_differs, decimal, count_wrong}
use Rattle.control_elements.specs.Notions.{Reference, Count, Nearest}
use Rattle.control_elements.proofs.Words.{element_is, unb_control, ung_control, unh_control, unt_control, une_control, unz_control, no_control, unt_reference, une_reference, unz_reference, unt_count, une_count, unz_groups, unz_messages, no_trailer}
use Rattle.stages.specs.Places.{bad_controls, differing_references, wrong_counts}
use Rattle.stages.proofs.Words.{ten_at, eleven_at, twelve_at}
use Rattle.paper_words.specs.PaperWords.{Controlled, Closes, Counts, Meets}
use Rattle.paper_words.proofs.Answering.{Settled, settles_three}
use Rattle.paper_words.proofs.Meanings.{ReferenceFails, CountFails, meant, meets}

-- ---- 10

abbrev trailers : List Kind
trailers = Unt ∷ Une ∷ Unz ∷ []

trailer_index : {kind : Kind} → Memᴰ kind trailers → (4 ≤ index kind) × (index kind ≤ 6)
trailer_index {kind} (Memᴰ.head e) = let i = ap index e in (omega arith, omega arith)
trailer_index {kind} (Memᴰ.tail (Memᴰ.head e)) = let i = ap index e in (omega arith, omega arith)
trailer_index {kind = kind} (Memᴰ.tail (Memᴰ.tail (Memᴰ.tail m))) = elim m [ ]
trailer_index {kind} (Memᴰ.tail (Memᴰ.tail (Memᴰ.head e))) = let i = ap index e in (omega arith, omega arith)

opener_index : {kind : Kind} → Memᴰ kind (Unb ∷ Ung ∷ []) → index kind ≤ 1
opener_index {kind} (Memᴰ.head e) = let i = ap index e in omega arith
opener_index {kind = kind} (Memᴰ.tail (Memᴰ.tail m)) = elim m [ ]
opener_index {kind} (Memᴰ.tail (Memᴰ.head e)) = let i = ap index e in omega arith

-- what is asked of a segment that is of none of these, and of each that is
module _ (g : Segment) where
  abbrev Ruled : Kind → Type 0
  Ruled kind = (control_rule g ≡ true) ↔ Controlled kind (contents_of g)

  opener : (kind : Kind) → Memᴰ kind (Unb ∷ Ung ∷ []) → (control_rule g ≡ true) ↔ Reference (contents_of g) 5 → Ruled kind
  opener kind m h =
      let low = opener_index m in (
        λ e. (λ k. h.0 e, λ k. absurd (omega (arith, ap index k)), λ k. absurd (omega (arith, trailer_index k))),
        λ c. h.1 (c.0 m),
      )

  header : (control_rule g ≡ true) ↔ Reference (contents_of g) 1 → Ruled Unh
  header h = (
    λ e. (λ k. absurd (omega (arith, opener_index k)), λ k. h.0 e, λ k. absurd (omega (arith, trailer_index k))),
    λ c. h.1 (c.1 refl),
  )

  trailer : (kind : Kind) → Memᴰ kind trailers → (control_rule g ≡ true) ↔ (Count (contents_of g) 1 × Reference (contents_of g) 2)
      → Ruled kind
  trailer kind m h =
      let high = trailer_index m in (
        λ e. (λ k. absurd (omega (arith, opener_index k)), λ k. absurd (omega (arith, ap index k)), λ k. h.0 e),
        λ c. h.1 (c.2 m),
      )

  neither : (kind : Kind) → (index kind ≡ 3) ⊎ (index kind ≡ 7) → control_rule g ≡ true → Ruled kind
  neither kind i h = (
    λ e. (
      λ k. absurd (⊎_elim (λ q. omega (arith, opener_index k)) (λ q. omega (arith, opener_index k)) i),
      λ k. absurd (⊎_elim (λ q. omega (arith, ap index k)) (λ q. omega (arith, ap index k)) i),
      λ k. absurd (⊎_elim (λ q. omega (arith, trailer_index k)) (λ q. omega (arith, trailer_index k)) i),
    ),
    λ c. h,
  )

  controlled : Ruled (kind_of g)
  controlled = by (kind_of g) refl
    where
      by : (kind : Kind) → kind_of g ≡ kind → Ruled kind
      by Unb e = opener Unb (Memᴰ.head refl) (unb_control g e)
      by Ung e = opener Ung (Memᴰ.tail (Memᴰ.head refl)) (ung_control g e)
      by Unh e = header (unh_control g e)
      by Uns e = neither Uns (inl refl) (no_control g (inl e))
      by Unt e = trailer Unt (Memᴰ.head refl) (unt_control g e)
      by Une e = trailer Une (Memᴰ.tail (Memᴰ.head refl)) (une_control g e)
      by Unz e = trailer Unz (Memᴰ.tail (Memᴰ.tail (Memᴰ.head refl))) (unz_control g e)
      by User e = neither User (inr refl) (no_control g (inr e))

-- ---- 11

-- the first that passes a test, and those before it, which do not
first_apart : {A : Type 0} (t : A → Bool) (xs : List A) (x : A) → first t xs ≡ some x
    → (nearer : List A) × (farther : List A) × (xs ≡ nearer ++ x ∷ farther) × (t x ≡ true) × ((y : A) → Memᴰ y nearer → t y ≡ false)
unfolding first
first_apart t [] x e = absurd (none-ne-some x e)
first_apart {A} t (y ∷ ys) x e = step (t y) refl e (first_apart t ys x)
  where
    Apart : List A → Type 0
    Apart xs = (nearer : List A) × (farther : List A) × (xs ≡ nearer ++ x ∷ farther) × (t x ≡ true) × ((z : A) → Memᴰ z nearer → t z ≡ false)

    step : (b : Bool) → t y ≡ b → (if b then some y else first t ys) ≡ some x → (first t ys ≡ some x → Apart ys) → Apart (y ∷ ys)
    step true h q rest =
        let same : y ≡ x = some-injective y x q in
        ([], ys, ap (λ (z : A). z ∷ ys) same, ap t (sym same) ∙ h, λ z m. absurd (Memᴰ.not-nil m))
    step false h q rest =
        let (nearer, farther, split, own, before) = rest q in (
          y ∷ nearer,
          farther,
          ap (λ (l : List A). y ∷ l) split,
          own,
          λ z m. ⊎_elim (λ k. ap t k ∙ h) (before z) (Memᴰ.cases_cons m),
        )

nearest : (kind : Kind) (past : List Segment) (h : Segment) → first (λ g. is kind (kind_of g)) past ≡ some h
    → (n : Nearest kind past) × (n.1 ≡ h)
nearest kind past h e =
    let (nearer, farther, split, own, before) = first_apart (λ g. is kind (kind_of g)) past h e in (
      (
        nearer,
        h,
        farther,
        split,
        (is_says kind (kind_of h)).0 own,
        λ g m. (fails (is kind (kind_of g)) (is_says kind (kind_of g))).0 (before g m),
      ),
      refl,
    )

closes_facts : {trailer header : Kind} {position : ℕ} → Closes trailer header position
    → (header_of trailer ≡ some header)
    × ((positions_of trailer).reference ≡ 2)
    × ((positions_of header).reference ≡ position)
    × Memᴰ trailer trailers
unfolding header_of positions_of position_table
closes_facts Closes.message = (refl, refl, refl, Memᴰ.head refl)
closes_facts Closes.group = (refl, refl, refl, Memᴰ.tail (Memᴰ.head refl))
closes_facts Closes.interchange = (refl, refl, refl, Memᴰ.tail (Memᴰ.tail (Memᴰ.head refl)))

module _ (past : List Segment) (g : Segment) where
  -- the reference of the trailer is the header's
  abbrev Agreed : Kind → ℕ → Type 0
  Agreed header position =
      (n : Nearest header past) × (v : Bytes) × (at (contents_of g) 2 ≡ some ((v ∷ []) ∷ [])) × (at (contents_of n.1) position ≡ some ((v ∷ []) ∷ []))

  agreed : {trailer header : Kind} {position : ℕ} → kind_of g ≡ trailer → Closes trailer header position → control_rule g ≡ true
      → reference_differs past g ≡ false → Agreed header position
  unfolding reference_differs maybe reference_of same_value
  agreed {trailer} {header} {position} k closes rule h =
      let (heads, own-place, their-place, among) = closes_facts closes in
      let (count, (v, stands, least, most)) = ((controlled g).0 rule).2 (subst (λ (x : Kind). Memᴰ x trailers) (sym k) among) in
      let own : reference_of g ≡ some v =
      ap (λ (x : Kind). control_element g (positions_of x).reference) k ∙ ap (control_element g) own-place ∙ (element_is g 2 v).1 stands
      in
      let asked : reference_differs past g ≡ not (same_value (some v) (nearest_reference header past)) =
      ap (maybe false (λ x. not (same_value (reference_of g) (nearest_reference x past)))) (ap header_of k ∙ heads)
      ∙ ap (λ (o : Option Bytes). not (same_value o (nearest_reference header past))) own
      in
      by_header v stands their-place (first (λ x. is header (kind_of x)) past) refl
      (by_value v (nearest_reference header past) (sym asked ∙ h))
    where
      by_value : (v : Bytes) (o : Option Bytes) → not (same_value (some v) o) ≡ false → o ≡ some v
      by_value v none e = absurd (true≢false e)
      by_value v (some w) e = ap some (sym ((says_same v w).0 (not-false (same v w) e)))

      by_header : (v : Bytes) → at (contents_of g) 2 ≡ some ((v ∷ []) ∷ []) → (positions_of header).reference ≡ position
          → (o : Option Segment) → first (λ x. is header (kind_of x)) past ≡ o → maybe none reference_of o ≡ some v → Agreed header position
      by_header v stands place none e q = absurd (none-ne-some v q)
      by_header v stands place (some x) e q =
          let (n, same) = nearest header past x e in
          let theirs : control_element n.1 position ≡ some v =
          ap (control_element n.1) (sym (ap (λ (y : Kind). (positions_of y).reference) n.4 ∙ place)) ∙ ap reference_of same ∙ q
          in
          (n, v, stands, (element_is n.1 position v).0 theirs)

  -- then it does not differ
  no_difference : {trailer header : Kind} {position : ℕ} → Closes trailer header position → kind_of g ≡ trailer → Agreed header position
      → reference_differs past g ≡ false
  no_difference Closes.message k (n, v, own, theirs) =
      (fails (reference_differs past g) (unt_reference past g v v k n own theirs)).1 (λ d. d refl)
  no_difference Closes.group k (n, v, own, theirs) =
      (fails (reference_differs past g) (une_reference past g v v k n own theirs)).1 (λ d. d refl)
  no_difference Closes.interchange k (n, v, own, theirs) =
      (fails (reference_differs past g) (unz_reference past g v v k n own theirs)).1 (λ d. d refl)

-- ---- 12

-- the count of the trailer is right
abbrev Right : List Segment → Segment → Type 0
Right past g = (v : Bytes) × (at (contents_of g) 1 ≡ some ((v ∷ []) ∷ [])) × Counts past (kind_of g) (decimal v)

module _ (past : List Segment) (g : Segment) where
  -- a count that is not wrong
  counts_so : (n count : ℕ) → Says (count_wrong past g) (n ≡ count → ⊥) → count_wrong past g ≡ false → n ≡ count
  counts_so n count says h =
      ⊎_elim (λ e. e) (λ d. absurd ((fails (count_wrong past g) says).0 h d)) (decides (eqb n count) (says_eq n count))

  right : Memᴰ (kind_of g) trailers → control_rule g ≡ true → reference_differs past g ≡ false → count_wrong past g ≡ false → Right past g
  unfolding messages_in groups_in
  right among rule agrees h =
      let ((v, stands, least, most, digits), reference) = ((controlled g).0 rule).2 among in
      (v, stands, by v stands (kind_of g) refl among)
    where
      by : (v : Bytes) → at (contents_of g) 1 ≡ some ((v ∷ []) ∷ []) → (kind : Kind) → kind_of g ≡ kind → Memᴰ kind trailers
          → Counts past kind (decimal v)
      by v stands kind k (Memᴰ.head e) =
          let own : kind_of g ≡ Unt = k ∙ e in
          let n : Nearest Unh past = (agreed past g own Closes.message rule agrees).0 in
          subst (λ (x : Kind). Counts past x (decimal v)) (sym e)
          (subst (Counts past Unt) (sym (counts_so (decimal v) (length n.0 + 2) (unt_count past g v stands own n) h))
          (Counts.segments_since n))
      by v stands kind k (Memᴰ.tail (Memᴰ.head e)) =
          let own : kind_of g ≡ Une = k ∙ e in
          let n : Nearest Ung past = (agreed past g own Closes.group rule agrees).0 in
          subst (λ (x : Kind). Counts past x (decimal v)) (sym e)
          (subst (Counts past Une) (sym (counts_so (decimal v) (messages_in (map kind_of n.0)) (une_count past g v stands own n) h))
          (Counts.messages_since n))
      by v stands kind k (Memᴰ.tail (Memᴰ.tail (Memᴰ.tail m))) = elim m [ ]
      by v stands kind k (Memᴰ.tail (Memᴰ.tail (Memᴰ.head e))) =
          let own : kind_of g ≡ Unz = k ∙ e in
          subst (λ (x : Kind). Counts past x (decimal v)) (sym e)
          (⊎_elim
          (λ z.
          subst (Counts past Unz) (sym (counts_so (decimal v) (messages_in (map kind_of past)) (unz_messages past g v stands own z) h))
          (Counts.messages z))
          (λ z.
          subst (Counts past Unz) (sym (counts_so (decimal v) (groups_in (map kind_of past)) (unz_groups past g v stands own z) h))
          (Counts.groups z))
          (decides (eqb (groups_in (map kind_of past)) 0) (says_eq (groups_in (map kind_of past)) 0)))

  -- then it is not wrong
  not_wrong : Right past g → count_wrong past g ≡ false
  unfolding messages_in groups_in
  not_wrong (v, stands, counts) = by counts refl refl
    where
      by : {kind : Kind} {n : ℕ} → Counts past kind n → kind_of g ≡ kind → decimal v ≡ n → count_wrong past g ≡ false
      by (Counts.segments_since n) k e = (fails (count_wrong past g) (unt_count past g v stands k n)).1 (λ d. d e)
      by (Counts.messages_since n) k e = (fails (count_wrong past g) (une_count past g v stands k n)).1 (λ d. d e)
      by (Counts.groups z) k e = (fails (count_wrong past g) (unz_groups past g v stands k z)).1 (λ d. d e)
      by (Counts.messages z) k e = (fails (count_wrong past g) (unz_messages past g v stands k z)).1 (λ d. d e)

-- ---- which segments are asked

module _ (before : List Segment) (g : Segment) where
  abbrev past : List Segment
  past = reverse before

  abbrev Closing : Kind → Type 0
  Closing kind = (header : Kind) × (position : ℕ) × Closes kind header position

  -- only trailers are
  closing : (reference_differs past g ≡ true) ⊎ (count_wrong past g ≡ true) → Closing (kind_of g)
  closing h = by (kind_of g) refl
    where
      other : (kind : Kind) → kind_of g ≡ kind → (kind ≡ Unt → ⊥) → (kind ≡ Une → ⊥) → (kind ≡ Unz → ⊥) → Closing kind
      other kind k t e z =
          let (same, right) = no_trailer past g kind k t e z in
          absurd (⊎_elim (λ q. true≢false (sym q ∙ same)) (λ q. true≢false (sym q ∙ right)) h)

      by : (kind : Kind) → kind_of g ≡ kind → Closing kind
      by Unb k = other Unb k (λ e. omega (arith, ap index e)) (λ e. omega (arith, ap index e)) (λ e. omega (arith, ap index e))
      by Ung k = other Ung k (λ e. omega (arith, ap index e)) (λ e. omega (arith, ap index e)) (λ e. omega (arith, ap index e))
      by Unh k = other Unh k (λ e. omega (arith, ap index e)) (λ e. omega (arith, ap index e)) (λ e. omega (arith, ap index e))
      by Uns k = other Uns k (λ e. omega (arith, ap index e)) (λ e. omega (arith, ap index e)) (λ e. omega (arith, ap index e))
      by Unt k = (Unh, 1, Closes.message)
      by Une k = (Ung, 5, Closes.group)
      by Unz k = (Unb, 5, Closes.interchange)
      by User k = other User k (λ e. omega (arith, ap index e)) (λ e. omega (arith, ap index e)) (λ e. omega (arith, ap index e))

  reference_there : reference_differs past g ≡ true → ReferenceFails before g
  reference_there h =
      let (header, position, closes) = closing (inl h) in
      (header, position, closes, λ n v own theirs. true≢false (sym h ∙ no_difference past g closes refl (n, v, own, theirs)))

  count_there : count_wrong past g ≡ true → CountFails before g
  count_there h =
      let (header, position, closes) = closing (inr h) in
      ((closes_facts closes).3, λ v stands counts. true≢false (sym h ∙ not_wrong past g (v, stands, counts)))

  -- what is met is met by the test, or an earlier one is
  reference_back : ReferenceFails before g → (reference_differs past g ≡ true) ⊎ (not (control_rule g) ≡ true)
  reference_back (header, position, closes, differs) = by (reference_differs past g) refl (control_rule g) refl
    where
      by : (d : Bool) → reference_differs past g ≡ d → (c : Bool) → control_rule g ≡ c
          → (reference_differs past g ≡ true) ⊎ (not (control_rule g) ≡ true)
      by true h c k = inl h
      by false h true k = let (n, v, own, theirs) = agreed past g refl closes k h in absurd (differs n v own theirs)
      by false h false k = inr (ap not k)

  count_back : CountFails before g
      → (count_wrong past g ≡ true) ⊎ ((reference_differs past g ≡ true) ⊎ (not (control_rule g) ≡ true))
  count_back (among, wrong) = by (count_wrong past g) refl (reference_differs past g) refl (control_rule g) refl
    where
      by : (w : Bool) → count_wrong past g ≡ w → (d : Bool) → reference_differs past g ≡ d → (c : Bool) → control_rule g ≡ c
          → (count_wrong past g ≡ true) ⊎ ((reference_differs past g ≡ true) ⊎ (not (control_rule g) ≡ true))
      by true h d j c k = inl h
      by false h true j c k = inr (inl j)
      by false h false j true k = let (v, stands, counts) = right past g among k j h in absurd (wrong v stands counts)
      by false h false j false k = inr (inr (ap not k))

-- ---- the stage

module _ (s : List ℕ) where
  pub control_settled : Settled (Meets s) (10 ∷ 11 ∷ 12 ∷ [])
      (lowest (met BadControl (bad_controls s) ++ (met ReferenceDiffers (differing_references s) ++ met CountWrong (wrong_counts s))))
  control_settled =
      settles_three (Meets s) BadControl ReferenceDiffers CountWrong (bad_controls s) (differing_references s) (wrong_counts s) (lit≤ tt) (lit≤ tt)
      (λ p. (
        λ m.
            let (before, g, after, e, h, q) = (ten_at s p).0 m in
            meets s BadControl (before, g, after, e, (says_not (control_rule g) (controlled g)).0 h, q),
        λ k.
            let (before, g, after, e, h, q) = meant s BadControl k in
            (ten_at s p).1 (before, g, after, e, (says_not (control_rule g) (controlled g)).1 h, q),
      ))
      (λ p m.
      let (before, g, after, e, h, q) = (eleven_at s p).0 m in meets s ReferenceDiffers (before, g, after, e, reference_there before g h, q))
      (λ p k.
      let (before, g, after, e, h, q) = meant s ReferenceDiffers k in
      ⊎_elim (λ d. inl ((eleven_at s p).1 (before, g, after, e, d, q))) (λ d. inr ((ten_at s p).1 (before, g, after, e, d, q)))
      (reference_back before g h))
      (λ p m. let (before, g, after, e, h, q) = (twelve_at s p).0 m in meets s CountWrong (before, g, after, e, count_there before g h, q))
      (λ p k.
      let (before, g, after, e, h, q) = meant s CountWrong k in
      ⊎_elim (λ d. inl ((twelve_at s p).1 (before, g, after, e, d, q)))
      (⊎_elim (λ d. inr (inl ((eleven_at s p).1 (before, g, after, e, d, q)))) (λ d. inr (inr ((ten_at s p).1 (before, g, after, e, d, q)))))
      (count_back before g h))
