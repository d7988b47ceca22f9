-- In segments whose order is right, a UNT follows each UNH. Assumes nothing.
use mathlib.Core.Path.{◌≡◌, refl, sym, ap, subst, ◌∙◌}
use mathlib.Core.Bool.{Bool, true, false, ◌||◌, false≢true}
use mathlib.Core.Logic.{◌⊎◌, inl, inr}
use mathlib.Core.List.{List, [], ◌∷◌, ◌++◌}
use native.Mathlib.Omega.{arith}
use Rattle.lists.specs.Lists.{all, any}
use Rattle.lists.proofs.Texts.{and_left, and_right, or_cases}
use Rattle.values.specs.Tokens.{Segment}
use Rattle.segments.specs.declared.Kind.{Kind}
use Rattle.segments.specs.declared.Kind.TheVariants.{Unb, Ung, Unh, Uns, Unt, Une, Unz, User}
use Rattle.segments.specs.Kinds.{index, is}
use Rattle.segments.specs.Tags.{kind_of}
use Rattle.segments.proofs.Words.{is_says}
use Rattle.grammar_laws.specs.Grammar.{OneOrMore, one, more, is_inner, Inner, Asking, Message, Group, Content, Whole}
use Rattle.message_structures.specs.Bodies.{is_trailer}

-- a UNT follows each UNH
abbrev pub Followed : List Segment → Type 0
Followed [] = Unit {0}
Followed (g ∷ gs) = (kind_of g ≡ Unh → any is_trailer gs ≡ true) × Followed gs

-- ---- pieces

any_more : (xs ys : List Segment) → any is_trailer xs ≡ true → any is_trailer (xs ++ ys) ≡ true
unfolding any
any_more [] ys h = absurd (false≢true h)
any_more (x ∷ xs) ys h = step (is_trailer x) h (any_more xs ys)
  where
    step : (b : Bool) → (b || any is_trailer xs) ≡ true → (any is_trailer xs ≡ true → any is_trailer (xs ++ ys) ≡ true)
        → (b || any is_trailer (xs ++ ys)) ≡ true
    step true h rest = refl
    step false h rest = rest h

any_last : (xs : List Segment) (g : Segment) → kind_of g ≡ Unt → any is_trailer (xs ++ g ∷ []) ≡ true
unfolding any
any_last [] g e = ap (λ (b : Bool). b || false) ((is_says Unt (kind_of g)).1 e)
any_last (x ∷ xs) g e = step (is_trailer x) (any_last xs g e)
  where
    step : (b : Bool) → any is_trailer (xs ++ g ∷ []) ≡ true → (b || any is_trailer (xs ++ g ∷ [])) ≡ true
    step true h = refl
    step false h = h

followed_append : (xs ys : List Segment) → Followed xs → Followed ys → Followed (xs ++ ys)
followed_append [] ys h k = k
followed_append (x ∷ xs) ys h k = (λ e. any_more xs ys (h.0 e), followed_append xs ys h.1 k)

-- a segment that is no UNH
followed_other : (kind : Kind) (g : Segment) → kind_of g ≡ kind → (kind ≡ Unh → ⊥) → Followed (g ∷ [])
followed_other kind g e n = (λ k. absurd (n (sym e ∙ k)), tt)

-- what may stand between UNH and UNT
followed_inner : (gs : List Segment) → Inner gs → Followed gs
unfolding all is_inner
followed_inner [] h = tt
followed_inner (g ∷ gs) h =
    let kind = or_cases (is User (kind_of g)) (is Uns (kind_of g)) (and_left (is_inner g) (all is_inner gs) h) in
    (λ e. absurd (step kind e), followed_inner gs (and_right (is_inner g) (all is_inner gs) h))
  where
    step : (is User (kind_of g) ≡ true) ⊎ (is Uns (kind_of g) ≡ true) → kind_of g ≡ Unh → ⊥
    step (inl k) e = omega (arith, ap index (sym ((is_says User (kind_of g)).0 k) ∙ e))
    step (inr k) e = omega (arith, ap index (sym ((is_says Uns (kind_of g)).0 k) ∙ e))

pieces : {Piece : List Segment → Type 0} → ((gs : List Segment) → Piece gs → Followed gs) → (gs : List Segment) → OneOrMore Piece gs → Followed gs
pieces h gs (one p) = h gs p
pieces h gs (more {before} {piece} ps p) = followed_append before piece (pieces h before ps) (h piece p)

-- ---- messages, groups, the interchange

module _ (asked : Asking) where
  message : (gs : List Segment) → Message asked gs → Followed gs
  message gs f =
      subst Followed (sym f.shape) (
        λ e. any_last f.middle f.tail f.closing,
        followed_append f.middle (f.tail ∷ []) (followed_inner f.middle f.inside.0)
            (followed_other Unt f.tail f.closing (λ k. omega (arith, ap index k))),
      )

  -- a header and a trailer that are no UNH, and what stands between
  framed : (header trailer : Kind) (head : Segment) (middle : List Segment) (tail : Segment) → kind_of head ≡ header → kind_of tail ≡ trailer
      → (header ≡ Unh → ⊥) → (trailer ≡ Unh → ⊥) → Followed middle → Followed (head ∷ (middle ++ tail ∷ []))
  framed header trailer head middle tail h t n m f =
      (λ e. absurd (n (sym h ∙ e)), followed_append middle (tail ∷ []) f (followed_other trailer tail t m))

  group : (gs : List Segment) → Group asked gs → Followed gs
  group gs f =
      subst Followed (sym f.shape)
      (framed Ung Une f.head f.middle f.tail f.opening f.closing (λ k. omega (arith, ap index k)) (λ k. omega (arith, ap index k))
      (pieces message f.middle f.inside))

  pub whole_followed : (gs : List Segment) → Whole asked gs → Followed gs
  whole_followed gs f =
      subst Followed (sym f.shape)
      (framed Unb Unz f.head f.middle f.tail f.opening f.closing (λ k. omega (arith, ap index k)) (λ k. omega (arith, ap index k))
      (content f.middle f.inside))
    where
      content : (middle : List Segment) → Content asked middle → Followed middle
      content middle (inl gs) = pieces group middle gs
      content middle (inr ms) = pieces message middle ms
