-- What an input meets, by the fault: the cases of `Meets` and `Fails` taken apart and put together again. Assumes nothing.
use Prim.Native.Nat.{ℕ, ◌+◌, ◌<◌}
use mathlib.Core.Path.{◌≡◌, refl, sym, subst}
use mathlib.Core.Logic.{◌⊎◌, inl, inr}
use mathlib.Core.List.{List, [], ◌∷◌, ◌++◌, Memᴰ, reverse}
use mathlib.Core.Option.{some}
use lib.ListN.{length}
use Rattle.lists.specs.Lists.{text, at}
use Rattle.characters.specs.declared.Characters.{Characters}
use Rattle.characters.specs.Characters.{body_start}
use Rattle.characters.specs.Notions.{Usable}
use Rattle.refusals.specs.declared.Fault.{Fault}
use Rattle.refusals.specs.declared.Fault.TheVariants.{TooLong, UnusableAdvice, NoOpening, StrayRelease, UnendedSegment, BrokenTag, ForeignLevel, OutsideLevel, MisplacedSegment, BadControl, ReferenceDiffers, CountWrong, NormalTooLong, BufferShort, BadList, NeedsRelease, NoFreeSlot, NoRoom, UnsoundShelf, FreeSlot, UnsoundTable, UnmatchedBody, NoAcknowledgement, NoColumns}
use Rattle.refusals.specs.Refusals.{number}
use Rattle.refusals.proofs.Order.{number_tells}
use Rattle.values.specs.Tokens.{Token, byte, separator, fault, Segment, start}
use Rattle.values.specs.Trimming.{contents_of}
use Rattle.values.specs.Spelling.{Bytes}
use Rattle.levels.specs.Notions.{LevelA, LevelB}
use Rattle.segments.specs.declared.Kind.{Kind}
use Rattle.segments.specs.declared.Kind.TheVariants.{Unt, Une, Unz}
use Rattle.segments.specs.Tags.{kind_of}
use Rattle.control_elements.specs.Control.{decimal}
use Rattle.control_elements.specs.Notions.{Nearest}
use Rattle.spelling_laws.specs.Bodies.{words_of}
use Rattle.stages.specs.Contents.{body_tokens, segments_of, normal_form}
use Rattle.paper_words.specs.PaperWords.{six, Begins, Gap, Tagged, Level, Interchange, Controlled, Closes, Counts, Fails, Meets}

-- ---- of a segment after those before it

module _ (before : List Segment) (g : Segment) where
  abbrev pub TagFails : Type 0
  TagFails =
      ((inside : List Token) × (q : ℕ) × (g ≡ inside ++ separator 0 q ∷ []))
      × ((p : ℕ) → Memᴰ (fault p) g → ⊥)
      × (Tagged (words_of g) → ⊥)

  abbrev pub OrderFails : Type 0
  OrderFails =
      ((rest : List Segment) × Interchange (before ++ rest)) × ((more : List Segment) → Interchange (before ++ g ∷ more) → ⊥)

  abbrev pub ReferenceFails : Type 0
  ReferenceFails =
      (header : Kind)
      × (position : ℕ)
      × Closes (kind_of g) header position
      × ((n : Nearest header (reverse before)) (v : Bytes) → at (contents_of g) 2 ≡ some ((v ∷ []) ∷ [])
      → at (contents_of n.1) position ≡ some ((v ∷ []) ∷ []) → ⊥)

  abbrev pub CountFails : Type 0
  CountFails =
      Memᴰ (kind_of g) (Unt ∷ Une ∷ Unz ∷ [])
      × ((v : Bytes) → at (contents_of g) 1 ≡ some ((v ∷ []) ∷ []) → Counts (reverse before) (kind_of g) (decimal v) → ⊥)

-- ---- of an input

module _ (s : List ℕ) where
  -- the place is the start of a segment that fails
  abbrev pub Somewhere : (List Segment → Segment → Type 0) → ℕ → Type 0
  Somewhere Fault p =
      (before : List Segment)
      × (g : Segment)
      × (after : List Segment)
      × (segments_of s ≡ before ++ g ∷ after)
      × Fault before g
      × (p ≡ start g)

  abbrev pub BadAdvice : Type 0
  BadAdvice = Begins (text "UNA") s × ((c : Characters) → Begins (text "UNA" ++ six c) s → Usable c → ⊥)

  abbrev pub NoneOpens : ℕ → Type 0
  NoneOpens p =
      ((c : Characters)
      × (gap : List ℕ)
      × (rest : List ℕ)
      × Gap gap rest
      × (s ≡ text "UNA" ++ six c ++ (gap ++ rest))
      × (Begins (text "UNB" ++ c.element ∷ []) rest → ⊥)
      × (p ≡ 9 + length gap))
      ⊎ ((Begins (text "UNA") s → ⊥) × (Begins (text "UNB+") s → ⊥) × (Begins (text "UNB" ++ 29 ∷ []) s → ⊥) × (p ≡ 0))

  -- UNB names a level, and a byte that is not of it stands at the place
  abbrev pub OutsideOf : ℕ → (ℕ → Type 0) → ℕ → Type 0
  OutsideOf letter Holds p =
      Level s letter
      × ((b : ℕ) × (from : ℕ) × Memᴰ (byte b from p) (body_tokens s) × (Holds b → ⊥))

  abbrev pub Meant : Fault → ℕ → Type 0
  Meant TooLong p = (32000 < length s) × (p ≡ 0)
  Meant UnusableAdvice p = BadAdvice × (p ≡ 0)
  Meant NoOpening p = NoneOpens p
  Meant StrayRelease p = Memᴰ (fault p) (body_tokens s)
  Meant UnendedSegment p =
      ((before : List Token) × (t : Token) × (body_tokens s ≡ before ++ t ∷ []) × ((q : ℕ) → t ≡ separator 0 q → ⊥)) × (p ≡ length s)
  Meant BrokenTag p = Somewhere TagFails p
  Meant ForeignLevel p = (Level s 65 → ⊥) × (Level s 66 → ⊥) × (p ≡ body_start s)
  Meant OutsideLevel p = OutsideOf 65 LevelA p ⊎ OutsideOf 66 LevelB p
  Meant MisplacedSegment p = Somewhere OrderFails p ⊎ ((Interchange (segments_of s) → ⊥) × (p ≡ length s))
  Meant BadControl p = Somewhere (λ before g. Controlled (kind_of g) (contents_of g) → ⊥) p
  Meant ReferenceDiffers p = Somewhere ReferenceFails p
  Meant CountWrong p = Somewhere CountFails p
  Meant NormalTooLong p = (32000 < length (normal_form s)) × (p ≡ length (normal_form s))
  Meant BufferShort p = ⊥
  Meant BadList p = ⊥
  Meant NeedsRelease p = ⊥
  Meant NoFreeSlot p = ⊥
  Meant NoRoom p = ⊥
  Meant UnsoundShelf p = ⊥
  Meant FreeSlot p = ⊥
  Meant UnsoundTable p = ⊥
  Meant UnmatchedBody p = ⊥
  Meant NoAcknowledgement p = ⊥
  Meant NoColumns p = ⊥

  -- a number that is met is that of a fault
  abbrev Named : ℕ → ℕ → Type 0
  Named n p = (f : Fault) × (number f ≡ n) × Meant f p

  by_segment : (n : ℕ) (before : List Segment) (g : Segment) (after : List Segment) → segments_of s ≡ before ++ g ∷ after
      → Fails before g n → Named n (start g)
  by_segment n before g after e (Fails.tag inside q ended clear t) =
      (BrokenTag, refl, (before, g, after, e, ((inside, q, ended), clear, t), refl))
  by_segment n before g after e (Fails.order rest i none) = (MisplacedSegment, refl, inl (before, g, after, e, ((rest, i), none), refl))
  by_segment n before g after e (Fails.control c) = (BadControl, refl, (before, g, after, e, c, refl))
  by_segment n before g after e (Fails.reference header position closes d) =
      (ReferenceDiffers, refl, (before, g, after, e, (header, position, closes, d), refl))
  by_segment n before g after e (Fails.count k d) = (CountWrong, refl, (before, g, after, e, (k, d), refl))

  named : {n p : ℕ} → Meets s n p → Named n p
  named (Meets.too_long h) = (TooLong, refl, (h, refl))
  named (Meets.bad_advice_lem a u) = (UnusableAdvice, refl, ((a, u), refl))
  named (Meets.no_opening_lem c gap rest k e n) = (NoOpening, refl, inl (c, gap, rest, k, e, n, refl))
  named (Meets.no_beginning a b d) = (NoOpening, refl, inr (a, b, d, refl))
  named (Meets.stray_release p m) = (StrayRelease, refl, m)
  named (Meets.unended before t e n) = (UnendedSegment, refl, ((before, t, e, n), refl))
  named (Meets.foreign a b) = (ForeignLevel, refl, (a, b, refl))
  named (Meets.outside_a n b from p m l) = (OutsideLevel, refl, inl (n, (b, from, m, l)))
  named (Meets.outside_b n b from p m l) = (OutsideLevel, refl, inr (n, (b, from, m, l)))
  named (Meets.no_end n) = (MisplacedSegment, refl, inr (n, refl))
  named (Meets.segment n before g after e h) = by_segment n before g after e h
  named (Meets.too_long_form h) = (NormalTooLong, refl, (h, refl))

  -- what is met with the number of a fault is meant by the fault
  pub meant : (f : Fault) {p : ℕ} → Meets s (number f) p → Meant f p
  meant f {p} m = let (g, e, h) = named m in subst (λ (x : Fault). Meant x p) (number_tells g f e) h

  at_place : {n p q : ℕ} → p ≡ q → Meets s n q → Meets s n p
  at_place {n} e m = subst (Meets s n) (sym e) m

  -- and the other way round
  pub meets : (f : Fault) {p : ℕ} → Meant f p → Meets s (number f) p
  meets TooLong (h, e) = at_place e (Meets.too_long h)
  meets UnusableAdvice (h, e) = at_place e (Meets.bad_advice_lem h.0 h.1)
  meets NoOpening (inl (c, gap, rest, k, e, n, p)) = at_place p (Meets.no_opening_lem c gap rest k e n)
  meets NoOpening (inr (a, b, d, p)) = at_place p (Meets.no_beginning a b d)
  meets StrayRelease {p} m = Meets.stray_release p m
  meets UnendedSegment ((before, t, e, n), p) = at_place p (Meets.unended before t e n)
  meets BrokenTag (before, g, after, e, ((inside, q, ended), clear, t), p) =
      at_place p (Meets.segment 6 before g after e (Fails.tag inside q ended clear t))
  meets ForeignLevel (a, b, p) = at_place p (Meets.foreign a b)
  meets OutsideLevel {p} (inl (n, (b, from, m, l))) = Meets.outside_a n b from p m l
  meets OutsideLevel {p} (inr (n, (b, from, m, l))) = Meets.outside_b n b from p m l
  meets MisplacedSegment (inl (before, g, after, e, ((rest, i), none), p)) =
      at_place p (Meets.segment 9 before g after e (Fails.order rest i none))
  meets MisplacedSegment (inr (n, p)) = at_place p (Meets.no_end n)
  meets BadControl (before, g, after, e, c, p) = at_place p (Meets.segment 10 before g after e (Fails.control c))
  meets ReferenceDiffers (before, g, after, e, (header, position, closes, d), p) =
      at_place p (Meets.segment 11 before g after e (Fails.reference header position closes d))
  meets CountWrong (before, g, after, e, (k, d), p) = at_place p (Meets.segment 12 before g after e (Fails.count k d))
  meets NormalTooLong (h, e) = at_place e (Meets.too_long_form h)
  meets BufferShort h = absurd h
  meets BadList h = absurd h
  meets NeedsRelease h = absurd h
  meets NoFreeSlot h = absurd h
  meets NoRoom h = absurd h
  meets UnsoundShelf h = absurd h
  meets FreeSlot h = absurd h
  meets UnsoundTable h = absurd h
  meets UnmatchedBody h = absurd h
  meets NoAcknowledgement h = absurd h
  meets NoColumns h = absurd h
