-- The tag rule as a rule of a segment's values: the first value is the tag, no repetition separator follows in the tag element where that
-- is one repeat, and no component separator follows the tag where that is one value. Assumes nothing.
use Rattle.std.specs.Prelude.{if◌then◌else◌}
use Prim.Native.Nat.{ℕ, ◌≤◌}
use mathlib.Core.Path.{◌≡◌, refl, sym, ap, ◌∙◌}
use mathlib.Core.Bool.{Bool, true, false, not, ◌&&◌, ◌||◌, false≢true, true≢false}
use mathlib.Core.List.{List, [], ◌∷◌, map}
use mathlib.Core.Logic.{◌↔◌}
use native.Mathlib.Omega.{arith}
use borrow.Author.Tests.{not-false}
use Rattle.lists.specs.Lists.{is_empty, is_single, all, text, begins, through, onto, cut, last_or, drop_end, trim_end, gather, beyond}
use Rattle.lists.proofs.Texts.{and_left, and_right, and_both}
use Rattle.lists.proofs.Pieces.{cut_first}
use Rattle.refusals.specs.Refusals.{place_if}
use Rattle.refusals.proofs.Stages.{place_none_not}
use Rattle.values.specs.Tokens.{Token, ends, Segment, start, segments}
use Rattle.values.specs.Values.{bytes_of, value_of, values_of, repeats_of, elements_of, is_fault, ended_by, ends_inside, finished}
use Rattle.values.specs.Trimming.{trim_repeat, trim_element, trim_segment, contents_of}
use Rattle.values.specs.Spelling.{Bytes}
use Rattle.values.proofs.Ends.{ends_more, through_ends}
use Rattle.segments.specs.declared.Kind.TheVariants.{User}
use Rattle.segments.specs.Kinds.{is, kind_named}
use Rattle.segments.specs.Tags.{tag_piece, tag_repeat, tag_of, kind_of, is_tag, tag_rule}
use Rattle.spelling_laws.specs.Bodies.{words_of, Sound}
use Rattle.stages.specs.Places.{starts_where, broken_tag}
use Rattle.normal_form_laws.proofs.Trimmed.{contents_words}
use Rattle.normal_form_laws.proofs.Tests.{none_both}

-- ---- the rule, of a segment's values

-- the first part
unfoldable pub foremost : {A : Type 0} → List (List A) → List A
foremost [] = []
foremost (x ∷ xs) = x

-- the first value of a segment
unfoldable pub first_value : List (List (List Bytes)) → Bytes
first_value segment = foremost (foremost (foremost segment))

-- the rule: `tag_rule` with the first value for the tag, one repeat for a tag element in which no repetition separator follows, and one
-- value for a tag that no component separator follows
unfoldable pub tag_stands : List (List (List Bytes)) → Bool
tag_stands segment =
    is_tag (first_value segment)
    && is_single (foremost segment)
    && (not (begins (text "UN") (first_value segment))
    || (not (is User (kind_named (first_value segment))) && is_single (foremost (foremost segment))))

-- trimming keeps the first value, and that a repeat or a value is alone
first_trim : (segment : List (List (List Bytes))) → first_value (trim_segment is_empty segment) ≡ first_value segment
unfolding first_value foremost trim_segment trim_element trim_repeat trim_end
first_trim [] = refl
first_trim ([] ∷ es) = refl
first_trim (([] ∷ rs) ∷ es) = refl
first_trim (((v ∷ vs) ∷ rs) ∷ es) = refl

repeat_trim : (segment : List (List (List Bytes))) → is_single (foremost segment) ≡ true → is_single (foremost (trim_segment is_empty segment)) ≡ true
unfolding foremost is_single is_empty trim_segment trim_element trim_end drop_end
repeat_trim [] h = h
repeat_trim ([] ∷ es) h = h
repeat_trim ((r ∷ []) ∷ es) h = h
repeat_trim ((r ∷ q ∷ rs) ∷ es) h = absurd (false≢true h)

value_trim : (segment : List (List (List Bytes))) → is_single (foremost (foremost segment)) ≡ true
    → is_single (foremost (foremost (trim_segment is_empty segment))) ≡ true
unfolding foremost is_single is_empty trim_segment trim_element trim_repeat trim_end drop_end
value_trim [] h = h
value_trim ([] ∷ es) h = h
value_trim (([] ∷ rs) ∷ es) h = h
value_trim (((v ∷ []) ∷ rs) ∷ es) h = h
value_trim (((v ∷ w ∷ vs) ∷ rs) ∷ es) h = absurd (false≢true h)

pub tag_trim : (segment : List (List (List Bytes))) → tag_stands segment ≡ true → tag_stands (trim_segment is_empty segment) ≡ true
unfolding tag_stands
tag_trim segment h =
    rw (first_trim segment)
    (step (is_tag (first_value segment)) (is_single (foremost segment)) (repeat_trim segment) (begins (text "UN") (first_value segment))
    (is User (kind_named (first_value segment))) h)
  where
    trimmed : List (List (List Bytes))
    trimmed = trim_segment is_empty segment

    step : (a r : Bool) → (r ≡ true → is_single (foremost trimmed) ≡ true) → (b u : Bool)
        → (a && r && (not b || (not u && is_single (foremost (foremost segment))))) ≡ true
        → (a && is_single (foremost trimmed) && (not b || (not u && is_single (foremost (foremost trimmed))))) ≡ true
    step true true k true false h = rw (k refl) (value_trim segment h)
    step true true k true true h = absurd (false≢true h)
    step true true k false u h = rw (k refl) refl
    step true false k b u h = absurd (false≢true h)
    step false r k b u h = h

-- ---- the first value that was read is the tag

-- the first of the values that were read
first_words : (g : Segment) → first_value (words_of g) ≡ tag_of g
unfolding first_value foremost words_of elements_of repeats_of values_of value_of tag_of tag_piece cut through bytes_of gather
first_words [] = refl
first_words (t ∷ ts) =
    let element : List Token = if ends 1 t then [] else through (ends 1) ts in
    let repeat : List Token = if ends 2 t then [] else through (ends 2) element in
    rw (cut_first (ends 1) t ts, cut_first (ends 2) t element, cut_first (ends 3) t repeat)
    (ap bytes_of (through_ends 2 3 (omega arith) (t ∷ element) ∙ through_ends 1 3 (omega arith) (t ∷ ts)))

-- the first of the contents
pub tag_first : (g : Segment) → tag_of g ≡ first_value (contents_of g)
tag_first g = sym (ap first_value (contents_words g) ∙ first_trim (words_of g) ∙ first_words g)

-- ---- what follows the tag

-- In a segment that is ended, the first of smaller pieces ends with what ends the larger one exactly where that has no other.
module _ (low high : ℕ) (k : low ≤ high) where
  alone : (g : Segment) → ended_by 0 g ≡ true → ended_by low (through (ends high) g) ≡ is_single (cut (ends high) (through (ends low) g))
  unfolding ended_by last_or through cut onto is_single is_empty
  alone [] h = absurd (false≢true h)
  alone (t ∷ []) h =
      let second : ends low t ≡ true = ends_more 0 low (omega arith) t h in
      rw (ends_more low high k t second, second) refl
  alone (t ∷ u ∷ us) h = step (ends low t) refl (ends high t) refl (alone (u ∷ us) h)
    where
      others : List Token
      others = if ends low u then [] else through (ends low) us

      pieces : (b : Bool) (y : Token) (zs : List Segment) (x : Segment) → is_single (x ∷ onto b y zs) ≡ false
      pieces true y zs x = refl
      pieces false y [] x = refl
      pieces false y (z ∷ zs) x = refl

      grown : (b : Bool) (y : Token) (zs : List Segment) → is_single (onto b y zs) ≡ is_single (onto false t (onto b y zs))
      grown true y zs = refl
      grown false y [] = refl
      grown false y (z ∷ zs) = refl

      step : (a : Bool) → ends low t ≡ a → (b : Bool) → ends high t ≡ b
          → ended_by low (through (ends high) (u ∷ us)) ≡ is_single (cut (ends high) (through (ends low) (u ∷ us)))
          → ends low (last_or t (if b then [] else through (ends high) (u ∷ us)))
          ≡ is_single (onto b t (cut (ends high) (if a then [] else through (ends low) (u ∷ us))))
      step true e true f ih = e
      step true e false f ih = absurd (true≢false (sym (ends_more low high k t e) ∙ f))
      step false e true f ih = e ∙ sym (pieces (ends high u) u (cut (ends high) others) (t ∷ []))
      step false e false f ih = ih ∙ grown (ends high u) u (cut (ends high) others)

-- a map keeps how many there are
single_map : {A B : Type 0} (f : A → B) (xs : List A) → is_single (map f xs) ≡ is_single xs
unfolding is_single is_empty
single_map f [] = refl
single_map f (x ∷ []) = refl
single_map f (x ∷ y ∷ ys) = refl

-- the tag element has one repeat
repeat_words : (g : Segment) → ended_by 0 g ≡ true → ended_by 1 (tag_repeat g) ≡ is_single (foremost (words_of g))
unfolding tag_repeat foremost words_of elements_of repeats_of ended_by cut
repeat_words [] h = absurd (false≢true h)
repeat_words (t ∷ ts) h =
    let repeats : List (List Token) = cut (ends 2) (through (ends 1) (t ∷ ts)) in
    rw (cut_first (ends 1) t ts)
    (alone 1 2 (omega arith) (t ∷ ts) h ∙ sym (single_map (map (λ v. v.bytes)) (map values_of repeats) ∙ single_map values_of repeats))

-- its first repeat has one value
value_words : (g : Segment) → ended_by 0 g ≡ true → ended_by 2 (tag_piece g) ≡ is_single (foremost (foremost (words_of g)))
unfolding tag_piece foremost words_of elements_of repeats_of values_of ended_by cut through
value_words [] h = absurd (false≢true h)
value_words (t ∷ ts) h =
    let element : List Token = if ends 1 t then [] else through (ends 1) ts in
    let values : List (List Token) = cut (ends 3) (through (ends 2) (t ∷ element)) in
    rw (cut_first (ends 1) t ts, cut_first (ends 2) t element)
    (alone 2 3 (omega arith) (t ∷ ts) h
    ∙ ap (λ (piece : List Token). is_single (cut (ends 3) piece)) (sym (through_ends 1 2 (omega arith) (t ∷ ts)))
    ∙ sym (single_map (λ v. v.bytes) (map value_of values) ∙ single_map value_of values))

-- "A finished segment's tag": its rule is the rule of the segment's values
rule_words : (g : Segment) → finished g ≡ true → tag_rule g ≡ tag_stands (words_of g)
unfolding tag_rule tag_stands kind_of finished
rule_words g h =
    let ended = and_left (ended_by 0 g) (all (λ t. not (is_fault t)) g) h in
    rw (repeat_words g ended, value_words g ended, first_words g) refl

-- where the segments are finished, 6 is met nowhere exactly where the values of each keep the rule
pub tags_words : (past gs : List Segment) → all finished gs ≡ true
    → (starts_where broken_tag past gs ≡ []) ↔ (all tag_stands (map words_of gs) ≡ true)
unfolding starts_where all
tags_words past [] f = (λ e. refl, λ e. refl)
tags_words past (g ∷ gs) f =
    let first : finished g ≡ true = and_left (finished g) (all finished gs) f in
    rw (first, rule_words g first)
    (none_both
    (place_if (not (tag_stands (words_of g))) (start g))
    (starts_where broken_tag (g ∷ past) gs)
    (tag_stands (words_of g))
    (all tag_stands (map words_of gs))
    (place_none_not (tag_stands (words_of g)) (start g))
    (tags_words (g ∷ past) gs (and_right (finished g) (all finished gs) f)))

-- a terminator alone is a finished segment, and so is one with a token more in front
finished_alone : (t : Token) → ends 0 t ≡ true → not (is_fault t) ≡ true → finished (t ∷ []) ≡ true
unfolding finished ended_by last_or all
finished_alone t e f = rw (e, f)

finished_next : (t : Token) (g : Segment) → not (is_fault t) ≡ true → finished g ≡ true → finished (t ∷ g) ≡ true
unfolding finished ended_by last_or all
finished_next t [] f h = absurd (false≢true h)
finished_next t (u ∷ us) f h = rw f h

-- the segments of sound tokens are finished
pub all_finished : (ts : List Token) → Sound ts → all finished (segments ts) ≡ true
unfolding Sound segments cut onto all ends_inside ended_by last_or is_empty
all_finished [] h = refl
all_finished (t ∷ []) h =
    let ended : ends 0 t ≡ true = not-false (ends 0 t) h.1 in
    rw (ended, finished_alone t ended (and_left (not (is_fault t)) true h.0))
all_finished (t ∷ u ∷ us) h =
    let others : Bool = all (λ v. not (is_fault v)) (u ∷ us) in
    rw (cut_first (ends 0) u us)
    (step (ends 0 t) refl (through (ends 0) (u ∷ us)) (cut (ends 0) (beyond (ends 0) (u ∷ us)))
    (and_left (not (is_fault t)) others h.0)
    (rw (cut_first (ends 0) u us) at (all_finished (u ∷ us) (and_right (not (is_fault t)) others h.0, h.1))))
  where
    step : (b : Bool) → ends 0 t ≡ b → (piece : Segment) (pieces : List Segment) → not (is_fault t) ≡ true
        → all finished (piece ∷ pieces) ≡ true → all finished (onto b t (piece ∷ pieces)) ≡ true
    step true e piece pieces f k = rw (finished_alone t e f) k
    step false e piece pieces f k =
        and_both (finished (t ∷ piece)) (all finished pieces)
        (finished_next t piece f (and_left (finished piece) (all finished pieces) k))
        (and_right (finished piece) (all finished pieces) k)
