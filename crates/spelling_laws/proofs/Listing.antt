-- The list of segments that tokens hold, and the tokens of such a list: each from the other, by the laws of any depth. Assumes nothing.
use Prim.Native.Nat.{ℕ, zero, suc, ◌-◌, ◌≤◌}
use mathlib.Core.Path.{◌≡◌, refl, sym, ap, ap₂, fun_ext, ◌∙◌}
use mathlib.Core.Bool.{Bool, true, false, not, ◌&&◌, ◌||◌, false≢true, true≢false, and-true, and_assoc, or-false, or-true}
use mathlib.Core.List.{List, [], ◌∷◌, ◌++◌, map, map-append, append_assoc, append-nil}
use mathlib.Core.Logic.{◌↔◌}
use native.Mathlib.Omega.{arith}
use lib.Dec.{eqb, leb}
use lib.ListN.{length, get_or, drop}
use borrow.Author.Tests.{ne_eqb, not-true, not-false}
use Rattle.lists.specs.Lists.{is_empty, is_single, all, those, through, beyond, at, maybe, last_or, onto, cut, gather}
use Rattle.lists.proofs.Texts.{and_left, and_right, and_both, if_false}
use Rattle.lists.proofs.Pieces.{None, cut_first}
use Rattle.nesting.specs.Nesting.{Nest, shaped, every, lone, nested, written}
use Rattle.nesting_laws.proofs.Shape.{every_true, shaped_some, shaped_first}
use Rattle.nesting_laws.proofs.Lone.{lone_written, lone_single}
use Rattle.nesting_laws.proofs.Ranks.{depth_less, depth_exact}
use Rattle.nesting_laws.proofs.Reading.{push, nested_mapped, nested_next}
use Rattle.nesting_laws.proofs.Writing.{with_end, Writes, in_front, at_last, Row, nothing, ending, next, written_ended, all_written, read_written, written_nested, spelled_written}
use Rattle.characters.specs.declared.Characters.{Characters}
use Rattle.characters.specs.Characters.{has_release, has_repetition, is_service}
use Rattle.values.specs.Tokens.{Token, byte, separator, fault, ends, ends_part, Segment, segments}
use Rattle.values.specs.Values.{byte_of, bytes_of, value_of, values_of, repeats_of, elements_of, ended_by, ends_inside}
use Rattle.values.specs.Spelling.{Bytes, SegmentList, separator_of, spell_value, spell_repeat, spell_element, spell_segment, spell_byte, spell, leads_break, begins_broken, spell_apart}
use Rattle.values.specs.Trimming.{value_at}
use Rattle.values.proofs.Ends.{ends_more}
use Rattle.spelling_laws.specs.Bodies.{words_of, listed, shaped_segment, Shaped, Spellable}
use Rattle.spelling_laws.proofs.Service.{separable, separable_low}
use Rattle.spelling_laws.proofs.Tokens.{placeless, breaking, unbroken_from, ends_placeless, spellable, spell_token, spell_tokens, sayable}

-- ---- the list that tokens hold

pub listed_nested : (ts : List Token) → listed ts ≡ nested ends_part bytes_of 4 ts
unfolding listed segments words_of elements_of repeats_of values_of value_of
listed_nested ts =
    ap (λ (f : Segment → List (List (List Bytes))). map f (cut (ends 0) ts)) (fun_ext (nested_mapped ends_part value_of (λ v. v.bytes) 3))

-- what a token adds to the list that goes on after it
abbrev pub push_token : Token → SegmentList → SegmentList
push_token t list = push ends_part [] (λ t value. byte_of t ++ value) 4 t list

pub listed_next : (t : Token) (ts : List Token) → listed (t ∷ ts) ≡ push_token t (listed ts)
unfolding bytes_of gather
listed_next t ts =
    listed_nested (t ∷ ts)
    ∙ nested_next ends_part [] (λ t value. byte_of t ++ value) bytes_of refl (λ t ts. refl) 4 t ts
    ∙ ap (push_token t) (sym (listed_nested ts))

-- places do not matter
pub listed_placeless : (ts : List Token) → listed (map placeless ts) ≡ listed ts
unfolding placeless ends byte_of
listed_placeless [] = refl
listed_placeless (t ∷ ts) =
    listed_next (placeless t) (map placeless ts) ∙ alike t (listed (map placeless ts)) ∙ ap (push_token t) (listed_placeless ts)
    ∙ sym (listed_next t ts)
  where
    alike : (t : Token) (list : SegmentList) → push_token (placeless t) list ≡ push_token t list
    alike (byte b from place) list = refl
    alike (separator rank place) list = refl
    alike (fault place) list = refl

-- tokens that do not end inside a segment are cut apart from those after them
pub segments_append : (ts us : List Token) → ends_inside ts ≡ false → segments (ts ++ us) ≡ segments ts ++ segments us
unfolding segments cut onto ends_inside ended_by last_or is_empty
segments_append [] us h = refl
segments_append (t ∷ []) us h = rw (not-false (ends 0 t) h) refl
segments_append (t ∷ u ∷ ts) us h =
    ap (onto (ends 0 t) t) (segments_append (u ∷ ts) us h)
    ∙ rw (cut_first (ends 0) u ts) (step (ends 0 t) (through (ends 0) (u ∷ ts)) (cut (ends 0) (beyond (ends 0) (u ∷ ts))))
  where
    step : (b : Bool) (piece : Segment) (pieces : List Segment)
        → onto b t (piece ∷ (pieces ++ segments us)) ≡ onto b t (piece ∷ pieces) ++ segments us
    step true piece pieces = refl
    step false piece pieces = refl

pub listed_append : (ts us : List Token) → ends_inside ts ≡ false → listed (ts ++ us) ≡ listed ts ++ listed us
unfolding listed
listed_append ts us h = ap (map words_of) (segments_append ts us h) ∙ map-append words_of (segments ts) (segments us)

-- ---- the tokens of a list

-- a value's byte, and what ends a part of a depth
abbrev front_of : Bytes → List Token
front_of value = map (λ b. byte b 0 0) value

abbrev end_of : ℕ → Bytes → Token
end_of depth value = separator (3 - depth) 0

abbrev pub tokens_of : SegmentList → List Token
tokens_of list = written (with_end front_of end_of) 4 3 list

less : (n : ℕ) (t : Token) → ends_part (suc n) t ≡ true → ends_part n t ≡ true
less = depth_less 3 ends ends_more

quiet : (value : Bytes) → None (ends_part 0) (front_of value)
unfolding all ends
quiet [] = refl
quiet (b ∷ bs) = quiet bs

exact : (n end : ℕ) (value : Bytes) → end ≤ 3 → ends_part n (end_of end value) ≡ leb n end
unfolding ends
exact n end value k = depth_exact 3 ends end k (end_of end value) (λ rank. refl) n

-- they hold the list
pub listed_tokens : (list : SegmentList) → Shaped list → listed (tokens_of list) ≡ list
unfolding Shaped shaped_segment bytes_of byte_of gather
listed_tokens list s = listed_nested (tokens_of list) ∙ read_written ends_part front_of end_of 3 less quiet exact bytes_of back list s
  where
    back : (end : ℕ) (value : Bytes) → bytes_of (with_end front_of end_of end value) ≡ value
    back end [] = refl
    back end (b ∷ bs) = ap (λ (v : Bytes). b ∷ v) (back end bs)

-- they end no segment too few
pub tokens_ended : (list : SegmentList) → Shaped list → ends_inside (tokens_of list) ≡ false
unfolding Shaped shaped_segment is_empty ends_inside ended_by ends last_or
tokens_ended [] s = refl
tokens_ended (g ∷ list) s =
    let e = written_ended ends_part front_of end_of 3 less quiet exact 4 3 (omega arith) (g ∷ list) s in
    ap ends_inside e.parts ∙ last e.before
  where
    after : (t : Token) (ts : List Token) → last_or t (ts ++ separator 0 0 ∷ []) ≡ separator 0 0
    after t [] = refl
    after t (u ∷ us) = after u us

    last : (ts : List Token) → ends_inside (ts ++ separator 0 0 ∷ []) ≡ false
    last [] = refl
    last (t ∷ ts) = ap (λ (u : Token). not (ends 0 u)) (after t ts)

-- ---- which lists can be spelled

-- every byte of the list can stand in a value exactly where no value holds a service character that could not be released
releasable_exactly : (c : Characters) (list : SegmentList)
    → (has_release c ≡ false → every (all (λ b. not (is_service c b))) 4 list ≡ true) ↔ (every (all (spellable c)) 4 list ≡ true)
releasable_exactly c list = step (has_release c) refl
  where
    step : (r : Bool) → has_release c ≡ r
        → (r ≡ false → every (all (λ b. not (is_service c b))) 4 list ≡ true) ↔ (every (all (λ b. r || not (is_service c b))) 4 list ≡ true)
    step true e = (λ h. every_true (λ b. true || not (is_service c b)) (λ b. refl) 5 list, λ h k. absurd (true≢false k))
    step false e = (λ h. h refl, λ h k. h)

-- a value's bytes, and what ends it
said_value : (c : Characters) (end : ℕ) (value : Bytes)
    → all (sayable c) (with_end front_of end_of end value) ≡ (all (spellable c) value && separable c (3 - end))
unfolding all sayable
said_value c end [] = and-true (separable c (3 - end))
said_value c end (b ∷ bs) =
    ap (λ (t : Bool). spellable c b && t) (said_value c end bs) ∙ sym (and_assoc (spellable c b) (all (spellable c) bs) (separable c (3 - end)))

-- every separator can be spelled, but one that ends just a repeat only where there is a repetition separator
separable_end : (c : Characters) (end : ℕ) → separable c (3 - end) ≡ (not (eqb 1 end) || has_repetition c)
unfolding separable
separable_end c zero = refl
separable_end c (suc zero) = refl
separable_end c (suc (suc zero)) = refl
separable_end c (suc (suc (suc end))) =
    let none : 3 - suc (suc (suc end)) ≡ 0 = omega arith in
    ap (separable c) none ∙ sym (ap (λ (t : Bool). not t || has_repetition c) (ne_eqb 1 (suc (suc (suc end))) (λ e. omega arith)))

-- where there is none, the tokens are spelled exactly where the bytes are, and each element has one repeat
tokens_lone : (c : Characters) → has_repetition c ≡ false → (list : SegmentList) → Shaped list
    → all (sayable c) (tokens_of list) ≡ (every (all (spellable c)) 4 list && every is_single 2 list)
unfolding Shaped shaped_segment is_empty all
tokens_lone c n [] s = refl
tokens_lone c n (g ∷ list) s =
    lone_written (with_end front_of end_of) 1 (sayable c) (all (spellable c)) one 4 3 (g ∷ list) s
    ∙ ap (λ (t : Bool). every (all (spellable c)) 4 (g ∷ list) && t) (and-true (lone Bytes 1 4 (g ∷ list)))
    ∙ ap (λ (t : List (List Bytes) → Bool). every (all (spellable c)) 4 (g ∷ list) && every t 2 (g ∷ list)) (fun_ext (lone_single Bytes 1))
  where
    one : (end : ℕ) (value : Bytes) → all (sayable c) (with_end front_of end_of end value) ≡ (all (spellable c) value && not (eqb 1 end))
    one end value =
        said_value c end value
        ∙ ap (λ (t : Bool). all (spellable c) value && t)
        (separable_end c end ∙ ap (λ (p : Bool). not (eqb 1 end) || p) n ∙ or-false (not (eqb 1 end)))

-- where there is one, they are spelled exactly where the bytes are
tokens_all : (c : Characters) → has_repetition c ≡ true → (list : SegmentList) → all (sayable c) (tokens_of list) ≡ every (all (spellable c)) 4 list
tokens_all c p list = all_written ends_part front_of end_of 3 less quiet exact (sayable c) (all (spellable c)) one 4 3 list
  where
    one : (end : ℕ) (value : Bytes) → all (sayable c) (with_end front_of end_of end value) ≡ all (spellable c) value
    one end value =
        said_value c end value
        ∙ ap (λ (t : Bool). all (spellable c) value && t)
        (separable_end c end ∙ ap (λ (t : Bool). not (eqb 1 end) || t) p ∙ or-true (not (eqb 1 end)))
        ∙ and-true (all (spellable c) value)

-- a list can be spelled exactly where each of its tokens is
pub spellable_exactly : (c : Characters) (list : SegmentList) → Shaped list → Spellable c list ↔ (all (sayable c) (tokens_of list) ≡ true)
spellable_exactly c list s = step (has_repetition c) refl
  where
    bytes : Bool
    bytes = every (all (spellable c)) 4 list

    step : (p : Bool) → has_repetition c ≡ p → Spellable c list ↔ (all (sayable c) (tokens_of list) ≡ true)
    step true e = (
      λ h. tokens_all c e list ∙ (releasable_exactly c list).0 h.released,
      λ h. record {
        released = (releasable_exactly c list).1 (sym (tokens_all c e list) ∙ h);
        repeated = λ k. absurd (true≢false (sym e ∙ k));
      },
    )
    step false e = (
      λ h. tokens_lone c e list s ∙ and_both bytes (every is_single 2 list) ((releasable_exactly c list).0 h.released) (h.repeated e),
      λ h.
          let both = sym (tokens_lone c e list s) ∙ h in
          record {
            released = (releasable_exactly c list).1 (and_left bytes (every is_single 2 list) both);
            repeated = λ k. and_right bytes (every is_single 2 list) both;
          },
    )

-- spelled one by one, they spell the list
pub spelled_tokens : (c : Characters) (list : SegmentList) → Shaped list → gather (spell_token c) (tokens_of list) ≡ spell c list
unfolding Shaped shaped_segment spell spell_segment spell_element spell_repeat spell_value spell_token gather
spelled_tokens c list s =
    spelled_written ends_part front_of end_of 3 less quiet exact (spell_token c) (separator_of c) (spell_value c) fronts marks list s
  where
    fronts : (value : Bytes) → gather (spell_token c) (front_of value) ≡ spell_value c value
    fronts [] = refl
    fronts (b ∷ bs) = ap (λ (v : Bytes). spell_byte c b ++ v) (fronts bs)

    marks : (end : ℕ) (value : Bytes) → end ≤ 3 → spell_token c (end_of end value) ≡ separator_of c end ∷ []
    marks end value k = let same : 3 - (3 - end) ≡ end = omega arith in ap (λ (depth : ℕ). separator_of c depth ∷ []) same

-- ---- segment by segment

-- the tokens of a segment: some of which none ends it, and its terminator
segment_tokens : (g : List (List (List Bytes))) → shaped_segment g ≡ true
    → (before : List Token) × (tokens_of (g ∷ []) ≡ before ++ separator 0 0 ∷ []) × None (ends 0) before
unfolding shaped_segment
segment_tokens g s = let e = written_ended ends_part front_of end_of 3 less quiet exact 3 3 (omega arith) g s in (e.before, e.parts, e.within)

-- the tokens of a list are those of its first segment, and those of the others
tokens_cons : (g : List (List (List Bytes))) (list : SegmentList) → tokens_of (g ∷ list) ≡ tokens_of (g ∷ []) ++ tokens_of list
tokens_cons g [] = sym (append-nil (tokens_of (g ∷ [])))
tokens_cons g (h ∷ list) = refl

-- what holds of tokens up to a terminator, and of those after it, holds of the list
module _ (g : List (List (List Bytes))) (list : SegmentList) (s : shaped_segment g ≡ true) where
  parted : (before : List Token) × (tokens_of (g ∷ list) ≡ before ++ separator 0 0 ∷ tokens_of list) × (tokens_of (g ∷ []) ≡ before ++ separator 0 0 ∷ []) × None (ends 0) before
  parted =
      let e = segment_tokens g s in (
        e.0,
        tokens_cons g list
            ∙ ap (λ (ts : List Token). ts ++ tokens_of list) e.1
            ∙ append_assoc e.0 (separator 0 0 ∷ []) (tokens_of list),
        e.1,
        e.2,
      )

-- the first of tokens none of which ends a segment ends none, and so do the others
module _ (t : Token) (before : List Token) (h : None (ends 0) (t ∷ before)) where
  first_none : ends 0 t ≡ false
  unfolding all
  first_none = not-true (ends 0 t) (and_left (not (ends 0 t)) (all (λ u. not (ends 0 u)) before) h)

  others_none : None (ends 0) before
  unfolding all
  others_none = and_right (not (ends 0 t)) (all (λ u. not (ends 0 u)) before) h

-- up to a terminator, tokens are spelled one by one, and then follows what stands after it
spelled_to_end : (c : Characters) (before rest : List Token) (between : List Bytes) → None (ends 0) before
    → spell_tokens c (before ++ separator 0 0 ∷ rest) between
    ≡ gather (spell_token c) (before ++ separator 0 0 ∷ []) ++ (get_or between 0 [] ++ spell_tokens c rest (drop 1 between))
unfolding spell_tokens gather spell_token ends
spelled_to_end c [] rest between h = refl
spelled_to_end c (t ∷ before) rest between h =
    let others : List Token = before ++ separator 0 0 ∷ rest in
    ap (λ (bs : Bytes). spell_token c t ++ bs)
    (if_false (ends 0 t) (get_or between 0 [] ++ spell_tokens c others (drop 1 between)) (spell_tokens c others between) (first_none t before h)
    ∙ spelled_to_end c before rest between (others_none t before h))
    ∙ sym
    (append_assoc (spell_token c t) (gather (spell_token c) (before ++ separator 0 0 ∷ []))
    (get_or between 0 [] ++ spell_tokens c rest (drop 1 between)))

-- with bytes after each terminator, the tokens of a list spell the list with those bytes after each segment
pub apart_tokens : (c : Characters) (list : SegmentList) (between : List Bytes) → Shaped list
    → spell_tokens c (tokens_of list) between ≡ spell_apart c list between
unfolding Shaped all spell_tokens spell_apart spell gather
apart_tokens c [] between s = refl
apart_tokens c (g ∷ list) between s =
    let one : shaped_segment g ≡ true = and_left (shaped_segment g) (all shaped_segment list) s in
    let e = parted g list one in
    ap (λ (ts : List Token). spell_tokens c ts between) e.1
    ∙ spelled_to_end c e.0 (tokens_of list) between e.3
    ∙ ap₂ (λ (xs ys : Bytes). xs ++ (get_or between 0 [] ++ ys))
    (sym (ap (gather (spell_token c)) e.2) ∙ spelled_tokens c (g ∷ []) (and_both (shaped_segment g) true one refl) ∙ append-nil (spell_segment c g))
    (apart_tokens c list (drop 1 between) (and_right (shaped_segment g) (all shaped_segment list) s))
    ∙ step between
  where
    step : (between : List Bytes)
        → spell_segment c g ++ (get_or between 0 [] ++ spell_apart c list (drop 1 between)) ≡ spell_apart c (g ∷ list) between
    step [] = refl
    step (gap ∷ between) = refl

-- there is a terminator for each segment
ended_to_end : (before rest : List Token) → None (ends 0) before
    → length (those (ends 0) (before ++ separator 0 0 ∷ rest)) ≡ suc (length (those (ends 0) rest))
unfolding those ends
ended_to_end [] rest h = refl
ended_to_end (t ∷ before) rest h =
    let others : List Token = those (ends 0) (before ++ separator 0 0 ∷ rest) in
    ap length (if_false (ends 0 t) (t ∷ others) others (first_none t before h)) ∙ ended_to_end before rest (others_none t before h)

pub ended_tokens_lem : (list : SegmentList) → Shaped list → length (those (ends 0) (tokens_of list)) ≡ length list
unfolding Shaped all those
ended_tokens_lem [] s = refl
ended_tokens_lem (g ∷ list) s =
    let e = parted g list (and_left (shaped_segment g) (all shaped_segment list) s) in
    ap (λ (ts : List Token). length (those (ends 0) ts)) e.1
    ∙ ended_to_end e.0 (tokens_of list) e.3
    ∙ ap suc (ended_tokens_lem list (and_right (shaped_segment g) (all shaped_segment list) s))

-- ---- line breaks

-- the first value
abbrev pub firstly : (n : ℕ) → Nest Bytes n → Bytes
firstly zero v = v
firstly (suc n) [] = []
firstly (suc n) (x ∷ xs) = firstly n x

-- the first token of a part is a break exactly where its first value begins with one
part_breaking : (n end : ℕ) (x : Nest Bytes n) → shaped Bytes n x ≡ true → (rest : List Token)
    → maybe false breaking (at (written (with_end front_of end_of) n end x ++ rest) 0) ≡ leads_break (firstly n x)
unfolding maybe at breaking leads_break
part_breaking zero end [] s rest = refl
part_breaking zero end (b ∷ bs) s rest = refl
part_breaking (suc n) end [] s rest = absurd (shaped_some Bytes n s)
part_breaking (suc n) end (x ∷ []) s rest = part_breaking n end x (shaped_first Bytes n x [] s) rest
part_breaking (suc n) end (x ∷ y ∷ ys) s rest =
    let others : List Token = written (with_end front_of end_of) (suc n) end (y ∷ ys) in
    ap (λ (ts : List Token). maybe false breaking (at ts 0)) (append_assoc (written (with_end front_of end_of) n n x) others rest)
    ∙ part_breaking n n x (shaped_first Bytes n x (y ∷ ys) s) (others ++ rest)

-- which is where the segment begins with one
pub begins_first : (g : List (List (List Bytes))) → shaped Bytes 3 g ≡ true → leads_break (firstly 3 g) ≡ begins_broken g
unfolding is_empty all begins_broken value_at maybe at
begins_first [] s = absurd (false≢true s)
begins_first ([] ∷ es) s = absurd (false≢true s)
begins_first (([] ∷ rs) ∷ es) s = absurd (false≢true s)
begins_first (((v ∷ vs) ∷ rs) ∷ es) s = refl

-- so the first token of a segment is one exactly where the segment begins with one
first_breaking : (g : List (List (List Bytes))) → shaped_segment g ≡ true → maybe false breaking (at (tokens_of (g ∷ [])) 0) ≡ begins_broken g
unfolding shaped_segment
first_breaking g s =
    ap (λ (ts : List Token). maybe false breaking (at ts 0)) (sym (append-nil (tokens_of (g ∷ [])))) ∙ part_breaking 3 3 g s [] ∙ begins_first g s

-- inside a segment a break may stand
unbroken_within : (before rest : List Token) → None (ends 0) before → unbroken_from false (before ++ separator 0 0 ∷ rest) ≡ unbroken_from true rest
unfolding unbroken_from ends
unbroken_within [] rest h = refl
unbroken_within (t ∷ before) rest h =
    ap (λ (e : Bool). unbroken_from e (before ++ separator 0 0 ∷ rest)) (first_none t before h) ∙ unbroken_within before rest (others_none t before h)

unbroken_segment : (before rest : List Token) → None (ends 0) before
    → unbroken_from true (before ++ separator 0 0 ∷ rest)
    ≡ (not (maybe false breaking (at (before ++ separator 0 0 ∷ []) 0)) && unbroken_from true rest)
unfolding unbroken_from ends breaking maybe at
unbroken_segment [] rest h = refl
unbroken_segment (t ∷ before) rest h =
    ap (λ (e : Bool). not (breaking t) && unbroken_from e (before ++ separator 0 0 ∷ rest)) (first_none t before h)
    ∙ ap (λ (b : Bool). not (breaking t) && b) (unbroken_within before rest (others_none t before h))

-- no token of a list that stands directly after a terminator is a break exactly where no segment begins with one
pub unbroken_tokens : (list : SegmentList) → Shaped list → unbroken_from true (tokens_of list) ≡ all (λ g. not (begins_broken g)) list
unfolding Shaped all unbroken_from
unbroken_tokens [] s = refl
unbroken_tokens (g ∷ list) s =
    let one : shaped_segment g ≡ true = and_left (shaped_segment g) (all shaped_segment list) s in
    let e = parted g list one in
    ap (unbroken_from true) e.1
    ∙ unbroken_segment e.0 (tokens_of list) e.3
    ∙ ap₂ (λ (b more : Bool). not b && more)
    (sym (ap (λ (ts : List Token). maybe false breaking (at ts 0)) e.2) ∙ first_breaking g one)
    (unbroken_tokens list (and_right (shaped_segment g) (all shaped_segment list) s))

-- ---- the tokens of the list that tokens hold

-- tokens that end inside no segment
pub inside_placeless : (ts : List Token) → ends_inside (map placeless ts) ≡ ends_inside ts
unfolding ends_inside ended_by is_empty last_or
inside_placeless [] = refl
inside_placeless (t ∷ ts) = ap not (last t ts ∙ ends_placeless 0 (last_or t ts))
  where
    last : (t : Token) (ts : List Token) → ends 0 (last_or (placeless t) (map placeless ts)) ≡ ends 0 (placeless (last_or t ts))
    last t [] = refl
    last t (u ∷ us) = last u us

module _ (c : Characters) where
  abbrev add : Token → Bytes → Bytes
  add t value = byte_of t ++ value

  writes : (t : Token) → sayable c t ≡ true → Writes ends_part front_of end_of 3 less quiet exact [] add (placeless t)
  unfolding sayable placeless ends byte_of
  writes (byte b from place) h = in_front refl (λ v. refl) (λ end v. refl)
  writes (separator rank place) h =
      let low : rank ≤ 3 = separable_low c rank h in
      let same : 3 - (3 - rank) ≡ rank = omega arith in
      at_last (3 - rank) (omega arith) refl (ap (λ (r : ℕ). separator r 0) same)
  writes (fault place) h = absurd (false≢true h)

  row : (ts : List Token) → all (sayable c) ts ≡ true → ends_inside ts ≡ false
      → Row ends_part front_of end_of 3 less quiet exact [] add (map placeless ts)
  unfolding all ends_inside ended_by last_or is_empty
  row [] h e = nothing
  row (t ∷ []) h e = ending (writes t (and_left (sayable c t) true h)) (ends_placeless 0 t ∙ not-false (ends 0 t) e)
  row (t ∷ u ∷ us) h e =
      next (writes t (and_left (sayable c t) (all (sayable c) (u ∷ us)) h)) (row (u ∷ us) (and_right (sayable c t) (all (sayable c) (u ∷ us)) h) e)

  -- tokens that are spelled and end inside no segment are those of the list that they hold
  pub tokens_listed : (ts : List Token) → all (sayable c) ts ≡ true → ends_inside ts ≡ false
      → (tokens_of (listed ts) ≡ map placeless ts) × Shaped (listed ts)
  unfolding Shaped shaped_segment bytes_of gather
  tokens_listed ts h e =
      rw (sym (listed_placeless ts) ∙ listed_nested (map placeless ts))
      (written_nested ends_part front_of end_of 3 less quiet exact [] add bytes_of refl (λ t ts. refl) (row ts h e))
