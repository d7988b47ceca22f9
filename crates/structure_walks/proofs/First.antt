-- The first stop, from left to right, is the lowest place of refusal 22. Assumes nothing.
use Rattle.std.specs.Prelude.{if◌then◌else◌}
use Prim.Native.Nat.{ℕ, ◌≤◌}
use mathlib.Core.Path.{◌≡◌, refl, sym, ap, subst, ◌∙◌}
use mathlib.Core.Bool.{Bool, true, false, ◌||◌, false≢true}
use mathlib.Core.Logic.{⊎_elim}
use mathlib.Core.List.{List, [], ◌∷◌, ◌++◌, Memᴰ}
use mathlib.Core.Option.{Option, none, some, none-ne-some, some-injective}
use native.Mathlib.Omega.{arith}
use lib.ListN.{length}
use Rattle.lists.specs.Lists.{all, any, those, first, at, maybe}
use Rattle.refusals.specs.declared.Fault.TheVariants.{MisplacedSegment, UnmatchedBody}
use Rattle.refusals.specs.declared.Refusal.{Refusal}
use Rattle.refusals.specs.Refusals.{Stage, met, or_else, answering}
use Rattle.refusals.proofs.Words.{place_answers, nowhere_answers}
use Rattle.values.specs.Tokens.{Segment, start}
use Rattle.segments.specs.declared.Kind.TheVariants.{Unh, Unt}
use Rattle.segments.specs.Kinds.{is}
use Rattle.segments.specs.Tags.{tag_of, kind_of}
use Rattle.segments.proofs.Words.{is_says}
use Rattle.stages.specs.Contents.{segments_of}
use Rattle.stages.specs.Stages.{places_of, brackets, brackets_in, stages_in}
use Rattle.stages.proofs.Stages.{unmet}
use Rattle.grammar_laws.proofs.Theorem.{input_order}
use Rattle.stage_walks.proofs.Rows.{Climbs, end, on}
use Rattle.stage_walks.proofs.Rising.{Spans, segments_rise}
use Rattle.message_tables.specs.Soundness.{is_sound}
use Rattle.message_tables.specs.Structure.{Structure, structure_of, tags_in}
use Rattle.message_structures.specs.Walking.{Walked, stopped, through, walk, left_over, unmatched}
use Rattle.message_structures.specs.Bodies.{before, is_trailer, body_in, trailer_start, mismatch, mismatches, unmatched_bodies}
use Rattle.structure_walks.specs.Walks.{beginning, at_trailer, stop_of, first_stop}
use Rattle.structure_walks.proofs.Ends.{left_by, walk_parts, extended, walk_extended, unmatched_end}
use Rattle.structure_walks.proofs.Service.{header_never, trailer_never}
use Rattle.structure_walks.proofs.Followed.{Followed, whole_followed}

-- ---- a body and its UNT

-- what follows a UNH is the body, its UNT, and the rest
record Closed (gs : List Segment) : Type 0 where
  trailer : Segment
  rest : List Segment
  splits : gs ≡ body_in gs ++ trailer ∷ rest
  closes : kind_of trailer ≡ Unt
  starts : trailer_start gs ≡ start trailer

closed : (gs : List Segment) → any is_trailer gs ≡ true → Closed gs
unfolding any body_in before trailer_start first maybe
closed [] h = absurd (false≢true h)
closed (g ∷ gs) h = step (is_trailer g) refl h (closed gs)
  where
    step : (b : Bool) → is_trailer g ≡ b → (b || any is_trailer gs) ≡ true → (any is_trailer gs ≡ true → Closed gs) → Closed (g ∷ gs)
    step true e h rest =
        record {
          trailer = g;
          rest = gs;
          splits = rw e;
          closes = (is_says Unt (kind_of g)).0 e;
          starts = rw e;
        }
    step false e h rest =
        let c = rest h in
        record {
          trailer = c.trailer;
          rest = c.rest;
          splits = rw e (ap (λ (xs : List Segment). g ∷ xs) c.splits);
          closes = c.closes;
          starts = rw e c.starts;
        }

-- no UNT stands in the body
body_inner : (gs : List Segment) (x : Segment) → Memᴰ x (body_in gs) → is_trailer x ≡ false
unfolding body_in before
body_inner [] x m = absurd (mathlib.Core.List.Memᴰ.not-nil m)
body_inner (g ∷ gs) x m = step (is_trailer g) refl m (body_inner gs x)
  where
    step : (b : Bool) → is_trailer g ≡ b → Memᴰ x (if b then [] else g ∷ before is_trailer gs)
        → (Memᴰ x (before is_trailer gs) → is_trailer x ≡ false) → is_trailer x ≡ false
    step true e m rest = absurd (mathlib.Core.List.Memᴰ.not-nil m)
    step false e m rest = ⊎_elim (λ (q : x ≡ g). ap is_trailer q ∙ e) rest (mathlib.Core.List.Memᴰ.cases_cons m)

-- ---- rows that rise

climbs_low : {low high : ℕ} {gs : List Segment} → Climbs Spans low high gs → (x : Segment) → Memᴰ x gs → low ≤ start x
climbs_low (end h) x m = absurd (mathlib.Core.List.Memᴰ.not-nil m)
climbs_low (on low next g l (from, to, within) above) x m =
    ⊎_elim (λ (q : x ≡ g). subst (λ (y : Segment). low ≤ start y) (sym q) from) (λ k. omega (arith, climbs_low above x k)) (mathlib.Core.List.Memᴰ.cases_cons m)

climbs_drop : (low high : ℕ) (taken left : List Segment) → Climbs Spans low high (taken ++ left) → (from : ℕ) × Climbs Spans from high left
climbs_drop low high [] left c = (low, c)
climbs_drop low high (g ∷ taken) left (on from next x l p above) = climbs_drop next high taken left above

-- the first of them begins lowest
first_lowest : {low high : ℕ} (left : List Segment) → Climbs Spans low high left → (x : Segment) → Memᴰ x left → beginning left ≤ start x
unfolding beginning maybe at
first_lowest [] c x m = absurd (mathlib.Core.List.Memᴰ.not-nil m)
first_lowest (g ∷ left) (on low next h l (from, to, within) above) x m =
    ⊎_elim (λ (q : x ≡ g). subst (λ (y : Segment). start g ≤ start y) (sym q) (omega arith))
    (λ k. omega (arith, climbs_low above x k)) (mathlib.Core.List.Memᴰ.cases_cons m)

-- ---- one message

-- the place, where the walk stopped
abbrev placed : Option ℕ → List ℕ
placed none = []
placed (some p) = p ∷ []

-- it is the lowest of the places; none where there is no place
abbrev Found : List ℕ → Option ℕ → Type 0
Found places none = (q : ℕ) → Memᴰ q places → ⊥
Found places (some p) = Memᴰ p places × ((q : ℕ) → Memᴰ q places → p ≤ q)

module _
    (t : Structure)
    (no_Header : (g : Segment) → kind_of g ≡ Unh → Memᴰ (tag_of g) (tags_in t) → ⊥)
    (no_trailer : (g : Segment) → kind_of g ≡ Unt → Memᴰ (tag_of g) (tags_in t) → ⊥) where
  -- the walk through the body stops where the walk over all that follows does
  mismatch_stop : (gs : List Segment) → any is_trailer gs ≡ true → mismatch t gs ≡ placed (stop_of (walk tag_of t gs))
  unfolding mismatch unmatched maybe left_over stop_of beginning at_trailer at
  mismatch_stop gs h =
      let c : Closed gs = closed gs h in
      let behind : List Segment = c.trailer ∷ c.rest in
      let whole : walk tag_of t gs ≡ extended tag_of behind (walk tag_of t (body_in gs)) =
      ap (walk tag_of t) c.splits ∙ walk_extended tag_of behind t (no_trailer c.trailer c.closes) (body_in gs) in
      step c (walk tag_of t (body_in gs)) (walk_parts tag_of t (body_in gs)) ∙ ap (λ w. placed (stop_of w)) (sym whole)
    where
      place : List Segment → ℕ
      place left = maybe (trailer_start gs) start (at left 0)

      same_place : (c : Closed gs) (left : List Segment) → place left ≡ beginning (left ++ c.trailer ∷ c.rest)
      same_place c [] = c.starts
      same_place c (x ∷ xs) = refl

      step : (c : Closed gs) (w : Walked Segment)
          → ((taken : List Segment) × (body_in gs ≡ taken ++ left_by tag_of w) × ((g : Segment) → Memᴰ g taken → Memᴰ (tag_of g) (tags_in t)))
          → maybe [] (λ left. place left ∷ []) (left_over tag_of w) ≡ placed (stop_of (extended tag_of (c.trailer ∷ c.rest) w))
      step c (stopped left) parts = ap (λ (p : ℕ). p ∷ []) (same_place c left)
      step c (through []) parts = rw ((is_says Unt (kind_of c.trailer)).1 c.closes)
      step c (through (x ∷ xs)) parts =
          rw (body_inner gs x (subst (Memᴰ x) (sym parts.1) (mathlib.Core.List.Memᴰ.append_right parts.0 (mathlib.Core.List.Memᴰ.head refl))))

  -- a place of the message is the start of a segment that follows its UNH
  stop_in : (gs : List Segment) (q : ℕ) → any is_trailer gs ≡ true → Memᴰ q (mismatch t gs) → (x : Segment) × Memᴰ x gs × (q ≡ start x)
  unfolding mismatch maybe at
  stop_in gs q h m = step (unmatched tag_of t (body_in gs)) refl m
    where
      c : Closed gs
      c = closed gs h

      found : (left : List Segment) → (taken : List Segment) × (body_in gs ≡ taken ++ left) → q ≡ maybe (trailer_start gs) start (at left 0)
          → (x : Segment) × Memᴰ x gs × (q ≡ start x)
      found [] parts e =
          (c.trailer, subst (Memᴰ c.trailer) (sym c.splits) (mathlib.Core.List.Memᴰ.append_right (body_in gs) (mathlib.Core.List.Memᴰ.head refl)), e ∙ c.starts)
      found (x ∷ xs) parts e = (
        x,
        subst (Memᴰ x) (sym c.splits)
            (mathlib.Core.List.Memᴰ.append_left (c.trailer ∷ c.rest) (subst (Memᴰ x) (sym parts.1) (mathlib.Core.List.Memᴰ.append_right parts.0 (mathlib.Core.List.Memᴰ.head refl)))),
        e,
      )

      step : (o : Option (List Segment)) → unmatched tag_of t (body_in gs) ≡ o
          → Memᴰ q (maybe [] (λ left. maybe (trailer_start gs) start (at left 0) ∷ []) o) → (x : Segment) × Memᴰ x gs × (q ≡ start x)
      step none e m = absurd (mathlib.Core.List.Memᴰ.not-nil m)
      step (some left) e m = found left (unmatched_end tag_of t (body_in gs) left e) (mathlib.Core.List.Memᴰ.eq_of_singleton m)

  -- ---- all messages

  mismatches_in : (gs : List Segment) (q : ℕ) → Followed gs → Memᴰ q (mismatches t gs) → (x : Segment) × Memᴰ x gs × (q ≡ start x)
  unfolding mismatches
  mismatches_in [] q f m = absurd (mathlib.Core.List.Memᴰ.not-nil m)
  mismatches_in (g ∷ gs) q f m =
      ⊎_elim (own (is Unh (kind_of g)) refl) (λ k. later (mismatches_in gs q f.1 k))
      (mathlib.Core.List.Memᴰ.append_cases (if is Unh (kind_of g) then mismatch t gs else []) m)
    where
      later : (x : Segment) × Memᴰ x gs × (q ≡ start x) → (x : Segment) × Memᴰ x (g ∷ gs) × (q ≡ start x)
      later (x, k, e) = (x, mathlib.Core.List.Memᴰ.tail k, e)

      own : (b : Bool) → is Unh (kind_of g) ≡ b → Memᴰ q (if b then mismatch t gs else []) → (x : Segment) × Memᴰ x (g ∷ gs) × (q ≡ start x)
      own true e k = later (stop_in gs q (f.0 ((is_says Unh (kind_of g)).0 e)) k)
      own false e k = absurd (mathlib.Core.List.Memᴰ.not-nil k)

  -- no UNH stands among what a walk took
  taken_other : (taken : List Segment) → ((g : Segment) → Memᴰ g taken → Memᴰ (tag_of g) (tags_in t))
      → (g : Segment) → Memᴰ g taken → is Unh (kind_of g) ≡ false
  taken_other taken tagged g m = step (is Unh (kind_of g)) refl
    where
      step : (b : Bool) → is Unh (kind_of g) ≡ b → b ≡ false
      step true e = absurd (no_Header g ((is_says Unh (kind_of g)).0 e) (tagged g m))
      step false e = refl

  mismatches_pass : (taken left : List Segment) → ((g : Segment) → Memᴰ g taken → is Unh (kind_of g) ≡ false)
      → mismatches t (taken ++ left) ≡ mismatches t left
  unfolding mismatches
  mismatches_pass [] left h = refl
  mismatches_pass (g ∷ taken) left h =
      rw (h g (mathlib.Core.List.Memᴰ.head refl)) (mismatches_pass taken left (λ x m. h x (mathlib.Core.List.Memᴰ.tail m)))

  stops_pass : (taken left : List Segment) → ((g : Segment) → Memᴰ g taken → is Unh (kind_of g) ≡ false)
      → first_stop t (taken ++ left) ≡ first_stop t left
  unfolding first_stop
  stops_pass [] left h = refl
  stops_pass (g ∷ taken) left h = rw (h g (mathlib.Core.List.Memᴰ.head refl)) (stops_pass taken left (λ x m. h x (mathlib.Core.List.Memᴰ.tail m)))

  -- from what a walk left, the first stop is the same
  pub stop_on : (gs : List Segment) → first_stop t gs ≡ first_stop t (left_by tag_of (walk tag_of t gs))
  stop_on gs =
      let (taken, splits, tagged) = walk_parts tag_of t gs in
      ap (first_stop t) splits ∙ stops_pass taken (left_by tag_of (walk tag_of t gs)) (taken_other taken tagged)

  -- ---- the lowest place

  followed_drop : (taken left : List Segment) → Followed (taken ++ left) → Followed left
  followed_drop [] left f = f
  followed_drop (g ∷ taken) left f = followed_drop taken left f.1

  -- where the walk stopped, what is left begins
  stopped_at_lem : (w : Walked Segment) (p : ℕ) → stop_of w ≡ some p → p ≡ beginning (left_by tag_of w)
  unfolding stop_of
  stopped_at_lem (stopped left) p e = sym (some-injective (beginning left) p e)
  stopped_at_lem (through left) p e = step (at_trailer left) e
    where
      step : (b : Bool) → (if b then none else some (beginning left)) ≡ some p → p ≡ beginning left
      step true e = absurd (none-ne-some p e)
      step false e = sym (some-injective (beginning left) p e)

  -- a place of a later message is not lower than where the walk stopped
  later_higher : (low high : ℕ) (gs : List Segment) → Climbs Spans low high gs → Followed gs → (q : ℕ) → Memᴰ q (mismatches t gs)
      → beginning (left_by tag_of (walk tag_of t gs)) ≤ q
  later_higher low high gs c f q m =
      let left : List Segment = left_by tag_of (walk tag_of t gs) in
      let (taken, splits, tagged) = walk_parts tag_of t gs in
      let rest : Memᴰ q (mismatches t left) =
      subst (Memᴰ q) (ap (mismatches t) splits ∙ mismatches_pass taken left (taken_other taken tagged)) m in
      let (x, k, e) = mismatches_in left q (followed_drop taken left (subst Followed splits f)) rest in
      let above = climbs_drop low high taken left (subst (Climbs Spans low high) splits c) in
      omega (arith, first_lowest left above.1 x k, e)

  stops_found : (gs : List Segment) (low high : ℕ) → Climbs Spans low high gs → Followed gs → Found (mismatches t gs) (first_stop t gs)
  unfolding mismatches first_stop stop_of maybe
  stops_found [] low high c f = λ q m. mathlib.Core.List.Memᴰ.not-nil m
  stops_found (g ∷ gs) low high c f =
      let above = climbs_drop low high (g ∷ []) gs c in
      step (is Unh (kind_of g)) refl (stops_found gs above.0 high above.1 f.1) (later_higher above.0 high gs above.1 f.1)
    where
      header : (o : Option ℕ) → stop_of (walk tag_of t gs) ≡ o → mismatch t gs ≡ placed o → Found (mismatches t gs) (first_stop t gs)
          → ((q : ℕ) → Memᴰ q (mismatches t gs) → beginning (left_by tag_of (walk tag_of t gs)) ≤ q)
          → Found (mismatch t gs ++ mismatches t gs) (maybe (first_stop t gs) some o)
      header none e k rest higher = subst (λ (ps : List ℕ). Found (ps ++ mismatches t gs) (first_stop t gs)) (sym k) rest
      header (some p) e k rest higher =
          subst (λ (ps : List ℕ). Found (ps ++ mismatches t gs) (some p)) (sym k) (
            mathlib.Core.List.Memᴰ.head refl,
            λ q m.
                ⊎_elim (λ (x : q ≡ p). omega arith) (λ x. omega (arith, stopped_at_lem (walk tag_of t gs) p e, higher q x)) (mathlib.Core.List.Memᴰ.cases_cons m),
          )

      step : (b : Bool) → is Unh (kind_of g) ≡ b → Found (mismatches t gs) (first_stop t gs)
          → ((q : ℕ) → Memᴰ q (mismatches t gs) → beginning (left_by tag_of (walk tag_of t gs)) ≤ q)
          → Found ((if b then mismatch t gs else []) ++ mismatches t gs)
          (if b then maybe (first_stop t gs) some (stop_of (walk tag_of t gs)) else first_stop t gs)
      step true e rest higher =
          header (stop_of (walk tag_of t gs)) refl (mismatch_stop gs (f.0 ((is_says Unh (kind_of g)).0 e))) rest higher
      step false e rest higher = rest

-- ---- of an input

-- the refusal of the place, if there is one
abbrev pub refusal_at : Option ℕ → Option Refusal
refusal_at none = none
refusal_at (some p) = some (record { fault = UnmatchedBody; place = p })

module _ (table s : List ℕ) (sound : is_sound table ≡ true) (passed : answering (stages_in s 1 12) ≡ none) where
  found : Found (unmatched_bodies table s) (first_stop (structure_of table) (segments_of s))
  unfolding unmatched_bodies places_of brackets_in brackets those all any
  found =
      stops_found (structure_of table) (header_never table sound) (trailer_never table sound) (segments_of s) 0 (length s) (segments_rise s)
      (whole_followed (λ count head middle tail. Unit {0}) (segments_of s) ((input_order s).0 (unmet s 1 12 passed MisplacedSegment refl)))

  -- stage 22 answers at the first stop
  pub first_answers : (later : List Stage)
      → answering (met UnmatchedBody (unmatched_bodies table s) ∷ later)
      ≡ or_else (refusal_at (first_stop (structure_of table) (segments_of s))) (answering later)
  unfolding or_else
  first_answers later = step (first_stop (structure_of table) (segments_of s)) found
    where
      step : (o : Option ℕ) → Found (unmatched_bodies table s) o
          → answering (met UnmatchedBody (unmatched_bodies table s) ∷ later) ≡ or_else (refusal_at o) (answering later)
      step none h = nowhere_answers UnmatchedBody (unmatched_bodies table s) later h
      step (some p) h = place_answers UnmatchedBody (unmatched_bodies table s) later p h.0 h.1
