-- Stage 22 at a place of the input: what a message's walk leaves there, and one segment or one message on. Assumes nothing.
use Rattle.std.specs.Prelude.{if◌then◌else◌, Result, Err}
use Prim.Native.Nat.{ℕ, ◌≤◌, ◌<◌}
use mathlib.Core.Path.{◌≡◌, refl, sym, ap, subst, ◌∙◌}
use mathlib.Core.Bool.{Bool, true, false}
use mathlib.Core.List.{List, []}
use mathlib.Core.Option.{none, some}
use lib.ListN.{length}
use lib.Dec.{ltb}
use borrow.Author.Tests.{ltb-true, ltb-false}
use Rattle.lists.specs.Lists.{through as up_to, at as nth, maybe, same, gather}
use Rattle.lists.proofs.Texts.{if_true, if_false}
use Rattle.characters.specs.declared.Characters.{Characters}
use Rattle.refusals.specs.declared.Fault.TheVariants.{UnmatchedBody}
use Rattle.refusals.specs.declared.Refusal.{Refusal}
use Rattle.stage_structure.specs.Stopping.{Says}
use Rattle.values.specs.Tokens.{Token, Segment, ends, segments, tokens_at}
use Rattle.values.specs.Values.{bytes_of}
use Rattle.values.proofs.Steps.{at_end}
use Rattle.segments.specs.declared.Kind.TheVariants.{Unh, Unt}
use Rattle.segments.specs.Kinds.{is, kind_named}
use Rattle.segments.specs.Tags.{tag_piece, tag_of, kind_of}
use Rattle.scanner.specs.Scan.{segment_at, Skips}
use Rattle.scanner.proofs.Segments.{segments_end, segments_first, segments_next, segment_start_lem}
use Rattle.message_tables.specs.Soundness.{is_sound}
use Rattle.message_tables.specs.Structure.{Structure, structure_of}
use Rattle.message_structures.specs.Walking.{Walked, stopped, through, walk}
use Rattle.structure_walks.specs.Walks.{beginning, at_trailer, stop_of, first_stop}
use Rattle.structure_walks.proofs.Ends.{left_by}
use Rattle.structure_walks.proofs.Service.{header_never, trailer_never}
use Rattle.structure_walks.proofs.First.{stop_on}

-- no bytes are no service segment's tag
untagged : is Unt (kind_of []) ≡ false
unfolding kind_of tag_of tag_piece up_to bytes_of gather kind_named same is
untagged = refl

-- ---- a message's walk

-- 22 at the place at which it stopped
pub left_here : (table : List ℕ) (c : Characters) (s : List ℕ) (from : ℕ) {place : ℕ} {r : Result ℕ Refusal} → r ≡ Err (record { fault = UnmatchedBody; place = place })
    → stop_of (walk tag_of (structure_of table) (segments (tokens_at c s from))) ≡ some place → Says table c s from r
left_here table c s from {place} e p = subst (Says table c s from) (sym e) (p, refl)

module _ {w : Walked Segment} {left : List Segment} where
  pub stops : {place : ℕ} → stopped left ≡ w → place ≡ beginning left → stop_of w ≡ some place
  unfolding stop_of
  stops e p = ap stop_of (sym e) ∙ ap some (sym p)

  pub goes_through : through left ≡ w → at_trailer left ≡ true → stop_of w ≡ none
  unfolding stop_of
  goes_through e t = ap stop_of (sym e) ∙ if_true (at_trailer left) none (some (beginning left)) t

  pub leaves_over : {place : ℕ} → through left ≡ w → at_trailer left ≡ false → place ≡ beginning left → stop_of w ≡ some place
  unfolding stop_of
  leaves_over e t p = ap stop_of (sym e) ∙ if_false (at_trailer left) none (some (beginning left)) t ∙ ap some (sym p)

module _ (c : Characters) (s : List ℕ) where
  abbrev from : ℕ → List Segment
  from at = segments (tokens_at c s at)

  -- ---- what begins at a place

  pub begins_here : (at : ℕ) → at < length s → at ≡ beginning (from at)
  unfolding beginning nth maybe
  begins_here at h = sym (ap beginning (segments_first c s at h) ∙ segment_start_lem c s at h)

  pub nothing_begins : (at : ℕ) → length s ≤ at → 0 ≡ beginning (from at)
  unfolding beginning nth maybe
  nothing_begins at h = sym (ap beginning (segments_end c s at h))

  pub trailer_here : (at : ℕ) → is Unt (kind_of (segment_at c s at)) ≡ at_trailer (from at)
  unfolding at_trailer nth maybe segment_at up_to
  trailer_here at = step (ltb at (length s)) refl
    where
      step : (b : Bool) → ltb at (length s) ≡ b → is Unt (kind_of (segment_at c s at)) ≡ at_trailer (from at)
      step true e = sym (ap at_trailer (segments_first c s at (ltb-true at (length s) e)))
      step false e =
          let h : length s ≤ at = ltb-false at (length s) e in
          ap (λ (ts : List Token). is Unt (kind_of (up_to (ends 0) ts))) (at_end c s at h)
          ∙ untagged
          ∙ sym (ap at_trailer (segments_end c s at h))

  module _ (table : List ℕ) where
    abbrev t : Structure
    t = structure_of table

    -- what is left behind a message that matches
    pub left_on : is_sound table ≡ true → (at place : ℕ) → through (from place) ≡ walk tag_of t (from at)
        → first_stop t (from at) ≡ first_stop t (from place)
    left_on sound at place e =
        stop_on t (header_never table sound) (trailer_never table sound) (from at) ∙ ap (λ w. first_stop t (left_by tag_of w)) (sym e)

    -- ---- the stage at a place

    pub stage_ends : (at : ℕ) → length s ≤ at → first_stop t (from at) ≡ none
    unfolding first_stop
    stage_ends at h = ap (first_stop t) (segments_end c s at h)

    module _ (at next : ℕ) (h : at < length s) (k : Skips (ends 0) c s at next) where
      stage_here : first_stop t (from at)
          ≡ (if is Unh (kind_of (segment_at c s at)) then maybe (first_stop t (from next)) some (stop_of (walk tag_of t (from next))) else first_stop t (from next))
      unfolding first_stop
      stage_here = ap (first_stop t) (segments_next c s at next h k)

      -- a segment that is no UNH
      pub stage_passes : is Unh (kind_of (segment_at c s at)) ≡ false → first_stop t (from at) ≡ first_stop t (from next)
      stage_passes e = stage_here ∙ if_false (is Unh (kind_of (segment_at c s at))) _ (first_stop t (from next)) e

      -- a UNH, and the message behind it
      module _ (e : is Unh (kind_of (segment_at c s at)) ≡ true) where
        pub stage_stops : {place : ℕ} → stop_of (walk tag_of t (from next)) ≡ some place → first_stop t (from at) ≡ some place
        unfolding maybe
        stage_stops p =
            stage_here
            ∙ if_true (is Unh (kind_of (segment_at c s at))) _ (first_stop t (from next)) e
            ∙ ap (maybe (first_stop t (from next)) some) p

        pub stage_goes : (place : ℕ) → stop_of (walk tag_of t (from next)) ≡ none → first_stop t (from next) ≡ first_stop t (from place)
            → first_stop t (from at) ≡ first_stop t (from place)
        unfolding maybe
        stage_goes place p q =
            stage_here
            ∙ if_true (is Unh (kind_of (segment_at c s at))) _ (first_stop t (from next)) e
            ∙ ap (maybe (first_stop t (from next)) some) p
            ∙ q
