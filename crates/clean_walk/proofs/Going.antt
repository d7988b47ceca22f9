-- The three stages from a place on: they answer from the start what they answer from here, with what is kept of the segments that passed.
-- Assumes nothing.
use Rattle.std.specs.Prelude.{if◌then◌else◌, Ok}
use Rattle.std.specs.declared.option.Option.{Option}
use Rattle.std.specs.declared.option.Option.TheVariants as option
use Prim.Native.Nat.{ℕ, ◌≤◌, ◌<◌}
use mathlib.Core.Path.{◌≡◌, refl, sym, ap, subst, subst⁻¹, ◌∙◌}
use mathlib.Core.Bool.{Bool, true, false}
use mathlib.Core.List.{List, []}
use native.Mathlib.Omega.{arith}
use lib.ListN.{length}
use Rattle.lists.proofs.Texts.{if_true}
use Rattle.characters.specs.declared.Characters.{Characters}
use Rattle.refusals.proofs.Stages.{passed_is}
use Rattle.values.specs.Tokens.{ends, tokens_at}
use Rattle.segments.specs.declared.Kind.{Kind}
use Rattle.segments.specs.declared.Kind.TheVariants.{User}
use Rattle.segments.specs.declared.Section.{Section}
use Rattle.segments.specs.declared.Section.TheVariants.{None}
use Rattle.segments.specs.declared.Walk.{Walk}
use Rattle.segments.specs.Order.{walk_over}
use Rattle.control_elements.specs.declared.Positions.{Positions}
use Rattle.control_elements.specs.Positions.{position_table, positions_of}
use Rattle.walk_laws.specs.Walking.{Within, section_begun, fits_by, stepped_by, begun_by, is_after}
use Rattle.stage_walks.specs.Walks.{worded, controlled}
use Rattle.scanner.specs.declared.Scanned.TheVariants.{Ended}
use Rattle.scanner.specs.Scan.{Scans, segment_at, Skips}
use Rattle.scanner.proofs.Scanning.{ended_beyond}
use Rattle.elements.specs.Elements.{piece_from, ElementAt}
use Rattle.stage_segments.proofs.Stage.{worded_end, worded_next}
use Rattle.stage_order.specs.Ordering.{misplaced_at, completed}
use Rattle.stage_order.proofs.GoesOn.{goes_at, goes_over, goes_end, goes_next}
use Rattle.stage_control.specs.declared.Headers.{Headers}
use Rattle.stage_control.specs.Controlling.{header_kept, headers_after, count_due, controlled_by}
use Rattle.stage_control.proofs.Stage.{Passing, passing_begun, passing_within, passing_end, passing_next}
use Rattle.ordinary_controls.specs.Standing.{Controls}
use Rattle.clean_walk.specs.declared.Kept.{Kept}
use Rattle.clean_walk.specs.Clean.{NamedAs, user_step, Passes, Steps, Cleans}

module _ (c : Characters) (s : List ℕ) where
  -- a user segment that fits is passed
  pub user_passes : {at : ℕ} {walk : Walk} {headers : Headers} → NamedAs c s at User → fits_by walk User None ≡ true
      → Passes c s at walk headers (stepped_by walk User) headers
  unfolding positions_of position_table piece_from controlled_by
  user_passes {at} {walk} {headers} n f =
      record {
        rule = n.0;
        kind = User;
        kind_is = n.1;
        section = None;
        section_is = refl;
        fits = f;
        after_is = refl;
        reference = at;
        reference_at = (refl, λ h. h);
        control = refl;
        kept_is = refl;
      }

  -- what the code finds of a user segment,
  pub user_steps : (at : ℕ) (kept : Kept) {answer : Option Kept} → NamedAs c s at User → answer ≡ user_step kept
      → Steps c s at kept.walk kept.headers answer
  unfolding user_step
  user_steps at kept n e = subst⁻¹ (Steps c s at kept.walk kept.headers) e (by_fit (fits_by kept.walk User None) refl)
    where
      by_fit : (b : Bool) → fits_by kept.walk User None ≡ b
          → Steps c s at kept.walk kept.headers
          (if b then option.Some (record { walk = stepped_by kept.walk User; headers = kept.headers }) else option.None)
      by_fit true f = user_passes n f
      by_fit false f = tt

  -- and of a segment of any kind
  pub segment_passes : {at : ℕ} {walk stepped after : Walk} {headers kept : Headers} {kind : Kind} {section : Section} {p : Positions}
      {reference header count : ℕ} {answer : Option ℕ} → NamedAs c s at kind → section ≡ section_begun kind (segment_at c s at)
      → fits_by walk kind section ≡ true → p ≡ positions_of kind → header ≡ header_kept headers kind → count ≡ count_due walk kind
      → Controls c s at p header count answer → answer ≡ option.Some reference → stepped ≡ stepped_by walk kind
      → after ≡ begun_by stepped section → kept ≡ headers_after headers kind reference → Passes c s at walk headers after kept
  segment_passes {at} {walk} {stepped} {after} {headers} {kept} {kind} {section} {p} {reference} {header} {count} n b f q h m a o w v u =
      let (there, passed) = subst (Controls c s at p header count) o a in
      record {
        rule = n.0;
        kind = kind;
        kind_is = n.1;
        section = section;
        section_is = b;
        fits = f;
        after_is = v ∙ ap (λ (before : Walk). begun_by before section) w;
        reference = reference;
        reference_at = subst (λ (r : Positions). ElementAt c s at r.reference reference) q there;
        control = sym (λ i. controlled_by c s at (q i) reference (h i) (m i)) ∙ passed;
        kept_is = u;
      }

  -- a terminator that the scan found is followed by the next segment
  skips : {at next : ℕ} → Scans c s at (Ended next) → Skips (ends 0) c s at next
  skips {at} {next} h = (ended_beyond (tokens_at c s at) h.0, omega arith, λ i. h.1, λ i. h.2)

  module _ (from : ℕ) where
    -- stage (10 11 12) asks nothing of the section
    in_section : {walk : Walk} {headers : Headers} {at : ℕ} (section : Section) → Passing c s from walk headers at
        → Passing c s from (begun_by walk section) headers at
    in_section section i =
        record {
          past = i.past;
          kept =
              record {
                counts =
                    record {
                      segments_are = i.kept.counts.segments_are;
                      messages_are = i.kept.counts.messages_are;
                      groups_are = i.kept.counts.groups_are;
                      in_message_are = i.kept.counts.in_message_are;
                      in_group_are = i.kept.counts.in_group_are;
                    };
                unb = i.kept.unb;
                ung = i.kept.ung;
                unh = i.kept.unh;
              };
          fewer = i.fewer;
          same_answer = i.same_answer;
        }

    pub record Going (walk : Walk) (headers : Headers) (at : ℕ) : Type 0 where
      pub words : worded (length s) (tokens_at c s from) ≡ worded (length s) (tokens_at c s at)
      pub order : goes_at c s (walk_over None []) from ≡ goes_at c s walk at
      pub control : Passing c s from walk headers at

    pub going_begun : {walk : Walk} → walk ≡ walk_over None [] → Going walk (record { unb = length s; ung = length s; unh = length s }) from
    going_begun w =
        record { words = refl; order = ap (λ (v : Walk). goes_at c s v from) (sym w); control = passing_begun c s from w }

    module _ {walk : Walk} {headers : Headers} {at : ℕ} (i : Going walk headers at) where
      -- no counter is higher than the number of bytes that passed
      pub going_within : {n : ℕ} → at ≤ n → Within n walk
      going_within h = passing_within c s i.control h

      -- one segment more
      pub going_next : {next : ℕ} {after : Walk} {kept : Headers} → at < length s → Scans c s at (Ended next)
          → Passes c s at walk headers after kept → Going after kept next
      going_next {next} {after} {kept} inside h p =
          record {
            words = i.words ∙ worded_next c s at (length s) inside h p.rule;
            order =
                i.order ∙ goes_next c s walk at p.kind_is p.section_is inside next p.fits refl p.after_is (skips h);
            control =
                subst⁻¹ (λ (w : Walk). Passing c s from w kept next) p.after_is
                (in_section p.section
                (passing_next c s i.control inside p.kind_is refl p.reference_at (skips h) refl refl (sym p.control) refl refl p.kept_is));
          }

      -- after the last byte nothing was found, if the interchange is complete
      pub going_end : length s ≤ at → is_after walk.standing ≡ true → Cleans c s from (option.Some walk)
      unfolding completed
      going_end h e = (
        i.words ∙ worded_end c s at (length s) h,
        sym (goes_over (length s) (tokens_at c s from))
            ∙ i.order
            ∙ goes_end c s walk at h
            ∙ if_true (is_after walk.standing) (Ok walk) (misplaced_at (length s)) e,
        passed_is (controlled (tokens_at c s from)) (passing_end c s i.control h),
      )
