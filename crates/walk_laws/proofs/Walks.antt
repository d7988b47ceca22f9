-- What the walk alone answers is what `segments` answers for all that passed. Assumes nothing.
use Prim.Native.Nat.{ℕ, ◌≤◌}
use mathlib.Core.Path.{◌≡◌, refl, sym}
use mathlib.Core.Bool.{Bool, true, false, ◌||◌, or-false}
use mathlib.Core.List.{List, ◌∷◌}
use lib.Dec.{eqb, ltb}
use lib.ListN.{length}
use Rattle.segments.specs.declared.Kind.{Kind}
use Rattle.segments.specs.declared.Standing.{Standing}
use Rattle.segments.specs.declared.Standing.TheVariants.{BeforeInterchange, BetweenGroups, InGroup, InGroupMessage, InMessage, AfterInterchange}
use Rattle.segments.specs.declared.Section.{Section}
use Rattle.segments.specs.declared.Walk.{Walk}
use Rattle.segments.specs.Kinds.{is}
use Rattle.segments.specs.Order.{groups_in, messages_in, standing, inside_message, allowed_at, allowed, is_complete, walk_over}
use Rattle.walk_laws.specs.Walking.{walked, Counts, Within, allowed_from, allowed_by, section_kept, stepped_by, later_section, begun_by, is_after}
use Rattle.walk_laws.proofs.Counts.{counts_step, counts_walk, counts_within}
use Rattle.walk_laws.proofs.Places.{each, complete_after, stands_step}

-- the tables of each standing place say what the order of segments says there
abbrev Answers : Section → Standing → List Kind → Kind → Type 0
Answers section place past kind = allowed_from place (walk_over section past) kind ≡ allowed_at place past kind

answers : (section : Section) (place : Standing) (past : List Kind) (kind : Kind) → Answers section place past kind
unfolding allowed_at inside_message is walk_over
answers section BeforeInterchange past = each (Answers section BeforeInterchange past) refl refl refl refl refl refl refl refl
answers section BetweenGroups past =
    each
    (Answers section BetweenGroups past)
    refl
    (sym (or_neither (ltb 0 (groups_in past) || eqb (messages_in past) 0)))
    (sym (or-false (eqb (groups_in past) 0)))
    refl
    refl
    refl
    refl
    refl
  where
    or_neither : (b : Bool) → (b || false || false) ≡ b
    or_neither true = refl
    or_neither false = refl
answers section InGroup past = each (Answers section InGroup past) refl refl refl refl refl refl refl refl
answers section InGroupMessage past = each (Answers section InGroupMessage past) refl refl refl refl refl refl refl refl
answers section InMessage past = each (Answers section InMessage past) refl refl refl refl refl refl refl refl
answers section AfterInterchange past = each (Answers section AfterInterchange past) refl refl refl refl refl refl refl refl

-- what is allowed
pub allowed_over : (section : Section) (past : List Kind) (kind : Kind) → allowed_by (walk_over section past) kind ≡ allowed past kind
unfolding allowed walk_over
allowed_over section past kind = answers section (standing past) past kind

-- a walk that stands where the walk over what passed stands, and has its counts, is that walk, in its own section
pub walk_is : (w : Walk) (past : List Kind) → w.standing ≡ standing past → Counts w past → w ≡ walk_over w.section past
unfolding walk_over
walk_is w past e c =
    λ i. record {
      standing = e i;
      section = w.section;
      segments = record { 0 = c.segments_are i };
      messages = record { 0 = c.messages_are i };
      groups = record { 0 = c.groups_are i };
      in_message = record { 0 = c.in_message_are i };
      in_group = record { 0 = c.in_group_are i };
    }

-- the walk after one segment more, where each was allowed where it stood. (Elsewhere the standing place may differ: after a UNH
-- with no UNB before it, UNT is allowed and leads between groups, where `standing` says before the interchange.)
pub stepped_over : (section : Section) (past : List Kind) (kind : Kind) → walked past ≡ true → allowed past kind ≡ true
    → stepped_by (walk_over section past) kind ≡ walk_over (section_kept kind section) (kind ∷ past)
unfolding walk_over
stepped_over section past kind h k =
    walk_is (stepped_by (walk_over section past) kind) (kind ∷ past)
    (stands_step past kind h k)
    (counts_step (walk_over section past) past kind (counts_walk section past))

-- a section that begins changes nothing else
pub begun_over : (section next : Section) (past : List Kind) → begun_by (walk_over section past) next ≡ walk_over (later_section section next) past
unfolding walk_over
begun_over section next past = refl

-- whether an interchange is complete
pub complete_over : (section : Section) (past : List Kind) → is_after (walk_over section past).standing ≡ is_complete past
unfolding walk_over
complete_over section past = complete_after past

-- no counter is higher than the number of segments that passed
pub within_over : (section : Section) (past : List Kind) {n : ℕ} → length past ≤ n → Within n (walk_over section past)
within_over section past h = counts_within (walk_over section past) past (counts_walk section past) h
