-- The five counters after each segment, whatever its kind and whatever passed before it, and how high they can be. Assumes nothing.
use Rattle.std.specs.Prelude.{if◌then◌else◌}
use Prim.Native.Nat.{ℕ, suc, ◌≤◌, ◌<◌}
use mathlib.Core.Path.{refl}
use mathlib.Core.Bool.{Bool, true, false}
use mathlib.Core.List.{List, [], ◌∷◌}
use native.Mathlib.Omega.{arith}
use native.Mathlib.Nat.{le_refl}
use lib.ListN.{length}
use Rattle.lists.specs.Lists.{those, through}
use Rattle.segments.specs.declared.Kind.{Kind}
use Rattle.segments.specs.declared.Kind.TheVariants.{Unb, Ung, Unh, Uns, Unt, Une, Unz, User}
use Rattle.segments.specs.declared.Section.{Section}
use Rattle.segments.specs.declared.Walk.{Walk}
use Rattle.segments.specs.Kinds.{is}
use Rattle.segments.specs.Order.{segments_in, messages_in, groups_in, segments_since_header, messages_since_group, walk_over}
use Rattle.walk_laws.specs.Walking.{Counts, Within, stepped_by, begun_by}

-- one segment more: the counters are those of what passed with it
pub counts_step : (w : Walk) (past : List Kind) (kind : Kind) → Counts w past → Counts (stepped_by w kind) (kind ∷ past)
unfolding segments_in messages_in groups_in segments_since_header messages_since_group those through is
counts_step w past Unb e = omega arith
counts_step w past Ung e = omega arith
counts_step w past Unh e = omega arith
counts_step w past Uns e = omega arith
counts_step w past Unt e = omega arith
counts_step w past Une e = omega arith
counts_step w past Unz e = omega arith
counts_step w past User e = omega arith

-- the walk over what passed has its counts
pub counts_walk : (section : Section) (past : List Kind) → Counts (walk_over section past) past
unfolding walk_over
counts_walk section past =
    record { segments_are = refl; messages_are = refl; groups_are = refl; in_message_are = refl; in_group_are = refl }

-- ---- no counter is higher than the number of segments that passed

module _ {A : Type 0} (t : A → Bool) where
  pub those_length : (xs : List A) → length (those t xs) ≤ length xs
  unfolding those
  those_length [] = le_refl 0
  those_length (x ∷ xs) = step (t x) (those_length xs)
    where
      step : (b : Bool) → length (those t xs) ≤ length xs
          → length (if b then x ∷ those t xs else those t xs) ≤ suc (length xs)
      step true h = omega arith
      step false h = omega arith

  pub through_length : (xs : List A) → length (through t xs) ≤ length xs
  unfolding through
  through_length [] = le_refl 0
  through_length (x ∷ xs) = step (t x) (through_length xs)
    where
      step : (b : Bool) → length (through t xs) ≤ length xs
          → suc (length (if b then [] else through t xs)) ≤ suc (length xs)
      step true h = omega arith
      step false h = omega arith

pub counts_within : (w : Walk) (past : List Kind) {n : ℕ} → Counts w past → length past ≤ n → Within n w
unfolding segments_in messages_in groups_in segments_since_header messages_since_group
counts_within w past e h =
    omega (
      arith,
      those_length (is Unh) past,
      those_length (is Ung) past,
      through_length (is Unh) past,
      through_length (is Ung) past,
      those_length (is Unh) (through (is Ung) past),
    )

-- ---- nor does one segment more raise any of them by more than one

pub within_more : (w : Walk) {n m : ℕ} → n ≤ m → Within n w → Within m w
within_more w h e = omega arith

pub within_step : (w : Walk) (kind : Kind) {n m : ℕ} → n < m → Within n w → Within m (stepped_by w kind)
within_step w Unb h e = omega arith
within_step w Ung h e = omega arith
within_step w Unh h e = omega arith
within_step w Uns h e = omega arith
within_step w Unt h e = omega arith
within_step w Une h e = omega arith
within_step w Unz h e = omega arith
within_step w User h e = omega arith

-- a section that begins raises none
pub within_begun : (w : Walk) (section : Section) {n : ℕ} → Within n w → Within n (begun_by w section)
within_begun w section e = omega arith
