-- The surface lays each case of each answer out in the struct that is meant for it. Assumes nothing.
use Rattle.answers.specs.declared.Unaccepted.TheVariants.{First, Second}
use Rattle.std.specs.Prelude.{if◌then◌else◌, Ok, Err, Some, None, Result, true, false}
use Prim.Native.Nat.{ℕ}
use mathlib.Core.Path.{◌≡◌, refl}
use mathlib.Core.List.{[]}
use lib.Dec.{eqb}
use Rattle.lists.specs.Lists.{is_empty}
use Rattle.lists.proofs.Texts.{if_false}
use Rattle.characters.specs.Characters.{spelled_out}
use Rattle.refusals.specs.declared.Refusal.{Refusal}
use Rattle.refusals.specs.Refusals.{number, Outcome}
use Rattle.answers.specs.declared.Listed.{Listed}
use Rattle.answers.specs.Answers.{given, refused, refused_input, accepted, told_judged, told_stored, told_compared, told_located, told_listed, Stored, Judged, Compared, Located}
use Rattle.shelves.specs.declared.Shelved.{Shelved}
use Rattle.shelves.specs.declared.Shelved.TheVariants as shelved
use Rattle.shelves.specs.declared.Slots.{Slots}
use Rattle.shelves.specs.declared.TwoSums.{TwoSums}
use Rattle.shelves.specs.Answers.{new_at, copy_at, told_shelved, told_slots, told_sums, told_outcome}
use Rattle.surface.specs.Verdicts.{value, accepted_verdict, refused_verdict, verdict_of}
use Rattle.surface.specs.Answered.{written_of, comparison_of, location_of, listing_of}
use Rattle.surface.specs.OfShelf.{started_of, shelving_of, slot_numbers_of, sum_numbers_of}
use Rattle.surface.proofs.Laid.{refusal_numbered}
use Rattle.surface_cases.specs.Structs.{verdict, written, comparison, location, listing, started, shelving, slot_numbers, sum_numbers}

-- what is laid out for the number of a refusal
other : {A : Type 0} (r : Refusal) (x y : A) → (if◌then◌else◌ (eqb (number r.fault) 0) x y) ≡ y
other r x y = if_false (eqb (number r.fault) 0) x y (refusal_numbered r.fault)

pub verdict_laid : (a : Judged) → verdict_of (told_judged a) ≡ verdict a
unfolding verdict_of accepted_verdict refused_verdict value told_judged accepted given refused spelled_out verdict
verdict_laid (Ok f) = refl
verdict_laid (Err r) = other r (accepted_verdict (refused r)) (refused_verdict (refused r))

pub written_laid : (a : Stored) → written_of (told_stored a) ≡ written a
unfolding written_of value told_stored given refused written
written_laid (Ok n) = refl
written_laid (Err r) = other r _ _

pub comparison_laid : (a : Compared) → comparison_of (told_compared a) ≡ comparison a
unfolding comparison_of value told_compared given refused_input comparison
comparison_laid (Ok true) = refl
comparison_laid (Ok false) = refl
comparison_laid (Err (First r)) = other r _ _
comparison_laid (Err (Second r)) = other r _ _

pub location_laid : (a : Located) → location_of (told_located a) ≡ location a
unfolding location_of value told_located given refused is_empty location
location_laid (Ok (Some v)) = refl
location_laid (Ok None) = refl
location_laid (Err r) = other r _ _

pub listing_laid : (a : Result Listed Refusal) → listing_of (told_listed a) ≡ listing a
unfolding listing_of value told_listed given refused listing
listing_laid (Ok v) = refl
listing_laid (Err r) = other r _ _

pub started_laid : (a : Outcome) → started_of (told_outcome a) ≡ started a
unfolding started_of value told_outcome given refused started
started_laid (Ok _) = refl
started_laid (Err r) = other r _ _

pub shelving_laid : (a : Result Shelved Refusal) → shelving_of (told_shelved a) ≡ shelving a
unfolding shelving_of value told_shelved new_at copy_at given refused shelving
shelving_laid (Ok (shelved.New slot)) = refl
shelving_laid (Ok (shelved.Copy slot)) = refl
shelving_laid (Err r) = other r _ _

pub slots_laid : (a : Result Slots Refusal) → slot_numbers_of (told_slots a) ≡ slot_numbers a
unfolding slot_numbers_of value told_slots given refused slot_numbers
slots_laid (Ok v) = refl
slots_laid (Err r) = other r _ _

pub sums_laid : (a : Result TwoSums Refusal) → sum_numbers_of (told_sums a) ≡ sum_numbers a
unfolding sum_numbers_of value told_sums given refused sum_numbers
sums_laid (Ok v) = refl
sums_laid (Err r) = other r _ _
