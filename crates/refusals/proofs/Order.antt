-- The order of the refusals is the order of one number, the key: place first, then the paper's number.
-- It tells any two refusals apart, so what is said of the lower of two is said of the lower of two numbers. Assumes nothing.
use Rattle.std.specs.Prelude.{if◌then◌else◌}
use Prim.Native.Nat.{ℕ, ◌+◌, ◌*◌, ◌≤◌, ◌<◌, min}
use mathlib.Core.Path.{◌≡◌, refl, sym, ap, ap₂, ◌∙◌}
use mathlib.Core.Bool.{Bool, true, false, ◌&&◌, ◌||◌}
use mathlib.Core.List.{List, [], ◌∷◌}
use native.Mathlib.Omega.{arith}
use lib.Dec.{eqb, ltb}
use lib.ListN.{get_or}
use borrow.Author.Tests.{ltb-true, ltb-false, eqb-true, eqb-false, lt-ltb, le-ltb}
use Rattle.refusals.specs.declared.Fault.{Fault}
use Rattle.refusals.specs.declared.Fault.TheVariants.{TooLong, UnusableAdvice, NoOpening, StrayRelease, UnendedSegment, BrokenTag, ForeignLevel, OutsideLevel, MisplacedSegment, BadControl, ReferenceDiffers, CountWrong, NormalTooLong, BufferShort, BadList, NeedsRelease, NoFreeSlot, NoRoom, UnsoundShelf, FreeSlot, UnsoundTable, UnmatchedBody, NoAcknowledgement, NoColumns}
use Rattle.refusals.specs.declared.Refusal.{Refusal}
use Rattle.refusals.specs.Refusals.{number, is_lower}

-- the faults, each at its number; none has the number 0
faults : List Fault
faults =
    TooLong ∷ TooLong ∷ UnusableAdvice ∷ NoOpening ∷ StrayRelease ∷ UnendedSegment ∷ BrokenTag ∷ ForeignLevel ∷ OutsideLevel
    ∷ MisplacedSegment ∷ BadControl ∷ ReferenceDiffers ∷ CountWrong ∷ NormalTooLong ∷ BufferShort ∷ BadList ∷ NeedsRelease
    ∷ NoFreeSlot ∷ NoRoom ∷ UnsoundShelf ∷ FreeSlot ∷ UnsoundTable ∷ UnmatchedBody ∷ NoAcknowledgement ∷ NoColumns ∷ []

-- a fault stands at its number, which is below 25 and above 0
numbered : (f : Fault) → (get_or faults (number f) TooLong ≡ f) × (ltb (number f) 25 ≡ true) × (ltb 0 (number f) ≡ true)
unfolding faults
numbered TooLong = (refl, refl, refl)
numbered UnusableAdvice = (refl, refl, refl)
numbered NoOpening = (refl, refl, refl)
numbered StrayRelease = (refl, refl, refl)
numbered UnendedSegment = (refl, refl, refl)
numbered BrokenTag = (refl, refl, refl)
numbered ForeignLevel = (refl, refl, refl)
numbered OutsideLevel = (refl, refl, refl)
numbered MisplacedSegment = (refl, refl, refl)
numbered BadControl = (refl, refl, refl)
numbered ReferenceDiffers = (refl, refl, refl)
numbered CountWrong = (refl, refl, refl)
numbered NormalTooLong = (refl, refl, refl)
numbered BufferShort = (refl, refl, refl)
numbered BadList = (refl, refl, refl)
numbered NeedsRelease = (refl, refl, refl)
numbered NoFreeSlot = (refl, refl, refl)
numbered NoRoom = (refl, refl, refl)
numbered UnsoundShelf = (refl, refl, refl)
numbered FreeSlot = (refl, refl, refl)
numbered UnsoundTable = (refl, refl, refl)
numbered UnmatchedBody = (refl, refl, refl)
numbered NoAcknowledgement = (refl, refl, refl)
numbered NoColumns = (refl, refl, refl)

pub number_not_zero : (f : Fault) → number f ≡ 0 → ⊥
number_not_zero f e = omega (arith, ltb-true 0 (number f) (numbered f).2)

-- two faults with the same number are the same
pub number_tells : (f g : Fault) → number f ≡ number g → f ≡ g
number_tells f g e = sym (numbered f).0 ∙ ap (λ (n : ℕ). get_or faults n TooLong) e ∙ (numbered g).0

pub number_below : (f : Fault) → number f < 25
number_below f = ltb-true (number f) 25 (numbered f).1

-- the place, and the number as its last digit
unfoldable pub key : Refusal → ℕ
key r = r.place * 25 + number r.fault

-- two refusals with the same key are the same
pub key_tells : (r q : Refusal) → key r ≡ key q → r ≡ q
unfolding key
key_tells r q e =
    ap₂ (λ (f : Fault) (p : ℕ). record { fault = f; place = p })
    (number_tells r.fault q.fault (omega (arith, number_below r.fault, number_below q.fault)))
    (omega (arith, number_below r.fault, number_below q.fault))

-- first by one number, then by another, is by the two as the digits of one
by_digits : (a b m n : ℕ) → m < 25 → n < 25 → (ltb a b || (eqb a b && ltb m n)) ≡ ltb (a * 25 + m) (b * 25 + n)
by_digits a b m n hm hn = step (ltb a b) refl (eqb a b) refl (ltb m n) refl
  where
    step : (x : Bool) → ltb a b ≡ x → (y : Bool) → eqb a b ≡ y → (z : Bool) → ltb m n ≡ z
        → (x || (y && z)) ≡ ltb (a * 25 + m) (b * 25 + n)
    step true l y e z k = sym (lt-ltb (a * 25 + m) (b * 25 + n) (omega (arith, ltb-true a b l)))
    step false l true e true k = sym (lt-ltb (a * 25 + m) (b * 25 + n) (omega (arith, eqb-true a b e, ltb-true m n k)))
    step false l true e false k = sym (le-ltb (a * 25 + m) (b * 25 + n) (omega (arith, eqb-true a b e, ltb-false m n k)))
    step false l false e z k = sym (le-ltb (a * 25 + m) (b * 25 + n) (omega (arith, ltb-false a b l, eqb-false a b e)))

-- one refusal is lower than another where its key is
pub lower_key : (r q : Refusal) → is_lower r q ≡ ltb (key r) (key q)
unfolding is_lower key
lower_key r q =
    by_digits r.place q.place (number r.fault) (number q.fault) (number_below r.fault) (number_below q.fault)

pub not_lower : (q r : Refusal) → key r ≤ key q → is_lower q r ≡ false
not_lower q r h = lower_key q r ∙ le-ltb (key q) (key r) h

pub key_least : (q r : Refusal) → is_lower q r ≡ false → key r ≤ key q
key_least q r h = ltb-false (key q) (key r) (sym (lower_key q r) ∙ h)

-- a refusal at a place farther on is not lower
pub farther : (q r : Refusal) → r.place < q.place → is_lower q r ≡ false
unfolding key
farther q r h = not_lower q r (omega (arith, number_below r.fault))

-- the lower of two refusals
unfoldable pub lower : Refusal → Refusal → Refusal
lower r q = if is_lower q r then q else r

-- its key is the smaller
pub key_lower : (r q : Refusal) → key (lower r q) ≡ min (key r) (key q)
unfolding lower
key_lower r q = step (is_lower q r) (sym (lower_key q r))
  where
    step : (b : Bool) → ltb (key q) (key r) ≡ b → key (if b then q else r) ≡ min (key r) (key q)
    step true h = omega (arith, ltb-true (key q) (key r) h)
    step false h = omega (arith, ltb-false (key q) (key r) h)
