-- Where the walk stands after segments that were allowed where they stood, and where it stands after one segment more. Assumes nothing.
use Rattle.std.specs.Prelude.{if◌then◌else◌}
use mathlib.Core.Path.{◌≡◌, refl, sym, subst}
use mathlib.Core.Bool.{Bool, true, false, false≢true}
use mathlib.Core.List.{List, [], ◌∷◌}
use Rattle.lists.proofs.Texts.{and_left, and_right}
use Rattle.segments.specs.declared.Kind.{Kind}
use Rattle.segments.specs.declared.Kind.TheVariants.{Unb, Ung, Unh, Uns, Unt, Une, Unz, User}
use Rattle.segments.specs.declared.Standing.{Standing}
use Rattle.segments.specs.declared.Standing.TheVariants.{BeforeInterchange, BetweenGroups, InGroup, InGroupMessage, InMessage, AfterInterchange}
use Rattle.segments.specs.Kinds.{is}
use Rattle.segments.specs.Order.{is_open, standing, inside_message, allowed_at, allowed, is_complete}
use Rattle.walk_laws.specs.Walking.{walked, stands_after, is_after}

-- ---- the four tests

-- what `standing` answers where its four tests do: after UNZ, in a message, in a group, in an interchange
abbrev place_by : Bool → Bool → Bool → Bool → Standing
place_by after message group interchange =
    if after then AfterInterchange
    else (if message then (if group then InGroupMessage else InMessage)
    else (if group then InGroup
    else (if interchange then BetweenGroups else BeforeInterchange)))

-- the four tests answer so
abbrev pub Tests : Bool → Bool → Bool → Bool → List Kind → Type 0
Tests after message group interchange past =
    (is_open Unz Unb past ≡ after) × (is_open Unh Unt past ≡ message) × (is_open Ung Une past ≡ group) × (is_open Unb Unz past ≡ interchange)

place_by_lem : {a m g u : Bool} (past : List Kind) → Tests a m g u past → standing past ≡ place_by a m g u
unfolding standing
place_by_lem past t = λ i. place_by (t.0 i) (t.1 i) (t.2 i) (t.3 i)

-- what they answer at each standing place, where each segment that passed was allowed
abbrev pub Open : Standing → List Kind → Type 0
Open BeforeInterchange = Tests false false false false
Open BetweenGroups = Tests false false false true
Open InGroup = Tests false false true true
Open InGroupMessage = Tests false true true true
Open InMessage = Tests false true false true
Open AfterInterchange = Tests true false false false

pub open_standing : (place : Standing) (past : List Kind) → Open place past → standing past ≡ place
open_standing BeforeInterchange past t = place_by_lem past t
open_standing BetweenGroups past t = place_by_lem past t
open_standing InGroup past t = place_by_lem past t
open_standing InGroupMessage past t = place_by_lem past t
open_standing InMessage past t = place_by_lem past t
open_standing AfterInterchange past t = place_by_lem past t

-- an interchange is complete exactly where the walk stands after it, whatever passed
pub complete_after : (past : List Kind) → is_after (standing past) ≡ is_complete past
unfolding standing is_complete
complete_after past = step (is_open Unz Unb past) (is_open Unh Unt past) (is_open Ung Une past) (is_open Unb Unz past)
  where
    step : (a m g u : Bool) → is_after (place_by a m g u) ≡ a
    step true m g u = refl
    step false true true u = refl
    step false true false u = refl
    step false false true u = refl
    step false false false true = refl
    step false false false false = refl

-- ---- one segment more

-- what holds for each of the eight holds for every kind
pub each : (P : Kind → Type 0) → P Unb → P Ung → P Unh → P Uns → P Unt → P Une → P Unz → P User → (kind : Kind) → P kind
each P unb ung unh uns unt une unz user Unb = unb
each P unb ung unh uns unt une unz user Ung = ung
each P unb ung unh uns unt une unz user Unh = unh
each P unb ung unh uns unt une unz user Uns = uns
each P unb ung unh uns unt une unz user Unt = unt
each P unb ung unh uns unt une unz user Une = une
each P unb ung unh uns unt une unz user Unz = unz
each P unb ung unh uns unt une unz user User = user

never : {A : Type 0} → false ≡ true → A
never h = absurd (false≢true h)

-- after a segment that is allowed there, the tests answer as they do at the next standing place
abbrev Leads : Standing → List Kind → Kind → Type 0
Leads place past kind = allowed_at place past kind ≡ true → Open (stands_after place kind) (kind ∷ past)

leads : (place : Standing) (past : List Kind) → Open place past → (kind : Kind) → Leads place past kind
unfolding allowed_at inside_message is is_open
leads BeforeInterchange past t =
    each (Leads BeforeInterchange past) (λ h. (refl, t.1, t.2, refl)) never never never never never never never
leads BetweenGroups past t =
    each
    (Leads BetweenGroups past)
    never
    (λ h. (t.0, t.1, refl, t.3))
    (λ h. (t.0, refl, t.2, t.3))
    never
    never
    never
    (λ h. (refl, t.1, t.2, refl))
    never
leads InGroup past t =
    each
    (Leads InGroup past)
    never
    never
    (λ h. (t.0, refl, t.2, t.3))
    never
    never
    (λ h. (t.0, t.1, refl, t.3))
    never
    never
leads InGroupMessage past t =
    each (Leads InGroupMessage past) never never never (λ h. t) (λ h. (t.0, refl, t.2, t.3)) never never (λ h. t)
leads InMessage past t =
    each (Leads InMessage past) never never never (λ h. t) (λ h. (t.0, refl, t.2, t.3)) never never (λ h. t)
leads AfterInterchange past t = each (Leads AfterInterchange past) never never never never never never never never

-- where each segment that passed was allowed, the tests answer as the standing place says
pub walked_open : (past : List Kind) → walked past ≡ true → Open (standing past) past
unfolding walked standing is_open allowed
walked_open [] h = (refl, refl, refl, refl)
walked_open (kind ∷ past) h =
    step
    (leads (standing past) past (walked_open past (and_right (allowed past kind) (walked past) h)) kind
    (and_left (allowed past kind) (walked past) h))
  where
    step : Open (stands_after (standing past) kind) (kind ∷ past) → Open (standing (kind ∷ past)) (kind ∷ past)
    step t = subst (λ (place : Standing). Open place (kind ∷ past)) (sym (open_standing (stands_after (standing past) kind) (kind ∷ past) t)) t

-- after a segment that is allowed, the walk stands where the step puts it
pub stands_step : (past : List Kind) (kind : Kind) → walked past ≡ true → allowed past kind ≡ true
    → stands_after (standing past) kind ≡ standing (kind ∷ past)
unfolding allowed
stands_step past kind h k =
    sym
    (open_standing (stands_after (standing past) kind) (kind ∷ past)
    (leads (standing past) past (walked_open past h) kind k))
