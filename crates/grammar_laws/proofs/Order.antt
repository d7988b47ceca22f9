-- Which kind of segment is allowed where (paper 01, "Order of segments"), as facts for the test. What passed is a list of kinds,
-- the nearest first. Assumes nothing.
use Prim.Native.Nat.{ℕ, ◌<◌}
use mathlib.Core.Path.{◌≡◌, refl, sym, ap, ◌∙◌}
use mathlib.Core.Logic.{◌⊎◌, inl, inr, ⊎_elim}
use mathlib.Core.Bool.{Bool, true, false, ◌||◌, false≢true, or-false}
use mathlib.Core.List.{List, [], ◌∷◌}
use lib.ListN.{get_or}
use lib.Dec.{eqb, ltb}
use borrow.Author.Tests.{eqb-true, eq-eqb, ltb-true, lt-ltb}
use Rattle.lists.proofs.Texts.{or_cases}
use Rattle.segments.specs.declared.Kind.{Kind}
use Rattle.segments.specs.declared.Kind.TheVariants.{Unb, Ung, Unh, Uns, Unt, Une, Unz, User}
use Rattle.segments.specs.declared.Standing.{Standing}
use Rattle.segments.specs.declared.Standing.TheVariants.{BeforeInterchange, BetweenGroups, InGroup, InGroupMessage, InMessage, AfterInterchange}
use Rattle.segments.specs.Kinds.{index, is}
use Rattle.segments.specs.Order.{messages_in, groups_in, messages_since_group, standing, inside_message, allowed_at, is_complete}
use Rattle.walk_laws.specs.Walking.{is_after}
use Rattle.walk_laws.proofs.Places.{each, complete_after}

-- ---- kinds

kind_at : ℕ → Kind
kind_at n = get_or (Unb ∷ Ung ∷ Unh ∷ Uns ∷ Unt ∷ Une ∷ Unz ∷ []) n User

kind_at_index : (kind : Kind) → kind_at (index kind) ≡ kind
unfolding kind_at
kind_at_index = each (λ kind. kind_at (index kind) ≡ kind) refl refl refl refl refl refl refl refl

-- a kind that passes the test for another is that one
pub is_eq : (kind other : Kind) → is kind other ≡ true → other ≡ kind
unfolding is
is_eq kind other h = sym (kind_at_index other) ∙ ap kind_at (eqb-true (index other) (index kind) h) ∙ kind_at_index kind

-- ---- which kind is allowed where

-- "any number of user segments and UNS, UNT"
pub data Inside : Kind → Type 0 where
  user : Inside User
  section : Inside Uns
  close_message : Inside Unt

-- the kinds that are allowed where the check stands, with what must have passed
pub data Allowed (past : List Kind) : Standing → Kind → Type 0 where
  open_interchange : Allowed past BeforeInterchange Unb
  open_group : (0 < groups_in past) ⊎ (messages_in past ≡ 0) → Allowed past BetweenGroups Ung
  open_message : groups_in past ≡ 0 → Allowed past BetweenGroups Unh
  close_interchange : 0 < messages_in past → Allowed past BetweenGroups Unz
  open_group_message : Allowed past InGroup Unh
  close_group : 0 < messages_since_group past → Allowed past InGroup Une
  in_group_message : {kind : Kind} → Inside kind → Allowed past InGroupMessage kind
  in_message_lem : {kind : Kind} → Inside kind → Allowed past InMessage kind

never : {A : Type 0} → false ≡ true → A
never h = absurd (false≢true h)

inside_from : (kind : Kind) → inside_message kind ≡ true → Inside kind
unfolding inside_message is
inside_from =
    each (λ kind. inside_message kind ≡ true → Inside kind)
    never never never (λ h. section) (λ h. close_message) never never (λ h. user)

inside_test : {kind : Kind} → Inside kind → inside_message kind ≡ true
unfolding inside_message is
inside_test user = refl
inside_test section = refl
inside_test close_message = refl

module _ (past : List Kind) where
  -- groups have begun, or nothing has
  groups_follow : Bool
  groups_follow = ltb 0 (groups_in past) || eqb (messages_in past) 0

  groups_follow_lem : groups_follow ≡ true → (0 < groups_in past) ⊎ (messages_in past ≡ 0)
  unfolding groups_follow
  groups_follow_lem h =
      ⊎_elim (λ a. inl (ltb-true 0 (groups_in past) a)) (λ a. inr (eqb-true (messages_in past) 0 a))
      (or_cases (ltb 0 (groups_in past)) (eqb (messages_in past) 0) h)

  groups_test : (0 < groups_in past) ⊎ (messages_in past ≡ 0) → groups_follow ≡ true
  unfolding groups_follow
  groups_test (inl h) = ap (λ (b : Bool). b || eqb (messages_in past) 0) (lt-ltb 0 (groups_in past) h)
  groups_test (inr h) = step (ltb 0 (groups_in past)) (eq-eqb (messages_in past) 0 h)
    where
      step : (b : Bool) → eqb (messages_in past) 0 ≡ true → (b || eqb (messages_in past) 0) ≡ true
      step true e = refl
      step false e = e

  abbrev From : Standing → Kind → Type 0
  From s kind = allowed_at s past kind ≡ true → Allowed past s kind

  -- what the test allows is allowed
  pub allowed_from_lem : (s : Standing) (kind : Kind) → From s kind
  unfolding allowed_at groups_follow is
  allowed_from_lem BeforeInterchange =
      each (From BeforeInterchange) (λ h. open_interchange) never never never never never never never
  allowed_from_lem BetweenGroups =
      each (From BetweenGroups) never
      (λ h. open_group (groups_follow_lem (sym (or-false groups_follow) ∙ sym (or-false (groups_follow || false)) ∙ h)))
      (λ h. open_message (eqb-true (groups_in past) 0 (sym (or-false (eqb (groups_in past) 0)) ∙ h)))
      never never never (λ h. close_interchange (ltb-true 0 (messages_in past) h)) never
  allowed_from_lem InGroup =
      each (From InGroup) never never (λ h. open_group_message) never never
      (λ h. close_group (ltb-true 0 (messages_since_group past) h)) never never
  allowed_from_lem InGroupMessage = λ kind h. in_group_message (inside_from kind h)
  allowed_from_lem InMessage = λ kind h. in_message_lem (inside_from kind h)
  allowed_from_lem AfterInterchange = λ kind. never

  -- and the other way round
  pub allowed_test : {s : Standing} {kind : Kind} → Allowed past s kind → allowed_at s past kind ≡ true
  unfolding allowed_at is groups_follow
  allowed_test open_interchange = refl
  allowed_test (open_group h) = or-false (groups_follow || false) ∙ or-false groups_follow ∙ groups_test h
  allowed_test (open_message h) = or-false (eqb (groups_in past) 0) ∙ eq-eqb (groups_in past) 0 h
  allowed_test (close_interchange h) = lt-ltb 0 (messages_in past) h
  allowed_test open_group_message = refl
  allowed_test (close_group h) = lt-ltb 0 (messages_since_group past) h
  allowed_test (in_group_message h) = inside_test h
  allowed_test (in_message_lem h) = inside_test h

-- ---- the end

after_is : (s : Standing) → is_after s ≡ true → s ≡ AfterInterchange
after_is BeforeInterchange = never
after_is BetweenGroups = never
after_is InGroup = never
after_is InGroupMessage = never
after_is InMessage = never
after_is AfterInterchange = λ h. refl

-- what passed is complete exactly where the check stands after the interchange
pub complete_standing : (past : List Kind) → is_complete past ≡ true → standing past ≡ AfterInterchange
complete_standing past h = after_is (standing past) (complete_after past ∙ h)

pub standing_complete : (past : List Kind) → standing past ≡ AfterInterchange → is_complete past ≡ true
standing_complete past e = sym (complete_after past) ∙ ap is_after e
