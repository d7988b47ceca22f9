-- What each operation answers and leaves, by what is refused; what is located; and what a small value list means. Assumes nothing.
use Prim.Native.Nat.{ℕ, zero, suc, ◌≤◌, ◌<◌}
use mathlib.Core.Path.{◌≡◌, refl, ap}
use mathlib.Core.Bool.{true, false, ◌&&◌, false≢true}
use mathlib.Core.List.{List, [], ◌∷◌, ◌++◌, map}
use mathlib.Core.Option.{Option, none, some, some-ne-none}
use lib.ListN.{length, drop, replicate}
use borrow.Author.Tests.{lt-ltb, le-ltb}
use Rattle.lists.specs.Lists.{is_empty, those, at, onto, cut, unless_idle, drop_end, trim_end, same, maybe}
use Rattle.lists.proofs.Tests.{Says, says_both, says_same, says_as}
use Rattle.characters.specs.Characters.{characters_of}
use Rattle.refusals.specs.declared.Refusal.{Refusal}
use Rattle.values.specs.Tokens.{Segment}
use Rattle.values.specs.Values.{Value}
use Rattle.values.specs.Trimming.{is_idle, trim_repeat, trim_element, trim_segment, trimmed, value_at}
use Rattle.values.specs.Spelling.{Bytes}
use Rattle.segments.specs.declared.Kind.TheVariants.{Unb, Ung, Unh, Unt, Une, Unz}
use Rattle.segments.specs.Kinds.{is}
use Rattle.segments.specs.Order.{segments_in, messages_in, groups_in}
use Rattle.stages.specs.Contents.{segments_of, kinds_of, normal_form}
use Rattle.stages.specs.Stages.{refusal_of}
use Rattle.answers.specs.Answers.{given, refused, refused_input, accepted}
use Rattle.operations.specs.Judge.{figures_of, judge, stored_in, unless_refused}
use Rattle.operations.specs.Compare.{is_accepted, are_same, compare, of_first, of_second, keep}
use Rattle.operations.specs.Locate.{located}
use Rattle.operations.specs.ValueList.{Item, rank_of, closed, closes, segments_listed, trim_list}
use Rattle.operations.specs.Write.{written_text, write_refusal, write, write_output}

-- ---- Judge

-- "service characters, counts of segments, messages and groups, length of the normal form": of a group with two messages and
-- one with a third
pub figures_are : (s : List ℕ)
    → kinds_of s ≡ Unz ∷ Une ∷ Unt ∷ Unh ∷ Ung ∷ Une ∷ Unt ∷ Unh ∷ Unt ∷ Unh ∷ Ung ∷ Unb ∷ []
    → ((figures_of s).characters ≡ characters_of s)
    × ((figures_of s).segments.0 ≡ 12)
    × ((figures_of s).messages.0 ≡ 3)
    × ((figures_of s).groups.0 ≡ 2)
    × ((figures_of s).length ≡ length (normal_form s))
unfolding figures_of segments_in messages_in groups_in those is
figures_are s e = (refl, ap segments_in e, ap messages_in e, ap groups_in e, refl)

-- "or a refusal"
pub judge_is : (s : List ℕ)
    → (refusal_of s ≡ none → judge s ≡ accepted (figures_of s)) × ((r : Refusal) → refusal_of s ≡ some r → judge s ≡ refused r)
unfolding judge maybe
judge_is s = (λ e. rw e, λ r e. rw e)

-- ---- Compare and Keep

pub accepted_is : (s : List ℕ) → Says (is_accepted s) (refusal_of s ≡ none)
unfolding is_accepted maybe
accepted_is s = step (refusal_of s)
  where
    step : (o : Option Refusal) → Says (maybe true (λ r. false) o) (o ≡ none)
    step none = (λ h. refl, λ h. refl)
    step (some r) = (λ h. absurd (false≢true h), λ h. absurd (some-ne-none r h))

-- "Two interchanges are the same when both are accepted and their normal forms are equal."
pub same_says : (a b : List ℕ)
    → Says (are_same a b) ((refusal_of a ≡ none) × (refusal_of b ≡ none) × (normal_form a ≡ normal_form b))
unfolding are_same
same_says a b =
    says_as
    (says_both (is_accepted a && is_accepted b) (same (normal_form a) (normal_form b))
    (says_both (is_accepted a) (is_accepted b) (accepted_is a) (accepted_is b))
    (says_same (normal_form a) (normal_form b)))
    (λ h. (h.0.0, h.0.1, h.1))
    (λ h. ((h.0, h.1), h.2))

-- "same, different, or refusal with 1st or 2nd input (1st is judged first)"
module _ (a b : List ℕ) where
  pub first_refused : {r : Refusal} → refusal_of a ≡ some r → compare a b ≡ refused_input 1 r
  unfolding compare maybe
  first_refused e = rw e

  pub second_refused : {r : Refusal} → refusal_of a ≡ none → refusal_of b ≡ some r → compare a b ≡ refused_input 2 r
  unfolding compare maybe
  second_refused h e = rw (h, e)

  pub compared_both : refusal_of a ≡ none → refusal_of b ≡ none
      → (are_same a b ≡ true → compare a b ≡ given (1 ∷ [])) × (are_same a b ≡ false → compare a b ≡ given (0 ∷ []))
  unfolding compare maybe
  compared_both h k = (λ e. rw (h, k, e), λ e. rw (h, k, e))

  -- "the shorter of two interchanges that are the same, the first where equally long; otherwise the first zero bytes of the first"
  pub keep_is : (are_same a b ≡ true → length a ≤ length b → keep a b ≡ of_first 0 (length a))
      × (are_same a b ≡ true → length b < length a → keep a b ≡ of_second 0 (length b))
      × (are_same a b ≡ false → keep a b ≡ of_first 0 0)
  unfolding keep
  keep_is = (
    λ h l. rw (h, le-ltb (length b) (length a) l),
    λ h l. rw (h, lt-ltb (length b) (length a) l),
    λ h. rw h,
  )

-- ---- Locate and its companion

at_map : {A B : Type 0} (f : A → B) (xs : List A) (n : ℕ) (o : Option A) → at xs n ≡ o → at (map f xs) n ≡ maybe none (λ x. some (f x)) o
unfolding at maybe
at_map f [] n o e = ap (maybe none (λ x. some (f x))) e
at_map f (x ∷ xs) zero o e = ap (maybe none (λ x. some (f x))) e
at_map f (x ∷ xs) (suc n) o e = at_map f xs n o e

module _ (s : List ℕ) (n : ℕ) where
  -- "by segment, element and component, each from 0 in the contents (element 0 is the tag)", and by repeat between the two: of a tag and an
  -- element of two repeats, the first of two components
  pub located_are : (g : Segment) (tag u v w : Value) → at (segments_of s) n ≡ some g
      → trimmed g ≡ ((tag ∷ []) ∷ []) ∷ ((u ∷ v ∷ []) ∷ (w ∷ []) ∷ []) ∷ []
      → (located s n 0 0 0 ≡ some tag)
      × (located s n 1 0 0 ≡ some u)
      × (located s n 1 0 1 ≡ some v)
      × (located s n 1 1 0 ≡ some w)
      × (located s n 0 0 1 ≡ none)
      × (located s n 0 1 0 ≡ none)
      × (located s n 1 1 1 ≡ none)
      × (located s n 2 0 0 ≡ none)
  unfolding located value_at at maybe
  located_are g tag u v w e d =
      let found = at_map trimmed (segments_of s) n (some g) e in
      (rw (found, d), rw (found, d), rw (found, d), rw (found, d), rw (found, d), rw (found, d), rw (found, d), rw (found, d))

  pub located_none : (element repeat component : ℕ) → at (segments_of s) n ≡ none → located s n element repeat component ≡ none
  unfolding located maybe
  located_none element repeat component e = rw (at_map trimmed (segments_of s) n none e)

-- ---- value lists

abbrev item : ℕ → Bytes → Item
item kind value = record { kind = kind; value = value }

module _ (u v w x y : Bytes) where
  -- each value with the kind of what ends it: of `u:v*w+x'y'`
  pub closed_are : closed (item 0 u ∷ item 2 v ∷ item 3 w ∷ item 1 x ∷ item 0 y ∷ []) ≡ item 2 u ∷ item 3 v ∷ item 1 w ∷ item 0 x ∷ item 0 y ∷ []
  unfolding closed
  closed_are = refl

  -- "0 new segment, 1 new element, 2 next component", "kind 3 (a next repeat's first value)"
  pub segments_are : segments_listed (item 0 u ∷ item 2 v ∷ item 3 w ∷ item 1 x ∷ item 0 y ∷ [])
      ≡ (((u ∷ v ∷ []) ∷ (w ∷ []) ∷ []) ∷ ((x ∷ []) ∷ []) ∷ []) ∷ (((y ∷ []) ∷ []) ∷ []) ∷ []
  unfolding segments_listed closed closes rank_of cut onto
  segments_are = refl

-- what ends a segment ends its element, its repeat and its component too, and not the other way round
pub closes_are : (v : Bytes)
    → (closes 0 (item 0 v) ≡ true)
    × (closes 1 (item 0 v) ≡ true)
    × (closes 0 (item 1 v) ≡ false)
    × (closes 1 (item 1 v) ≡ true)
    × (closes 1 (item 3 v) ≡ false)
    × (closes 2 (item 3 v) ≡ true)
    × (closes 2 (item 2 v) ≡ false)
    × (closes 3 (item 2 v) ≡ true)
unfolding closes rank_of
closes_are v = (refl, refl, refl, refl, refl, refl, refl, refl)

-- "the trimmed list": of `A:*:+*:'B'`
pub list_trimmed : trim_list (((((65 ∷ []) ∷ [] ∷ []) ∷ ([] ∷ [] ∷ []) ∷ []) ∷ (([] ∷ []) ∷ ([] ∷ [] ∷ []) ∷ []) ∷ []) ∷ ((((66 ∷ []) ∷ []) ∷ []) ∷ []) ∷ [])
    ≡ ((((65 ∷ []) ∷ []) ∷ []) ∷ []) ∷ ((((66 ∷ []) ∷ []) ∷ []) ∷ []) ∷ []
unfolding trim_list trim_segment trim_element trim_repeat trim_end drop_end unless_idle is_idle is_empty
list_trimmed = refl

-- ---- Write

module _ (service bytes table output : List ℕ) where
  abbrev text : List ℕ
  text = written_text service bytes table

  -- "A refused Write leaves its whole output buffer zero"
  pub write_refused : {r : Refusal} → write_refusal service bytes table output ≡ some r
      → (write service bytes table output ≡ refused r) × (write_output service bytes table output ≡ replicate (length output) 0)
  unfolding write write_output maybe unless_refused
  write_refused e = (rw e, rw e)

  -- "The bytes beyond the text keep their values"
  pub write_given : write_refusal service bytes table output ≡ none
      → (write service bytes table output ≡ given (length text ∷ []))
      × (write_output service bytes table output ≡ text ++ drop (length text) output)
  unfolding write write_output maybe unless_refused stored_in
  write_given e = (rw e, rw e)
