-- Put refuses, or finds a copy, or stores a text: there is no fourth case. Assumes nothing.
use Prim.Native.Nat.{ℕ, ◌+◌, ◌≤◌}
use mathlib.Core.Path.{◌≡◌, refl, sym, ap, subst}
use mathlib.Core.Bool.{true, false}
use mathlib.Core.List.{List, [], ◌∷◌}
use mathlib.Core.Option.{Option, none, some}
use mathlib.Core.Logic.{◌⊎◌, inl, inr, ⊎_elim}
use native.Mathlib.Omega.{arith}
use lib.Dec.{ltb}
use lib.ListN.{length, get_or}
use borrow.Author.Tests.{ltb-true, ltb-false}
use Rattle.lists.specs.Lists.{is_empty}
use Rattle.lists.proofs.Texts.{decided}
use Rattle.refusals.specs.declared.Refusal.{Refusal}
use Rattle.stages.specs.Contents.{normal_form}
use Rattle.stages.specs.Stages.{refusal_of}
use Rattle.answers.specs.Answers.{Answer, given, refused}
use Rattle.contracts.proofs.Told.{given_refused}
use Rattle.shelves.specs.Layout.{Layout, Occupied, free, text_of, end_of}
use Rattle.shelves.specs.Soundness.{sound}
use Rattle.shelves.specs.Answers.{new_at, copy_at}
use Rattle.shelves.specs.Operations.{lowest_free, copy_of, put_refusal, put, put_shelf}
use Rattle.shelves.proofs.Sound.{Sound, says_sound}
use Rattle.shelves.proofs.Answered.{put_refused, put_unsound, put_judged, put_copy, put_full, put_roomless, put_new_lem}
use Rattle.shelves.proofs.Added.{Added, with_text_lem}
use Rattle.shelves.proofs.Copied.{Copied, with_copy_lem}
use Rattle.shelves.proofs.Found.{copy_holds, copy_none, LowestFree, lowest_free_lem}

module _ (l : Layout) (s input : List ℕ) where
  pub record Refusing : Type 0 where
    pub refusal : Refusal
    pub answer : put l s input ≡ refused refusal
    pub stays : put_shelf l s input ≡ s

  pub record Copying : Type 0 where
    pub slot : ℕ
    pub was : Sound l s
    pub accepted : refusal_of input ≡ none
    pub there : Occupied s slot
    pub holds : text_of l s slot ≡ normal_form input
    pub answer : put l s input ≡ copy_at slot
    pub copies : Copied l s (put_shelf l s input)

  pub record Storing : Type 0 where
    pub was : Sound l s
    pub accepted : refusal_of input ≡ none
    pub fresh : (k : ℕ) → Occupied s k → text_of l s k ≡ normal_form input → ⊥
    pub lowest : LowestFree s (lowest_free l s)
    pub room : end_of l s + length (normal_form input) ≤ length s
    pub answer : put l s input ≡ new_at (lowest_free l s)
    pub adds : Added l s (normal_form input) (lowest_free l s) (put_shelf l s input)

  abbrev pub Cases : Type 0
  Cases = Refusing ⊎ (Copying ⊎ Storing)

  refusing : (r : Refusal) → put_refusal l s input ≡ some r → Cases
  refusing r e = let d = put_refused l s input e in inl (record { refusal = r; answer = d.0; stays = d.1 })

  module _ (head : 13 ≤ l.pairs) where
    storing : sound l s ≡ true → refusal_of input ≡ none → copy_of l s (normal_form input) ≡ none → is_empty (free s) ≡ false
        → end_of l s + length (normal_form input) ≤ length s → Cases
    storing sane accepted c e h =
        let d = put_new_lem l s input sane accepted c e h in
        let was = (says_sound l s).0 sane in
        let low = lowest_free_lem l s e in
        inr (inr (record {
          was = was;
          accepted = accepted;
          fresh = copy_none l s (normal_form input) c;
          lowest = low;
          room = h;
          answer = d.0;
          adds =
              subst (Added l s (normal_form input) (lowest_free l s)) (sym d.1)
              (with_text_lem l head s (normal_form input) low.is_free h was.most);
        }))

    new_text : sound l s ≡ true → refusal_of input ≡ none → copy_of l s (normal_form input) ≡ none → Cases
    new_text sane accepted c =
        ⊎_elim
        (λ (e : is_empty (free s) ≡ true). refusing _ (put_full l s input sane accepted c e))
        (λ (e : is_empty (free s) ≡ false).
        ⊎_elim
        (λ (h : ltb (length s) (end_of l s + length (normal_form input)) ≡ true).
        refusing _ (put_roomless l s input sane accepted c e (ltb-true (length s) (end_of l s + length (normal_form input)) h)))
        (λ (h : ltb (length s) (end_of l s + length (normal_form input)) ≡ false).
        storing sane accepted c e (ltb-false (length s) (end_of l s + length (normal_form input)) h))
        (decided (ltb (length s) (end_of l s + length (normal_form input)))))
        (decided (is_empty (free s)))

    for_accepted : sound l s ≡ true → refusal_of input ≡ none → Cases
    for_accepted sane accepted = step (copy_of l s (normal_form input)) refl
      where
        step : (c : Option ℕ) → copy_of l s (normal_form input) ≡ c → Cases
        step none e = new_text sane accepted e
        step (some k) e =
            let d = put_copy l s input sane accepted e in
            let f = copy_holds l s (normal_form input) k e in
            inr (inl (record {
              slot = k;
              was = (says_sound l s).0 sane;
              accepted = accepted;
              there = f.0;
              holds = f.1;
              answer = d.0;
              copies = subst (Copied l s) (sym d.1) (with_copy_lem l s);
            }))

    for_sound : sound l s ≡ true → Cases
    for_sound sane = step (refusal_of input) refl
      where
        step : (o : Option Refusal) → refusal_of input ≡ o → Cases
        step none e = for_accepted sane e
        step (some r) e = refusing r (put_judged l s input sane e)

    pub put_cases : Cases
    put_cases =
        ⊎_elim for_sound (λ (e : sound l s ≡ false). refusing _ (put_unsound l s input e)) (decided (sound l s))

-- ---- which case an answer tells of

abbrev value : ℕ → Answer → ℕ
value k a = get_or a.values k 0

pub new_not_refused : (k : ℕ) (r : Refusal) → new_at k ≡ refused r → ⊥
unfolding new_at
new_not_refused k r e = given_refused (k ∷ 1 ∷ []) r e

pub copy_not_refused : (k : ℕ) (r : Refusal) → copy_at k ≡ refused r → ⊥
unfolding copy_at
copy_not_refused k r e = given_refused (k ∷ 0 ∷ []) r e

pub new_not_copy : (k j : ℕ) → new_at k ≡ copy_at j → ⊥
unfolding new_at copy_at given
new_not_copy k j e = omega (arith, ap (value 1) e)

pub new_slot : (k j : ℕ) → new_at k ≡ new_at j → k ≡ j
unfolding new_at given
new_slot k j e = ap (value 0) e

pub copy_slot : (k j : ℕ) → copy_at k ≡ copy_at j → k ≡ j
unfolding copy_at given
copy_slot k j e = ap (value 0) e
