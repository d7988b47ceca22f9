-- The laws of the shelf, for every layout whose pairs stand behind the map. Assumes nothing.
use Prim.Native.Nat.{ℕ, ◌+◌, ◌≤◌, ◌<◌, min}
use mathlib.Core.Path.{◌≡◌, sym, ap, subst, ◌∙◌}
use mathlib.Core.Bool.{true, false}
use mathlib.Core.List.{List, []}
use mathlib.Core.Logic.{⊎_elim}
use native.Mathlib.Omega.{arith}
use lib.ListN.{length, get_or}
use Rattle.lists.proofs.Texts.{decided}
use Rattle.lists.proofs.Tests.{says_begins}
use Rattle.numbers.specs.Numbers.{in_bytes}
use Rattle.refusals.specs.declared.Refusal.{Refusal}
use Rattle.stages.specs.Contents.{normal_form}
use Rattle.answers.specs.Answers.{refused}
use Rattle.contracts.proofs.Told.{given_refused}
use Rattle.shelves.specs.Layout.{Layout, version_one, version_two, duplicates_of, is_occupied, Free, occupied, heading, start_of, held, end_of}
use Rattle.shelves.specs.Soundness.{is_sized}
use Rattle.shelves.specs.Answers.{new_at}
use Rattle.shelves.specs.Operations.{start, empty_shelf, start_shelf, put, put_shelf}
use Rattle.shelves.proofs.Sound.{says_sized, says_sound}
use Rattle.shelves.proofs.Sound as clauses
use Rattle.shelves.proofs.Answered.{start_refused, start_done, sums_given}
use Rattle.shelves.proofs.Copied.{copy_stays}
use Rattle.shelf_laws.specs.Histories.{Operation, after_all, all_put, all_removed, all_copied}
use Rattle.shelf_laws.specs.Shelf.{Sound, Shelf}
use Rattle.shelves.proofs.Held.{held_nothing}
use Rattle.shelves.proofs.Empty.{started_sound, started_occupied, started_duplicates}
use Rattle.shelf_laws.proofs.InWords.{sound_exactly}
use Rattle.shelf_laws.proofs.Order as order
use Rattle.shelf_laws.proofs.PutLaws as put_laws
use Rattle.shelf_laws.proofs.RemoveLaws as remove_laws
use Rattle.shelf_laws.proofs.Histories.{history}
use Rattle.shelf_laws.proofs.Figures as figures

module _ (l : Layout) (head : 13 ≤ l.pairs) where
  -- a sound shelf stays sound, by the test
  put_sound : (s input : List ℕ) → Sound l s → Sound l (put_shelf l s input)
  put_sound s input e = (says_sound l (put_shelf l s input)).1 (put_laws.keeps_sound l head s input ((says_sound l s).0 e))

  -- ---- Start

  module _ (buffer : List ℕ) (sized : is_sized l buffer ≡ true) where
    empty : start_shelf l buffer ≡ empty_shelf l (length buffer)
    empty = (start_done l buffer sized).1

    empty_sound : clauses.Sound l (start_shelf l buffer)
    empty_sound =
        let size = (says_sized l buffer).0 sized in
        subst (clauses.Sound l) (sym empty) (started_sound l head (length buffer) size.0 size.1)

    empty_occupied : occupied (start_shelf l buffer) ≡ []
    empty_occupied =
        let size = (says_sized l buffer).0 sized in
        ap occupied empty ∙ started_occupied l head (length buffer) size.0 size.1

  -- ---- histories

  from_sound : (s : List ℕ) (os : List Operation) → Sound l s
      → Sound l (after_all l s os) × (held l s + all_put l s os ≡ held l (after_all l s os) + all_removed l s os)
  from_sound s os sane =
      let h = history l head os s ((says_sound l s).0 sane) in ((says_sound l (after_all l s os)).1 h.0, h.1)

  -- "From an empty shelf, the bytes held always equal the lengths newly put less the lengths removed."
  from_empty : (s : List ℕ) (os : List Operation) → Sound l s → occupied s ≡ []
      → Sound l (after_all l s os) × (all_put l s os ≡ held l (after_all l s os) + all_removed l s os)
  from_empty s os sane empty =
      let h = from_sound s os sane in (h.0, omega (arith, h.1, held_nothing l s empty))

  -- a started shelf has found no duplicates
  no_duplicates : (buffer : List ℕ) → is_sized l buffer ≡ true → duplicates_of (start_shelf l buffer) ≡ 0
  no_duplicates buffer z =
      let size = (says_sized l buffer).0 z in
      ap duplicates_of (empty buffer z) ∙ started_duplicates l head (length buffer) size.0 size.1

  from_start : (buffer : List ℕ) (os : List Operation) → 21 ≤ l.pairs → is_sized l buffer ≡ true
      → duplicates_of (after_all l (start_shelf l buffer) os) ≡ min (all_copied l (start_shelf l buffer) os) 4294967295
  from_start buffer os sums z =
      let none = no_duplicates buffer z in
      (figures.figures l sums os (start_shelf l buffer) (empty_sound buffer z) (omega arith)).1
      ∙ ap (λ (n : ℕ). min n 4294967295) (omega arith)

  start_stays : (buffer : List ℕ) (r : Refusal) → start l buffer ≡ refused r → start_shelf l buffer ≡ buffer
  start_stays buffer r e =
      ⊎_elim (λ (z : is_sized l buffer ≡ true). absurd (given_refused [] r (sym (start_done l buffer z).0 ∙ e)))
      (λ (z : is_sized l buffer ≡ false). (start_refused l buffer z).1)
      (decided (is_sized l buffer))

  -- ---- a new text's place

  new_place : (s input : List ℕ) (slot : ℕ) → put l s input ≡ new_at slot
      → Free s slot × ((k : ℕ) → k < slot → is_occupied s k ≡ true) × (start_of l (put_shelf l s input) slot ≡ end_of l s)
      × (end_of l (put_shelf l s input) ≡ end_of l s + length (normal_form input))
  new_place s input slot e =
      let (c, at) = put_laws.new_case l head s input slot e in (
        subst (Free s) at c.lowest.is_free,
        subst (λ (n : ℕ). (k : ℕ) → k < n → is_occupied s k ≡ true) at c.lowest.lower,
        ap (start_of l (put_shelf l s input)) (sym at) ∙ c.adds.start_this,
        c.adds.end,
      )

  pub shelf : Shelf l
  shelf = record {
    sound_words = sound_exactly l;
    start_nineteen = order.start_nineteen l;
    put_nineteen = order.put_nineteen l;
    get_nineteen = order.length_nineteen l;
    remove_nineteen = order.remove_nineteen l;
    slots_nineteen = order.slots_nineteen l;
    sums_nineteen = order.sums_nineteen l;
    put_judged = order.then_judged l;
    put_there = λ s other k e. put_laws.there l s other k ((says_sound l s).0 e);
    put_full = order.then_full l;
    put_roomless = λ s input k new. order.then_roomless l s input new k;
    put_kept = λ s input k new. order.then_kept l s input new k;
    not_occupied = order.then_free l;
    start_refused = start_stays;
    put_refused = λ s input. put_laws.refused_stays l head s input;
    remove_refused = λ s slot. remove_laws.refused_stays l head s slot;
    get_refused = λ s slot. remove_laws.refused_nothing l head s slot;
    start_sound = λ buffer z. ((says_sound l (start_shelf l buffer)).1 (empty_sound buffer z), empty_occupied buffer z);
    put_sound = put_sound;
    remove_sound =
        λ s slot e. (says_sound l _).1 (remove_laws.keeps_sound l head s slot ((says_sound l s).0 e));
    put_get = λ s input slot. put_laws.got_back l head s input slot;
    put_others = λ s input k e. put_laws.others_stay l head s input k ((says_sound l s).0 e);
    remove_others = λ s slot k e. remove_laws.others_stay l head s slot k ((says_sound l s).0 e);
    put_place = new_place;
    put_slots = λ s input slot. put_laws.slots_say l head s input slot;
    put_again = λ s input other slot. put_laws.there_again l head s input other slot;
    remove_frees = λ s slot. remove_laws.frees l head s slot;
    remove_moves = λ s slot n k. remove_laws.moves l head s slot n k;
    remove_slots = λ s slot. remove_laws.slots_say l head s slot;
    remove_gone = λ s slot n input. remove_laws.gone l head s slot n input;
    remove_put = λ s slot n input. remove_laws.room_again l head s slot n input;
    histories = from_empty;
    histories_on = from_sound;
    sums_given = λ s sums e. (sums_given l s e, ((says_sound l s).0 e).summed sums);
    start_figure = λ buffer sums z. no_duplicates buffer z;
    put_raises = λ s input slot sums. figures.put_raises l sums s input slot;
    put_figure = λ s input sums. figures.put_leaves l sums s input;
    remove_figure = λ s slot sums. figures.remove_leaves l sums s slot;
    copy_stays = copy_stays l;
    figures = λ s os sums e. figures.figures l sums os s ((says_sound l s).0 e);
    figures_started = from_start;
  }

-- so for version 1 and for version 2
pub shelf_one : Shelf version_one
shelf_one = shelf version_one (omega arith)

pub shelf_two_lem : Shelf version_two
shelf_two_lem = shelf version_two (omega arith)

-- "19 for a version 1 shelf": no shelf is sound in both versions
pub old_unsound : (s : List ℕ) → Sound version_one s → Sound version_two s → ⊥
unfolding heading in_bytes
old_unsound s one two =
    let (old, e) = (says_begins (heading version_one) s).0 ((says_sound version_one s).0 one).headed in
    let (new, f) = (says_begins (heading version_two) s).0 ((says_sound version_two s).0 two).headed in
    let versions : ◌≡◌ {A = ℕ} 1 2 = ap (λ (xs : List ℕ). get_or xs 4 0) (sym e ∙ f) in
    omega arith
