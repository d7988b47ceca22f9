-- What Put answers and leaves, all but the shelf's head, from what was found. Assumes nothing.
use Rattle.std.specs.Prelude.{Ok, Err}
use Prim.Native.Nat.{ℕ, ◌+◌, ◌≤◌, ◌<◌}
use mathlib.Core.Path.{◌≡◌, sym, ap, ap₂, ◌∙◌}
use mathlib.Core.Bool.{true, false}
use mathlib.Core.List.{List}
use mathlib.Core.Option.{none, some}
use native.Mathlib.Omega.{arith}
use lib.ListN.{length}
use lib.Seq.{sets}
use Rattle.lists.specs.Lists.{is_empty}
use Rattle.refusals.specs.declared.Fault.TheVariants.{NoFreeSlot, NoRoom}
use Rattle.refusals.specs.declared.Refusal.{Refusal}
use Rattle.stages.specs.Stages.{refusal_of}
use Rattle.shelves.specs.declared.Summary.{Summary}
use Rattle.shelves.specs.Layout.{Layout, slot_count, is_occupied, free, pair_place, end_of}
use Rattle.shelves.specs.Soundness.{sound}
use Rattle.shelves.specs.Answers.{new_at, told_shelved}
use Rattle.shelves.specs.Operations.{pair_of, lowest_free, copy_of, with_text}
use Rattle.shelves.proofs.Answered.{nineteen, put_refused, put_unsound, put_judged, put_copy, put_full, put_roomless, put_new_lem}
use Rattle.shelf_contracts.specs.Promises.{Puts}
use Rattle.shelf_summary.specs.declared.Placed.TheVariants.{New, Copy}
use Rattle.shelf_summary.specs.Steps.{Heads, shelved_of, after_put, PutFits}
use Rattle.shelf.specs.Parts.{stowed, PutsText, PutsForm}
use Rattle.shelf.proofs.Lent.{refused_text, copied, added, new_fits}

-- ---- a normal form that is put on a sound shelf

module _ (l : Layout) (s form : List ℕ) where
  -- the text behind the last one, and its pair
  pub text_stored : {slot end : ℕ} {stored after : List ℕ} → slot ≡ lowest_free l s → end ≡ end_of l s
      → stored ≡ sets s end form → after ≡ sets stored (pair_place l slot) (pair_of end (length form)) → after ≡ stowed l s form
  unfolding stowed
  text_stored {slot} {end} e f p q =
      q
      ∙ ap (λ (x : List ℕ). sets x (pair_place l slot) (pair_of end (length form))) p
      ∙ ap₂ (λ (k n : ℕ). sets (sets s n form) (pair_place l k) (pair_of n (length form))) e f

  module _ (u : Summary) (h : Heads s u) (sums : 21 ≤ l.pairs) (sane : sound l s ≡ true) where
    pub puts_copy : {k : ℕ} → copy_of l s form ≡ some k → PutsForm l s form (Ok (Copy k)) s
    unfolding told_shelved shelved_of after_put PutFits
    puts_copy c input a e =
        let d = put_copy l s input sane a (ap (copy_of l s) e ∙ c) in ((sym d.0, copied l s u h sane sums ∙ sym d.1), tt)

    module _ (fresh : copy_of l s form ≡ none) where
      pub puts_full : is_empty (free s) ≡ true → PutsForm l s form (Err (record { fault = NoFreeSlot; place = 64 })) s
      puts_full q input a e = refused_text l s u h sane input (put_full l s input sane a (ap (copy_of l s) e ∙ fresh) q)

      pub puts_long : is_empty (free s) ≡ false → length s < end_of l s + length form
          → PutsForm l s form (Err (record { fault = NoRoom; place = length form })) s
      puts_long q i input a e =
          let r = put_roomless l s input sane a (ap (copy_of l s) e ∙ fresh) q (omega (arith, ap length e)) in
          refused_text l s u h sane input (r ∙ ap (λ (n : ℕ). some (record { fault = NoRoom; place = n })) (ap length e))

      pub puts_new : is_empty (free s) ≡ false → end_of l s + length form ≤ length s → {slot : ℕ} {after : List ℕ} → slot ≡ lowest_free l s
          → (slot < slot_count) × (is_occupied s slot ≡ false) → after ≡ stowed l s form → PutsForm l s form (Ok (New slot (length form))) after
      unfolding told_shelved shelved_of after_put PutFits
      puts_new q i p f g input a e =
          let d = put_new_lem l s input sane a (ap (copy_of l s) e ∙ fresh) q (omega (arith, ap length e)) in (
            (ap new_at p ∙ sym d.0, added l s u h sane sums form p g ∙ ap (with_text l s) (sym e) ∙ sym d.1),
            new_fits l s u h sane sums form i f,
          )

-- ---- an interchange that is put

-- what is refused first
pub puts_unsound : (l : Layout) (s input : List ℕ) → sound l s ≡ false → Puts l s input (Err nineteen) s
unfolding told_shelved
puts_unsound l s input e = let d = put_refused l s input (put_unsound l s input e) in (sym d.0, sym d.1)

pub puts_judged : (l : Layout) (s input : List ℕ) (u : Summary) → Heads s u → sound l s ≡ true → {q : Refusal} → refusal_of input ≡ some q
    → PutsText l s input (Err q) s
puts_judged l s input u h sane a = refused_text l s u h sane input (put_judged l s input sane a)
