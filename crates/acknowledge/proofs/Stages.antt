-- One stage after the other: 23, then 15 of a lent list, then the writer's for the list put together, asked of its records. Assumes nothing.
use Rattle.answers.specs.Answers.{Stored}
use Rattle.std.specs.Option.{ok_or}
use Rattle.std.specs.Prelude.{if◌then◌else◌, Option as Perhaps, Some, None, Ok, Err}
use Prim.Native.Nat.{ℕ}
use mathlib.Core.Path.{◌≡◌, refl, sym, ap, ap₂, subst, ◌∙◌}
use mathlib.Core.Bool.{Bool, true, false, not, ◌||◌, or-true}
use mathlib.Core.List.{List, []}
use mathlib.Core.Option.{Option, some}
use lib.ListN.{length, drop}
use Rattle.characters.specs.declared.Characters.{Characters}
use Rattle.characters.specs.Characters.{usable, six_bytes, spelled_out}
use Rattle.refusals.specs.declared.Fault.TheVariants.{BadList, NoAcknowledgement}
use Rattle.refusals.specs.declared.Refusal.{Refusal}
use Rattle.refusals.specs.Refusals.{answering}
use Rattle.refusals.proofs.Stages.{one_place}
use Rattle.operations.specs.Judge.{stored_in}
use Rattle.operations.specs.ValueList.{Item, list_bytes, list_table}
use Rattle.operations.specs.Write.{bad_list, written_text}
use Rattle.write.specs.Writing.{Tried}
use Rattle.write.proofs.Writing as W
use Rattle.write.proofs.Writing.{service_answers}
use Rattle.write.proofs.Listed.{records_met}
use Rattle.acknowledgements.specs.Lent.{Lent, is_bad_lent, any_bad_lent}
use Rattle.acknowledgements.specs.Received.{characters_to_write, cannot_be_acknowledged}
use Rattle.acknowledgements.specs.Acknowledgement.{items_of, acknowledgement_text, acknowledge_stages}
use Rattle.acknowledgement_parts.specs.declared.Received.{Received}

-- ---- the writer's, for records that are listed

module _ (c : Characters) (items : List Item) (output : List ℕ) where
  abbrev service : List ℕ
  service = spelled_out c

  abbrev bytes : List ℕ
  bytes = list_bytes items

  abbrev table : List ℕ
  table = list_table items

  abbrev pub written_left : ℕ → Option Refusal
  written_left passed = W.left service bytes table output passed

  pub six : c ≡ six_bytes service
  unfolding six_bytes spelled_out
  six = refl

  -- 15 and 2 are passed
  pub begun : bad_list bytes table ≡ [] → usable c ≡ true → written_left 0 ≡ written_left 2
  unfolding spelled_out six_bytes
  begun good fit = records_met items service output good ∙ service_answers service bytes table output false (ap not fit)

-- ---- 23 and 15 of a lent list

module _ (s : List ℕ) (l : Lent) (output : List ℕ) where
  abbrev text : List ℕ
  text = acknowledgement_text s l

  abbrev pub left : ℕ → Option Refusal
  left passed = answering (drop passed (acknowledge_stages s l output))

  -- the writer's, for the list put together
  module _ {c : Characters} {items : List Item} (d : c ≡ characters_to_write s) (e : items ≡ items_of s l) where
    pub as_written : left 2 ≡ written_left c items output 0
    unfolding acknowledge_stages
    as_written = ap₂ (λ (k : Characters) (xs : List Item). written_left k xs output 0) (sym d) (sym e)

    pub as_tried : {o : Option Refusal} {r : Stored} {after : List ℕ}
        → (let t = written_text (spelled_out c) (list_bytes items) (list_table items) in Tried o (length t) (stored_in output t) output r after)
        → Tried o (length text) (stored_in output text) output r after
    unfolding acknowledgement_text
    as_tried {o} {r} {after} t =
        subst (λ (w : List ℕ). Tried o (length w) (stored_in output w) output r after)
        (ap₂ (λ (k : Characters) (xs : List Item). written_text (spelled_out k) (list_bytes xs) (list_table xs)) d e) t

  -- 15
  pub lent_stage : {b : Bool} → any_bad_lent l ≡ b → left 1 ≡ (if b then some (record { fault = BadList; place = 0 }) else left 2)
  unfolding acknowledge_stages
  lent_stage e = one_place BadList 0 (drop 2 (acknowledge_stages s l output)) e

  -- 23
  pub first_stage : {b : Bool} → cannot_be_acknowledged s ≡ b → left 0 ≡ (if b then some (record { fault = NoAcknowledgement; place = 0 }) else left 1)
  unfolding acknowledge_stages
  first_stage e = one_place NoAcknowledgement 0 (drop 1 (acknowledge_stages s l output)) e

-- what a report that was made or refused says
pub report_told : (o : Perhaps Received) (r : Refusal) {x : Received} → ok_or o r ≡ Ok x → o ≡ Some x
report_told None r e = cc
report_told (Some x) r e = cc

pub report_failed : (o : Perhaps Received) (r : Refusal) {q : Refusal} → ok_or o r ≡ Err q → (o ≡ None) × (r ≡ q)
report_failed None r e = (refl, cc)
report_failed (Some x) r e = cc

-- ---- which lent list is bad

module _ (l : Lent) where
  pub bad_date : is_bad_lent l.date ≡ true → any_bad_lent l ≡ true
  unfolding any_bad_lent
  bad_date e = ap (λ (b : Bool). b || is_bad_lent l.reference || is_bad_lent l.message) e

  pub bad_reference : is_bad_lent l.reference ≡ true → any_bad_lent l ≡ true
  unfolding any_bad_lent
  bad_reference e = ap (λ (b : Bool). b || is_bad_lent l.message) (ap (λ (b : Bool). is_bad_lent l.date || b) e ∙ or-true (is_bad_lent l.date))

  pub bad_message : is_bad_lent l.message ≡ true → any_bad_lent l ≡ true
  unfolding any_bad_lent
  bad_message e = ap (λ (b : Bool). is_bad_lent l.date || is_bad_lent l.reference || b) e ∙ or-true (is_bad_lent l.date || is_bad_lent l.reference)

  pub none_bad : is_bad_lent l.date ≡ false → is_bad_lent l.reference ≡ false → is_bad_lent l.message ≡ false → any_bad_lent l ≡ false
  unfolding any_bad_lent
  none_bad p q t = ap₂ (λ (x y : Bool). x || y) (ap₂ (λ (x y : Bool). x || y) p q) t
