-- What Read, Write and Normalise say they stored stands in the fronts of the buffers that they were lent, and so lies within them. Assumes nothing.
use Rattle.std.specs.Prelude.{Ok, Err, Result}
use Prim.Native.Nat.{ℕ, ◌≤◌}
use mathlib.Core.Path.{◌≡◌, refl, sym, ap, subst, ◌∙◌}
use mathlib.Core.List.{List, [], ◌∷◌}
use mathlib.Core.Option.{Option, none}
use native.Mathlib.Omega.{arith}
use lib.ListN.{length, drop, replicate, length-append}
use Rattle.refusals.specs.declared.Refusal.{Refusal}
use Rattle.answers.specs.declared.Listed.{Listed}
use Rattle.answers.specs.Answers.{told_listed, told_stored, Stored}
use Rattle.stages.specs.Contents.{normal_form}
use Rattle.operations.specs.Judge.{stored_in, unless_refused, normalise_refusal, normalise, normalise_buffer}
use Rattle.operations.specs.Read.{value_bytes, value_table, read_refusal, read, read_bytes, read_table}
use Rattle.operations.specs.Write.{written_text, write_refusal, write, write_output}
use Rattle.contracts.proofs.Told.{given_is}
use Rattle.run_respell.specs.Respelled.{Respelled, Fitting}

-- what is stored where nothing is refused is no longer than the buffer then is
fits : (new buffer other : List ℕ) {after : List ℕ} {o : Option Refusal} {n : ℕ} → after ≡ unless_refused o (stored_in buffer new) other → o ≡ none
    → n ≡ length new
    → n ≤ length after
unfolding unless_refused stored_in
fits new buffer other e h k =
    let whole = e ∙ ap (λ (o : Option Refusal). unless_refused o (stored_in buffer new) other) h in
    omega (arith, k, ap length whole ∙ length-append new (drop (length new) buffer))

module _ (buffer table s : List ℕ) {r : Result Listed Refusal} {l : Listed} (says : told_listed r ≡ read buffer table s) (is : r ≡ Ok l) where
  given_values : (read_refusal buffer table s ≡ none) × (l.bytes ∷ l.numbers ∷ [] ≡ length (value_bytes s) ∷ length (value_table s) ∷ [])
  unfolding read told_listed
  given_values = given_is (length (value_bytes s) ∷ length (value_table s) ∷ []) (l.bytes ∷ l.numbers ∷ []) (read_refusal buffer table s) (sym (ap told_listed is) ∙ says)

  pub bytes_within : {after : List ℕ} → after ≡ read_bytes buffer table s → l.bytes ≤ length after
  unfolding read_bytes
  bytes_within e =
      let same = given_values.1 in
      fits (value_bytes s) buffer buffer e given_values.0 (cc)

  pub numbers_within : {after : List ℕ} → after ≡ read_table buffer table s → l.numbers ≤ length after
  unfolding read_table
  numbers_within e =
      let same = given_values.1 in
      fits (value_table s) table table e given_values.0 (cc)

module _ (service bytes table output : List ℕ) {r : Stored} {n : ℕ} (says : told_stored r ≡ write service bytes table output) (is : r ≡ Ok n) where
  pub text_within : {after : List ℕ} → after ≡ write_output service bytes table output → n ≤ length after
  unfolding write write_output told_stored
  text_within e =
      let text : List ℕ = written_text service bytes table in
      let found = given_is (length text ∷ []) (n ∷ []) (write_refusal service bytes table output) (sym (ap told_stored is) ∙ says) in
      let same = found.1 in
      fits text output (replicate (length output) 0) e found.0 (cc)

module _ (buffer s : List ℕ) {r : Stored} {n : ℕ} (says : told_stored r ≡ normalise buffer s) (is : r ≡ Ok n) where
  pub form_within : {after : List ℕ} → after ≡ normalise_buffer buffer s → n ≤ length after
  unfolding normalise normalise_buffer told_stored
  form_within e =
      let form : List ℕ = normal_form s in
      let found = given_is (length form ∷ []) (n ∷ []) (normalise_refusal buffer s) (sym (ap told_stored is) ∙ says) in
      let same = found.1 in
      fits form buffer buffer e found.0 (cc)

-- the text of a respelling lies within the buffer: for whoever lends it on
pub respelled_within : (r : Respelled) (buffer : List ℕ) (n : ℕ) → r ≡ Ok n → Fitting r buffer → n ≤ length buffer
respelled_within r buffer n is fitting = subst (λ (x : Respelled). Fitting x buffer) is fitting

-- it does, if the length does in the case in which there is one
pub fitting_by : (r : Respelled) (buffer : List ℕ) → ((n : ℕ) → r ≡ Ok n → n ≤ length buffer) → Fitting r buffer
fitting_by (Ok n) buffer h = h n refl
fitting_by (Err refused) buffer h = tt
