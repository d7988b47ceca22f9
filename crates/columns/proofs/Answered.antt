-- What each contract allows, case by case: which answer, and which bytes of the lent buffer at exit. Assumes nothing.
use Rattle.std.specs.Prelude.{Ok, Err}
use Prim.Native.Nat.{ℕ, ◌≤◌}
use mathlib.Core.Path.{◌≡◌, ap, ◌∙◌}
use mathlib.Core.Bool.{true, false, not}
use mathlib.Core.List.{List, [], ◌∷◌, ◌++◌}
use mathlib.Core.Option.{Option, none, some}
use lib.ListN.{length, drop, replicate}
use Rattle.lists.specs.Lists.{maybe}
use Rattle.refusals.specs.declared.Fault.TheVariants.{NoColumns}
use Rattle.refusals.specs.declared.Refusal.{Refusal}
use Rattle.refusals.proofs.Stages.{one_place}
use Rattle.stages.specs.Stages.{refusal_of}
use Rattle.answers.specs.Answers.{given, refused, told_stored, Stored}
use Rattle.operations.specs.Judge.{stored_in, unless_refused}
use Rattle.operations.specs.Write.{write_stages, write_refusal}
use Rattle.contracts.proofs.Told.{stored_tells}
use Rattle.columns.specs.Reading.{is_columns}
use Rattle.columns.specs.Operations.{export_text, export_refusal, exports, export_buffer, bytes_read, table_read, import_text, import_stages, import_refusal, imports, import_output}
use Rattle.columns.specs.Promises.{Exports, Imports}
use Rattle.columns.proofs.Words.{exported}

-- ---- export

-- "its buffer unchanged" where it is refused
pub export_refused : (buffer s : List ℕ) {r : Refusal} → export_refusal buffer s ≡ some r
    → (exports buffer s ≡ refused r) × (export_buffer buffer s ≡ buffer)
unfolding exports export_buffer maybe unless_refused
export_refused buffer s e = (
  ap (maybe (given (length (export_text s) ∷ [])) refused) e,
  ap (λ (o : Option Refusal). unless_refused o (stored_in buffer (export_text s)) buffer) e,
)

-- the text in the front of the buffer, of which the rest stays; or the refusal, and the buffer as it was
pub exports_are : (buffer s : List ℕ) (r : Stored) (after : List ℕ) → Exports buffer s r after
    → (refusal_of s ≡ none → length (export_text s) ≤ length buffer
    → (r ≡ Ok (length (export_text s))) × (after ≡ export_text s ++ drop (length (export_text s)) buffer))
    × ((q : Refusal) → export_refusal buffer s ≡ some q → (r ≡ Err q) × (after ≡ buffer))
unfolding told_stored
exports_are buffer s r after h = (
  λ e fits.
      let told = exported buffer s e fits in
      (stored_tells r (Ok (length (export_text s))) (h.0 ∙ told.1), h.1 ∙ told.2),
  λ q e. let told = export_refused buffer s e in (stored_tells r (Err q) (h.0 ∙ told.0), h.1 ∙ told.1),
)

-- ---- import

module _ (service columns output : List ℕ) where
  -- "24 at 0 for any other text"
  pub import_other : is_columns columns ≡ false → import_refusal service columns output ≡ some (record { fault = NoColumns; place = 0 })
  unfolding import_refusal import_stages
  import_other e = one_place NoColumns 0 (write_stages service (bytes_read columns) (table_read columns) output) (ap not e)

  -- "then the writer's for that value list"
  pub import_writes : is_columns columns ≡ true
      → import_refusal service columns output ≡ write_refusal service (bytes_read columns) (table_read columns) output
  unfolding import_refusal import_stages write_refusal
  import_writes e = one_place NoColumns 0 (write_stages service (bytes_read columns) (table_read columns) output) (ap not e)

  -- "output zero for each" refusal
  pub import_refused : {r : Refusal} → import_refusal service columns output ≡ some r
      → (imports service columns output ≡ refused r) × (import_output service columns output ≡ replicate (length output) 0)
  unfolding imports import_output maybe unless_refused
  import_refused e = (
    ap (maybe (given (length (import_text service columns) ∷ [])) refused) e,
    ap (λ (o : Option Refusal). unless_refused o (stored_in output (import_text service columns)) (replicate (length output) 0)) e,
  )

  -- the interchange in the front of the output, of which the rest keeps its values
  pub import_given : import_refusal service columns output ≡ none
      → let text : List ℕ = import_text service columns in
      (imports service columns output ≡ given (length text ∷ [])) × (import_output service columns output ≡ text ++ drop (length text) output)
  unfolding imports import_output maybe unless_refused stored_in
  import_given e = (
    ap (maybe (given (length (import_text service columns) ∷ [])) refused) e,
    ap (λ (o : Option Refusal). unless_refused o (stored_in output (import_text service columns)) (replicate (length output) 0)) e,
  )

  -- the interchange and its length; or the refusal, and zeros
  pub imports_are : (r : Stored) (after : List ℕ) → Imports service columns output r after
      → (import_refusal service columns output ≡ none
      → let text : List ℕ = import_text service columns in
      (r ≡ Ok (length text)) × (after ≡ text ++ drop (length text) output))
      × ((q : Refusal) → import_refusal service columns output ≡ some q → (r ≡ Err q) × (after ≡ replicate (length output) 0))
  unfolding told_stored
  imports_are r after h = (
    λ e.
        let told = import_given e in
        (stored_tells r (Ok (length (import_text service columns))) (h.0 ∙ told.0), h.1 ∙ told.1),
    λ q e. let told = import_refused e in (stored_tells r (Err q) (h.0 ∙ told.0), h.1 ∙ told.1),
  )
