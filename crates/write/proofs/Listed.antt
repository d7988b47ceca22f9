-- Write of records, wherever their values stand: what is asked, measured and stored of them answers as Write does for the bytes and the table
-- of their list. Assumes nothing.
use Rattle.std.specs.Prelude.{Option as Perhaps}
use Prim.Native.Nat.{ℕ, ◌<◌}
use mathlib.Core.Path.{◌≡◌, sym, ap, ◌∙◌}
use mathlib.Core.List.{List, []}
use mathlib.Core.Option.{Option, some}
use native.Mathlib.Omega.{arith}
use lib.ListN.{length}
use Rattle.characters.specs.declared.Characters.{Characters}
use Rattle.refusals.specs.declared.Fault.TheVariants.{BadList, NeedsRelease}
use Rattle.refusals.specs.declared.Refusal.{Refusal}
use Rattle.refusals.specs.Refusals.{met, lowest, or_else, outcome, Outcome}
use Rattle.refusals.specs.Limits.{most_bytes}
use Rattle.operations.specs.ValueList.{Item, entries, list_bytes, list_table, listed_in}
use Rattle.operations.specs.Write.{bad_list, numbers_where, cannot_stand}
use Rattle.trimming_laws.proofs.Tables.{listed_table, list_table_length}
use Rattle.value_lists.proofs.Records.{table_bad, bad_length}
use Rattle.value_list_text.specs.Composing.{composed_text, short_length}
use Rattle.value_list_text.specs.Standing.{first_bare}
use Rattle.value_list_text.proofs.Standing.{table_bare}
use Rattle.write.specs.Writing.{Passed}
use Rattle.write.proofs.Writing.{left, list_passed, list_answers}

module _ (items : List Item) where
  abbrev bytes : List ℕ
  bytes = list_bytes items

  abbrev table : List ℕ
  table = list_table items

  module _ (service output : List ℕ) where
    abbrev after : ℕ → Option Refusal
    after passed = left service bytes table output passed

    -- 15: there are too many
    pub many_failed : most_bytes < length items → after 0 ≡ some (record { fault = BadList; place = 0 })
    unfolding or_else
    many_failed h = list_answers service bytes table output (table_bad bytes table (bad_length table (omega (arith, h, list_table_length items))))

    -- 15 passes them
    pub records_met : bad_list bytes table ≡ [] → after 0 ≡ after 1
    unfolding or_else met lowest
    records_met good = list_answers service bytes table output (ap (λ (places : List ℕ). lowest (met BadList places)) good)

  pub records_passed : bad_list bytes table ≡ [] → Passed bytes table
  unfolding met lowest
  records_passed good = list_passed bytes table (ap (λ (places : List ℕ). lowest (met BadList places)) good)

  module _ (c : Characters) where
    -- 16, as it is asked of their table
    pub asked : {o : Outcome} → o ≡ outcome (first_bare c 0 items) → o ≡ outcome (lowest (met NeedsRelease (numbers_where (cannot_stand c bytes) 0 (entries table))))
    asked e = e ∙ ap outcome (sym (table_bare c bytes table ∙ ap (first_bare c 0) (listed_table items)))

    -- their text is that of their table
    pub composed_same : composed_text c items ≡ composed_text c (listed_in bytes table)
    composed_same = ap (composed_text c) (sym (listed_table items))

    pub measured : {o : Perhaps ℕ} → o ≡ short_length (length (composed_text c items)) → o ≡ short_length (length (composed_text c (listed_in bytes table)))
    measured m = m ∙ ap (λ (t : List ℕ). short_length (length t)) composed_same
