-- Refusal 16 over a table is refusal 16 over the records that it lists; record by record. Assumes nothing.
use Rattle.std.specs.Prelude.{if◌then◌else◌}
use Prim.Native.Nat.{ℕ, ◌+◌}
use mathlib.Core.Path.{◌≡◌, refl, ap, ◌∙◌}
use mathlib.Core.Bool.{true, false}
use mathlib.Core.List.{List, [], ◌∷◌, map}
use mathlib.Core.Option.{Option, none}
use Rattle.lists.proofs.Texts.{if_true, if_false}
use Rattle.characters.specs.declared.Characters.{Characters}
use Rattle.refusals.specs.declared.Fault.TheVariants.{NeedsRelease}
use Rattle.refusals.specs.declared.Refusal.{Refusal}
use Rattle.refusals.specs.Refusals.{met, lowest}
use Rattle.stage_walks.specs.Walks.{refuse}
use Rattle.operations.specs.ValueList.{Item, Entry, entries, value_in, listed_in}
use Rattle.operations.specs.Write.{numbers_where, cannot_stand}
use Rattle.value_lists.specs.Records.{first_record}
use Rattle.value_lists.proofs.Records.{lowest_first}
use Rattle.value_list_text.specs.Standing.{is_bare, first_bare}

records_bare : (c : Characters) (bytes : List ℕ) (n : ℕ) (es : List Entry)
    → first_record NeedsRelease (cannot_stand c bytes) n es ≡ first_bare c n (map (λ e. record { kind = e.kind; value = value_in bytes e }) es)
unfolding first_record first_bare cannot_stand
records_bare c bytes n [] = refl
records_bare c bytes n (e ∷ es) =
    ap (λ (o : Option Refusal). if is_bare c (record { kind = e.kind; value = value_in bytes e }) then refuse NeedsRelease n else o) (records_bare c bytes (n + 1) es)

pub table_bare : (c : Characters) (bytes table : List ℕ)
    → lowest (met NeedsRelease (numbers_where (cannot_stand c bytes) 0 (entries table))) ≡ first_bare c 0 (listed_in bytes table)
unfolding listed_in
table_bare c bytes table = lowest_first NeedsRelease (cannot_stand c bytes) 0 (entries table) ∙ records_bare c bytes 0 (entries table)

-- the next record cannot stand, or it can; none is left
module _ (c : Characters) (n : ℕ) {items : List Item} where
  module _ {l : Item} {ls : List Item} (d : items ≡ l ∷ ls) where
    pub bare_here : is_bare c l ≡ true → first_bare c n items ≡ refuse NeedsRelease n
    unfolding first_bare
    bare_here h = ap (first_bare c n) d ∙ if_true (is_bare c l) (refuse NeedsRelease n) (first_bare c (n + 1) ls) h

    pub bare_later : is_bare c l ≡ false → first_bare c n items ≡ first_bare c (n + 1) ls
    unfolding first_bare
    bare_later h = ap (first_bare c n) d ∙ if_false (is_bare c l) (refuse NeedsRelease n) (first_bare c (n + 1) ls) h

  pub bare_none : items ≡ [] → first_bare c n items ≡ none
  unfolding first_bare
  bare_none d = ap (first_bare c n) d
