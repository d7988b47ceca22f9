-- The tests of an entry, in the order in which the code makes them. Assumes nothing.
use Rattle.std.specs.Prelude.{if◌then◌else◌}
use Prim.Native.Nat.{ℕ}
use mathlib.Core.Path.{◌≡◌, sym, ap, ◌∙◌}
use mathlib.Core.Bool.{Bool, true, false, not, ◌&&◌, ◌||◌}
use Rattle.message_tables.specs.Entries.{Entry, is_group}
use Rattle.message_tables.specs.Soundness.{segment_fits, is_trigger}
use Rattle.table_soundness.specs.Fitting.{stated, group_fits_within, fits_within}

-- ---- any entry

module _ (after : Bool) (depth room : ℕ) (e : Entry) where
  abbrev triggered : Bool
  triggered = not after || is_trigger e

  abbrev own : Bool
  own = if is_group e then group_fits_within depth room e.under else segment_fits e

  pub entry_unstated : stated e ≡ false → false ≡ fits_within after depth room e
  unfolding fits_within
  entry_unstated h = sym (ap (λ (t : Bool). t && triggered && own) h)

  pub entry_untriggered : stated e ≡ true → triggered ≡ false → false ≡ fits_within after depth room e
  unfolding fits_within
  entry_untriggered h k = sym (ap (λ (t : Bool). t && triggered && own) h ∙ ap (λ (t : Bool). t && own) k)

  module _ (h : stated e ≡ true) (k : triggered ≡ true) where
    own_decides : own ≡ fits_within after depth room e
    unfolding fits_within
    own_decides = sym (ap (λ (t : Bool). t && triggered && own) h ∙ ap (λ (t : Bool). t && own) k)

    pub entry_group : is_group e ≡ true → group_fits_within depth room e.under ≡ fits_within after depth room e
    entry_group g = sym (ap (λ (t : Bool). if t then group_fits_within depth room e.under else segment_fits e) g) ∙ own_decides

    pub entry_segment : is_group e ≡ false → segment_fits e ≡ fits_within after depth room e
    entry_segment g = sym (ap (λ (t : Bool). if t then group_fits_within depth room e.under else segment_fits e) g) ∙ own_decides
