-- `table_soundness::fits` meets its contract, test by test. Assumes nothing.
use borrow.Author.Rules.{rules}
use mathlib.Core.Path.{◌≡◌, sym, ◌∙◌}
use mathlib.Core.Bool.{true, not, ◌||◌}
use Rattle.message_tables.specs.Soundness.{is_trigger}
use Rattle.table_rows.specs.Rows.{entry_in}
use Rattle.table_soundness.specs.Fitting.{stated}
use Rattle.table_soundness.proofs.Tests.{entry_unstated, entry_untriggered, entry_group, entry_segment}
use Rattle.table_soundness.proofs.fits.Goals as goal
use Rattle.table_soundness.proofs.fits.Goals.{then-is_stated, else-is_stated}

pub returns-then-is_group : goal.returns-then-is_group
returns-then-is_group c =
    let first : stated (entry_in c.args.row) ≡ true = search rules in
    let second : (not c.args.after || is_trigger (entry_in c.args.row)) ≡ true = search rules in
    c.group_fits.ensures ∙ entry_group _ _ _ _ first second (sym c.is_group.ensures ∙ c.if-is_group.true)

pub returns-else-is_group : goal.returns-else-is_group
returns-else-is_group c =
    let first : stated (entry_in c.args.row) ≡ true = search rules in
    let second : (not c.args.after || is_trigger (entry_in c.args.row)) ≡ true = search rules in
    c.segment_fits.ensures ∙ entry_segment _ _ _ _ first second (sym c.is_group.ensures ∙ c.if-is_group.false)

pub returns-else-triggers : goal.returns-else-triggers
returns-else-triggers c =
    elim c.if-is_stated.branch [
      | then-is_stated w ↦
          c.if-triggers.false
          ∙ entry_untriggered _ _ _ _ (sym c.is_stated.ensures ∙ w.if-is_stated.true)
          (sym w.triggers.ensures ∙ sym w.value-is ∙ c.if-triggers.false)
      | else-is_stated w ↦ c.if-triggers.false ∙ entry_unstated _ _ _ _ (sym c.is_stated.ensures ∙ w.if-is_stated.false)
    ]
