-- `import_columns::import_columns` meets its contract: a refusal of what was tried clears the output. Assumes nothing.
use Rattle.columns.specs.Operations.{imports, import_output}
use Rattle.write.proofs.Writing.{finished}
use Rattle.import_columns.proofs.import_columns.Goals as goal

pub returns : goal.returns
unfolding imports import_output
returns c = finished c.try_import-tried.result c.cleared.result c.try_import-tried.ensures c.cleared.ensures
