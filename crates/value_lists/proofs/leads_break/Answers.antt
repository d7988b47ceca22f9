-- `value_lists::leads_break` meets its contract: an empty value begins with nothing. Assumes nothing.
use Rattle.std.proofs.Common.{rules}
use Rattle.value_lists.proofs.Records.{leads_first}
use Rattle.value_lists.proofs.leads_break.Goals as goal

pub returns : goal.returns
returns c = leads_first c.args.value.now (search rules)
