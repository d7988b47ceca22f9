-- `parties::element_after` meets its contract: the next element, twice. Assumes nothing.
use Rattle.parties.proofs.Finding.{element_again}
use Rattle.parties.proofs.element_after.Goals as goal

pub returns : goal.returns
returns c =
    element_again _ _ _ c.next_element.result c.next_element-2.result c.next_element.ensures c.next_element-2.ensures
