use Rattle.tcheck.proofs.FoundFaults.{fault_is_found}
use Rattle.tcheck.proofs.laws.the_fault_of_a_plan_is_found.Goals as goal

pub returns : goal.returns
returns c = fault_is_found
