use Rattle.tcode.proofs.RoundTrip.{function_at-entry, operation_at-entry}
use Rattle.tcode.proofs.laws.each_has_its_code.Goals as goal

pub returns : goal.returns
returns c = record { functions = function_at-entry; operations = operation_at-entry }
