use Rattle.tclocks.proofs.Passing.{begins}
use Rattle.tclocks.proofs.laws.checks_begin.Goals as goal

pub returns : goal.returns
returns g c m accesses numbers numbered = record {
  table = λ p k a. 0;
  follows = begins m accesses numbers numbered;
}
