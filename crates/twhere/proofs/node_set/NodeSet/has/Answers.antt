use Rattle.std.proofs.Common.{ℕ, ap}
use Rattle.std.specs.Prelude.{◌==◌}
use Rattle.std.proofs.lemmas.Nat.Bits.{shr_and_one}
use Rattle.twhere.proofs.node_set.NodeSet.has.Goals as goal

pub returns : goal.returns
returns c = ap (λ (b : ℕ). b == 1) (shr_and_one c.args.self.nodes c.args.node)
