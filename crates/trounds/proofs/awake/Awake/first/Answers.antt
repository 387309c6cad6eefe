use Rattle.std.proofs.Common.{refl, rules}
use Rattle.trounds.proofs.AwakeBits.{below_lowest, lowest}
use Rattle.trounds.proofs.awake.Awake.first.Goals as goal

pub returns : goal.returns
returns c = record {
  passed = below_lowest c.args.self.nodes (search rules);
  same = λ n from. refl;
  found = lowest c.args.self.nodes (search rules);
}
