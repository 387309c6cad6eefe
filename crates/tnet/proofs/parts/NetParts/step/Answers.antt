use Rattle.std.proofs.Common.{arith}
use Rattle.tnet.specs.NetParts.{net_of_parts}
use Rattle.tnet.proofs.Stepping.{nobody}
use Rattle.tnet.proofs.parts.NetParts.step.Goals as goal

pub returns-then-place-len : goal.returns-then-place-len
returns-then-place-len c = nobody c.args.event (net_of_parts c.args.self.now) (omega arith)
