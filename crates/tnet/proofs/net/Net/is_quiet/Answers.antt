use Rattle.tnet.specs.NetParts.{net_of_parts}
use Rattle.tnet.proofs.Quietness.{quiet_meant}
use Rattle.tnet.proofs.net.Net.is_quiet.Goals as goal

pub returns : goal.returns
returns c =
    rw (← c.self.view_is) (quiet_meant (net_of_parts c.self.inside.parts) c.is_quiet.result c.self.invariant
    c.is_quiet.ensures)
