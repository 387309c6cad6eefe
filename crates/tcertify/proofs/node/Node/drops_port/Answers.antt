use Rattle.std.proofs.Common.{Ok}
use Rattle.tprocesses.specs.Changes.{Put}
use Rattle.tprocesses.specs.Choosing.{without_port}
use Rattle.tprocesses.specs.Parts.{change, see}
use Rattle.tprocesses.specs.Places.{Ports}
use Rattle.tprocesses.specs.Values.{ArePorts, Value, ports_in}
use Rattle.tcertify.specs.Nodes.{name_at, ports_at}
use Rattle.tcertify.proofs.Following.{runs_then}
use Rattle.tcertify.proofs.NodePorts.{ports_same}
use Rattle.tcertify.proofs.node.Node.drops_port.Goals as goal

pub returns : goal.returns
returns c =
    let a = c.args.self.now in let b = c.sees_ports.new.self in
    runs_then a b c.puts_no_port.new.self c.args.process (see (Ports (name_at a c.args.process)))
    (λ s x (v : Value). change (Ports x) (Put (ArePorts (without_port c.args.channel (ports_in v)))))
    (ArePorts (ports_at a c.args.process)) c.sees_ports.ensures.looks c.requires (Ok tt)
    (rw (ports_same a b c.args.process c.sees_ports.ensures.processes) at c.puts_no_port.ensures)
