use Rattle.tprocesses.specs.Changes.{Put}
use Rattle.tprocesses.specs.Choosing.{with_port}
use Rattle.tprocesses.specs.Parts.{change, see}
use Rattle.tprocesses.specs.Places.{Ports}
use Rattle.tprocesses.specs.Values.{ArePorts, Value, ports_in}
use Rattle.tcertify.specs.Nodes.{name_at, nothing, ports_at}
use Rattle.tcertify.proofs.Following.{does_then}
use Rattle.tcertify.proofs.NodePorts.{ports_same}
use Rattle.tcertify.proofs.node.Node.adds_port.Goals as goal

pub returns : goal.returns
returns c =
    let a = c.args.self.now in let b = c.sees_ports.new.self in
    does_then a b c.puts_port.new.self c.args.process (see (Ports (name_at a c.args.process)))
    (λ s x (v : Value). change (Ports x) (Put (ArePorts (with_port c.args.channel (ports_in v)))))
    (ArePorts (ports_at a c.args.process)) c.sees_ports.ensures.looks c.requires nothing c.puts_port.result
    (rw (ports_same a b c.args.process c.sees_ports.ensures.processes) at c.puts_port.ensures)
