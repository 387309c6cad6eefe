-- Which plan a wiring and its images give.
-- Source: own choice.
use Rattle.std.specs.Prelude.{List, map, zip, Result}
use Rattle.tplan.specs.declared.plan.Image.{Image}
use Rattle.tplan.specs.declared.plan.NodePlan.{NodePlan}
use Rattle.tplan.specs.declared.plan.Plan.{Plan}
use Rattle.tplan.specs.declared.plan.BuildFault.{BuildFault}
use Rattle.tnet.specs.Net.{NetState}
use Rattle.tnet.specs.Building.{built}
use Rattle.tplan.specs.declared.wiring.Wiring.{Wiring}
use Rattle.tplan.specs.declared.wiring.WiringNode.{WiringNode}

-- a node with its image
abbrev pub node_of : WiringNode × Image → NodePlan
node_of p = record { memory = p.0.memory; kind = p.0.kind; image = p.1 }

-- each node has its own memory, kind and image, in the order of the wiring; wires, sources and sinks are the wiring's
unfoldable pub plan_of : Wiring → List Image → Plan
plan_of w images =
    record {
      timeslice = w.timeslice;
      nodes = map node_of (zip w.nodes images);
      wires = w.wires;
      sources = w.sources;
      sinks = w.sinks;
    }

-- the net of a wiring with one image for each node, or the lowest fault
abbrev pub net_of : Wiring → List Image → Result NetState BuildFault
net_of w images = built (plan_of w images)
