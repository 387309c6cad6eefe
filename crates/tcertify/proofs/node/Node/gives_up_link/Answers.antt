use Rattle.std.proofs.Common.{ℕ, Ok}
use Rattle.tprocesses.specs.Changes.{Put}
use Rattle.tprocesses.specs.Choosing as spec
use Rattle.tprocesses.specs.Parts.{Doing, change}
use Rattle.tprocesses.specs.Places.{Name}
use Rattle.tprocesses.specs.Touching.{Site}
use Rattle.tprocesses.specs.Values.{Empty, IsLink}
use Rattle.tcertify.specs.Nodes.{node_site}
use Rattle.tcertify.proofs.Following.{runs_then}
use Rattle.tcertify.proofs.node.Node.gives_up_link.Goals as goal

-- what follows
abbrev drops : (channel : ℕ) → Site → Name → Unit {0} → Doing
drops channel s x _ = spec.changes_ports x (spec.without_port channel)

pub returns : goal.returns
returns c =
    let a = c.args.self.now in let k = c.args.process in let ch : ℕ = c.args.channel in
    runs_then a c.sets_input.new.self c.drops_port.new.self k
    (change (spec.input_of (node_site a) ch) (Put (IsLink Empty))) (drops ch) tt c.sets_input.ensures.sets
    c.requires.there (Ok tt) c.drops_port.ensures
