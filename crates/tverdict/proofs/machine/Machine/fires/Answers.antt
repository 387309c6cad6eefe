use Rattle.std.proofs.Common.{Bool, Ok, subst}
use Rattle.tprocesses.specs.Choosing.{fires}
use Rattle.tprocesses.specs.Machine.{offers}
use Rattle.tprocesses.specs.Places.{Name}
use Rattle.tcertify.specs.Nodes.{nothing}
use Rattle.tverdict.specs.declared.agent.Agent.TheVariants as agent
use Rattle.tverdict.specs.Agents.{name_there}
use Rattle.tverdict.specs.Passing.{DoesHalf, RunsHalf}
use Rattle.tverdict.proofs.Crossed.{fire_all, fire_none}
use Rattle.tverdict.proofs.Grown.{goes_fits}
use Rattle.tverdict.proofs.Staying.{name_stays, there_stays}
use Rattle.tverdict.proofs.machine.Machine.fires.Goals as goal

pub returns-then-not-branch : goal.returns-then-not-branch
returns-then-not-branch c =
    let plan = c.args.plan.now in let m = c.args.self.now in let from = c.args.from in let to = c.args.to in
    fire_none plan from to (name_there m.nodes.items to.node c.args.process) m c.offers.new.self c.args.notes.now
    c.offers.new.notes
    (subst (λ (b : Bool). RunsHalf plan (offers plan from) from.node m c.args.notes.now (Ok b) c.offers.new.self
    c.offers.new.notes) c.if-not-branch.true c.in_ok-offers.ensures)

pub node_fires-requires : goal.node_fires-requires
node_fires-requires c =
    there_stays c.args.self.now.nodes.items c.offers.new.self.nodes.items c.in_ok-offers.ensures.goes.nodes
    (agent.Process c.args.to.node c.args.process) c.requires.there

pub returns : goal.returns
returns c =
    let plan = c.args.plan.now in let m = c.args.self.now in let from = c.args.from in let to = c.args.to in
    let k = c.args.process in let mid = c.offers.new.self in let goes = c.in_ok-offers.ensures.goes in
    fire_all plan from to (name_there m.nodes.items to.node k) m mid c.node_fires.new.self c.args.notes.now
    c.offers.new.notes c.offers.new.notes c.node_fires.result
    (subst (λ (b : Bool). RunsHalf plan (offers plan from) from.node m c.args.notes.now (Ok b) mid c.offers.new.notes)
    c.if-not-branch.false c.in_ok-offers.ensures)
    (subst (λ (x : Name). DoesHalf plan (fires to x) nothing to.node mid c.offers.new.notes c.node_fires.result
    c.node_fires.new.self c.offers.new.notes)
    (name_stays m.nodes.items mid.nodes.items goes.nodes to.node k c.requires.there)
    (c.node_fires.ensures plan c.offers.new.notes (goes_fits plan from.node m mid goes c.requires.fits)))
