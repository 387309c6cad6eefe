use Rattle.std.proofs.Common.{ℕ, None, Ok, Option, Some, subst}
use Rattle.std.specs.Prelude.{IfSome, option_map}
use Rattle.std.proofs.lemmas.Result.{err_from_is_err_and}
use Rattle.tprocesses.specs.Machine.{asks, crosses, role_at}
use Rattle.tprocesses.specs.Places.{Name}
use Rattle.tverdict.specs.declared.agent.Agent.TheVariants as agent
use Rattle.tverdict.specs.Agents.{HasProcess, name_there}
use Rattle.tverdict.specs.Passing.{RunsHalf}
use Rattle.tverdict.specs.Wired.{DoesAtTwo}
use Rattle.tverdict.proofs.Crossed.{cross_all, cross_err}
use Rattle.tverdict.proofs.Grown.{goes_fits}
use Rattle.tverdict.proofs.Staying.{name_stays, there_stays}
use Rattle.tverdict.proofs.machine.Machine.crosses.Goals as goal

pub returns-in_err-process : goal.returns-in_err-process
returns-in_err-process c =
    let plan = c.args.plan.now in let m = c.args.self.now in let to = c.args.to in let notes = c.args.notes.now in
    let p = err_from_is_err_and c.from_residual.result c.from_residual.ensures.1 in
    rw (p.1, p.2)
    (cross_err plan c.args.from to (option_map (name_there m.nodes.items to.node)) m c.asks.new.self notes notes
    c.in_err-process.field-0.0 (c.in_err-process.ensures.asks plan notes c.requires))

pub fires-requires-clause-fits : goal.fires-requires-clause-fits
fires-requires-clause-fits c =
    goes_fits c.args.plan.now c.args.to.node c.args.self.now c.asks.new.self
    (c.in_ok-process.ensures.asks c.args.plan.now c.args.notes.now c.requires).goes c.requires

pub fires-requires-clause-there : goal.fires-requires-clause-there
fires-requires-clause-there c =
    there_stays c.args.self.now.nodes.items c.asks.new.self.nodes.items
    (c.in_ok-process.ensures.asks c.args.plan.now c.args.notes.now c.requires).goes.nodes
    (agent.Process c.args.to.node c.in-Some.process)
    (subst (λ (o : Option ℕ). IfSome o (λ k. HasProcess c.args.self.now.nodes.items c.args.to.node k)) c.in-Some.is
    c.in_ok-process.ensures.there)

pub pass-requires : goal.pass-requires
pass-requires c =
    goes_fits c.args.plan.now c.args.to.node c.args.self.now c.asks.new.self
    (c.in_ok-process.ensures.asks c.args.plan.now c.args.notes.now c.requires).goes c.requires

pub returns-in-Some : goal.returns-in-Some
returns-in-Some c =
    let plan = c.args.plan.now in let m = c.args.self.now in let from = c.args.from in let to = c.args.to in
    let notes = c.args.notes.now in let mid = c.asks.new.self in let k = c.in-Some.process in
    let first = c.in_ok-process.ensures.asks plan notes c.requires in
    let there = subst (λ (o : Option ℕ). IfSome o (λ j. HasProcess m.nodes.items to.node j)) c.in-Some.is
    c.in_ok-process.ensures.there in
    cross_all plan from to m mid c.fires.new.self notes notes c.fires.new.notes
    (Some (name_there m.nodes.items to.node k)) c.fires.result
    (subst (λ (o : Option ℕ). RunsHalf plan (asks (role_at plan to.node) to) to.node m notes
    (Ok (option_map (name_there m.nodes.items to.node) o)) mid notes) c.in-Some.is first)
    (subst (λ (x : Name). DoesAtTwo plan (crosses plan from to (Some x)) from.node to.node mid notes c.fires.result
    c.fires.new.self c.fires.new.notes)
    (name_stays m.nodes.items mid.nodes.items first.goes.nodes to.node k there) c.fires.ensures)

pub returns-in-None : goal.returns-in-None
returns-in-None c =
    let plan = c.args.plan.now in let m = c.args.self.now in let from = c.args.from in let to = c.args.to in
    let notes = c.args.notes.now in let mid = c.asks.new.self in
    cross_all plan from to m mid c.pass.new.self notes notes c.pass.new.notes None c.pass.result
    (subst (λ (o : Option ℕ). RunsHalf plan (asks (role_at plan to.node) to) to.node m notes
    (Ok (option_map (name_there m.nodes.items to.node) o)) mid notes) c.in-None.is
    (c.in_ok-process.ensures.asks plan notes c.requires)) c.pass.ensures
