use Rattle.std.proofs.Common.{◌≡◌, ◌<◌, ◌∙◌, arith, length, refl, subst, sym, List}
use Rattle.std.proofs.lemmas.Option.{same_Some, slice_get_read}
use Rattle.tcertify.specs.declared.node.Node.{Node}
use Rattle.tverdict.specs.declared.agent.Agent.TheVariants as agent
use Rattle.tverdict.specs.Agents.{HasProcess}
use Rattle.tverdict.proofs.Keeping.{is_met, keeps_twice, met_next, told_met}
use Rattle.tverdict.proofs.machine.Machine.find_processes.Goals as goal

pub loop-process-preserved : goal.loop-process-preserved
loop-process-preserved c =
    let m = c.args.self.now in let before = c.loop-process.self in let after = c.meet.new.self in
    let n = c.args.node in let k = c.in-Ok.process in let at = c.index.result.now in
    let e : k ≡ c.loop-process.process = c.in-Ok.ensures.1 in
    let has : HasProcess m.nodes.items n k = (
      at,
      slice_get_read m.nodes.items (length m.nodes.items) n at refl c.requires.node
          c.index.ensures,
      omega (arith, e, c.loop-process-test.true, c.len-process-end.ensures),
    ) in
    let meets = c.in_ok-meet.ensures in
    let met = told_met before after (agent.Process n k) meets c.args.number n
    (subst (λ (ns : List Node). HasProcess ns n k) (sym c.loop-process.invariant.keeps.more.nodes) has) in
    record {
      keeps = keeps_twice c.args.number n m before after c.loop-process.invariant.keeps met;
      found = met_next (agent.Process n) c.args.first c.loop-process.process k before after e met.more
          c.loop-process.invariant.found (is_met before after (agent.Process n k) meets);
    }

pub returns-clause-found : goal.returns-clause-found
returns-clause-found c = λ k low has.
    let m = c.args.self.now in let n = c.args.node in let at = c.index.result.now in
    let there = slice_get_read m.nodes.items (length m.nodes.items) n at refl
    c.requires.node c.index.ensures in
    let (x, by, within) = subst (λ (ns : List Node). HasProcess ns n k) c.loop-process.invariant.keeps.more.nodes has in
    let high : k < length at.processes.items.items =
    subst (λ (a : Node). k < length a.processes.items.items) (same_Some x at (sym by ∙ there)) within in
    c.loop-process.invariant.found k low (omega (arith, high, c.len-process-end.ensures, c.loop-process-test.false))
