use Rattle.std.proofs.Common.{subst}
use Rattle.tprocesses.specs.Scheduling.{successor_step}
use Rattle.tcertify.specs.declared.node.Node.{Node}
use Rattle.tcertify.specs.Nodes.{Does, node_site, nothing}
use Rattle.tverdict.proofs.calls.do_successor.Goals as goal

pub returns : goal.returns
returns c =
    let b = c.begin.new.node in let n = c.successor_step.new.self in let r = c.successor_step.result in
    record {
      begun = b;
      afresh = c.begin.ensures.afresh;
      recalls = c.begin.ensures.recalls;
      does = subst (λ (a : Node). Does (successor_step c.args.word (node_site a)) nothing b r n)
          c.begin.ensures.afresh.same c.successor_step.ensures;
    }
