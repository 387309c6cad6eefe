use Rattle.std.proofs.Common.{subst}
use Rattle.tcertify.specs.declared.node.Node.{Node}
use Rattle.tcertify.specs.Nodes.{Does, name_at, node_site, nothing}
use Rattle.tcertify.specs.Steps.{step_of_process}
use Rattle.tverdict.proofs.calls.do_process.Goals as goal

pub returns-in-One : goal.returns-in-One
returns-in-One c =
    let b = c.begin_or_go_on.new.node in let n = c.process_step.new.self in let r = c.process_step.result in
    record {
      begun = b;
      afresh = c.begin_or_go_on.ensures.afresh;
      recalls = c.begin_or_go_on.ensures.recalls;
      does = subst (λ (a : Node). Does (step_of_process (node_site a) (name_at a c.args.process)) nothing b r n)
          c.begin_or_go_on.ensures.afresh.same c.process_step.ensures.done;
    }

pub returns-in-Two : goal.returns-in-Two
returns-in-Two c =
    let b = c.begin_or_go_on.new.node in let n = c.process_step-in-Two.new.self in
    let r = c.process_step-in-Two.result in
    record {
      begun = b;
      afresh = c.begin_or_go_on.ensures.afresh;
      recalls = c.begin_or_go_on.ensures.recalls;
      does = subst (λ (a : Node). Does (step_of_process (node_site a) (name_at a c.args.process)) nothing b r n)
          c.begin_or_go_on.ensures.afresh.same c.process_step-in-Two.ensures.done;
    }
