use Rattle.std.proofs.Common.{◌∙◌, arith, rules}
use Rattle.tfree.proofs.Nexts.{at_some_fault, fault_of, next_node}
use Rattle.tfree.proofs.Phases.{not_ok, turn_stops, turn_more}
use Rattle.tfree.proofs.worker.Worker.nodes_turn.Goals as goal

pub returns-in_err-node_turn-clause-phase : goal.returns-in_err-node_turn-clause-phase
returns-in_err-node_turn-clause-phase c =
    turn_stops c.args.self.now c.loop-i.self c.node_turn.new.self c.args.slice c.loop-i.i _
    (not_ok _ (c.from_residual.ensures.0)) (omega (arith, c.nodes-i-end.ensures, c.loop-i-test.true))
    c.loop-i.invariant.same c.loop-i.invariant.done c.in_err-node_turn.ensures.phase

pub loop-i-preserved : goal.loop-i-preserved
loop-i-preserved c = record {
  same = c.in_ok-node_turn.ensures.phase.0 ∙ c.loop-i.invariant.same;
  done = turn_more c.args.self.now c.loop-i.self c.node_turn.new.self c.args.slice c.loop-i.i c.loop-i.invariant.same
      c.loop-i.invariant.done c.in_ok-node_turn.ensures.phase;
}

pub returns-in_err-node_turn-clause-next : goal.returns-in_err-node_turn-clause-next
returns-in_err-node_turn-clause-next c =
    at_some_fault c.from_residual.result _
    (λ f e. next_node c.args.self.now c.loop-i.self c.node_turn.new.self c.args.slice c.loop-i.i f
    (omega (arith, c.nodes-i-end.ensures, c.loop-i-test.true)) c.loop-i.invariant.same c.loop-i.invariant.done
    (fault_of c.node_turn.result f _ (search rules) c.node_turn.ensures.next))
