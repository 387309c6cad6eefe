-- Those before this one are agents, or have ended.
use Rattle.tverdict.specs.declared.agent.Agent.TheVariants as agent
use Rattle.tverdict.specs.Stepping.{KeepsTold}
use Rattle.tverdict.proofs.Keeping.{AreMetFrom}
use Rattle.tverdict.proofs.machine.Machine.find_processes.Given as goal

abbrev pub invariant-loop-process : goal.invariant-loop-process
invariant-loop-process l = record {
  keeps : KeepsTold l.number l.node l.initial.self l.self;
  found : AreMetFrom (agent.Process l.node) l.first l.process l.self;
}
