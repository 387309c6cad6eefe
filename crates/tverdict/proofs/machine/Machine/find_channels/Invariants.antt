-- Those before this one are agents.
use Rattle.tverdict.specs.declared.agent.Agent.TheVariants as agent
use Rattle.tverdict.specs.Stepping.{KeepsTold}
use Rattle.tverdict.proofs.Keeping.{AreMetFrom}
use Rattle.tverdict.proofs.machine.Machine.find_channels.Given as goal

abbrev pub invariant-loop-channel : goal.invariant-loop-channel
invariant-loop-channel l = record {
  keeps : KeepsTold l.number l.node l.initial.self l.self;
  found : AreMetFrom (agent.Channel l.node) l.first l.channel l.self;
}
