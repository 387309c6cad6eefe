use Rattle.std.proofs.Common.{◌≡◌, drop}
use Rattle.tfiles.proofs.Told.{GoesOn}
use Rattle.thistory.specs.Steps.{net_after, own_count, steps_from, steps_text}
use Rattle.thistory.proofs.steps.put_steps.Given as goal

-- what was told and what is left, how many of the node's events are left, and where the net is led
abbrev pub invariant-loop-number : goal.invariant-loop-number
invariant-loop-number g l = record {
  text : GoesOn g.W.Write.contents g.W.CountedWrite.failures l.initial.out l.out
      (steps_from l.asked l.number (drop l.number l.events) l.net) (steps_text l.asked l.events l.initial.net);
  count : l.behind ≡ own_count l.asked.node (drop l.number l.events);
  left : net_after (drop l.number l.events) l.net ≡ net_after l.events l.initial.net;
}
