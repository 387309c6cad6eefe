use Rattle.std.proofs.Common.{◌≡◌, ◌+◌, ◌≤◌, drop}
use Rattle.thistory.specs.Steps.{own_count}
use Rattle.thistory.proofs.steps.own_count.Given as goal

-- those so far, and those that are left
abbrev pub invariant-loop-event : goal.invariant-loop-event
invariant-loop-event l = record {
  all : l.count + own_count l.node (drop l.event-index l.events) ≡ own_count l.node l.events;
  few : l.count ≤ l.event-index;
}
