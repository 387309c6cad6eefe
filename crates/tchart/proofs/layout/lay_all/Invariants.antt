use Rattle.std.proofs.Common.{◌≡◌, drop}
use Rattle.thistory.specs.Steps.{net_after}
use Rattle.tchart.specs.Layout.{laid_from}
use Rattle.tchart.proofs.layout.lay_all.Given as goal

-- the events that are left lead where all lead
abbrev pub invariant-loop-number : goal.invariant-loop-number
invariant-loop-number l = record {
  plot : laid_from l.number (drop l.number l.events) l.net l.plot ≡ laid_from 0 l.events l.initial.net l.initial.plot;
  left : net_after (drop l.number l.events) l.net ≡ net_after l.events l.initial.net;
}
