use Rattle.std.proofs.Common.{◌≡◌, drop, length}
use Rattle.tfiles.proofs.Told.{GoesOn}
use Rattle.thistory.specs.Steps.{net_after}
use Rattle.thistory.specs.Watch.{watch_from}
use Rattle.thistory.proofs.watch.put_watch.Given as goal

-- what was told and what is left, where the net is led, and how much room there is
abbrev pub invariant-loop-number : goal.invariant-loop-number
invariant-loop-number g l = record {
  text : GoesOn g.W.Write.contents g.W.CountedWrite.failures l.initial.out l.out
      (watch_from l.place l.number (drop l.number l.events) l.net) (watch_from l.place 0 l.events l.initial.net);
  left : net_after (drop l.number l.events) l.net ≡ net_after l.events l.initial.net;
  before : length l.before ≡ l.place.length;
  after : length l.after ≡ l.place.length;
}
