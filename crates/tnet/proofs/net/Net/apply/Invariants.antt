use Rattle.std.proofs.Common.{◌≡◌, take, Some}
use Rattle.tnet.specs.Packets.{after_events}
use Rattle.tnet.proofs.net.Net.apply.Given as goal

-- the events so far are done
abbrev pub invariant-loop-place : goal.invariant-loop-place
invariant-loop-place l = after_events (take l.place l.events) l.initial.self ≡ Some l.self
