use Rattle.std.proofs.Common.{Ok, [], take}
use Rattle.toml.specs.View.{items_view}
use Rattle.twiring.specs.Wirings.{IsWiringAnswer}
use Rattle.twiring.specs.WiringParts.{message_in, more_in}
use Rattle.twiring.proofs.wiring.messages.Given as goal

-- what was found is what the messages so far stand for
abbrev pub invariant-loop-value : goal.invariant-loop-value
invariant-loop-value l =
    IsWiringAnswer (more_in message_in (Ok []) (items_view (take l.value-index l.array))) l.found
