use Rattle.std.proofs.Common.{◌≡◌, ◌++◌, drop}
use Rattle.tcheck.specs.Wrongs.{each_from, message_wrongs}
use Rattle.tcheck.proofs.plans.add_messages_wrongs.Given as goal

-- what was found, and what is left
abbrev pub invariant-loop-number : goal.invariant-loop-number
invariant-loop-number l =
    l.found.items ++ each_from (message_wrongs l.source) l.number (drop l.number l.messages)
    ≡ l.initial.found.items ++ each_from (message_wrongs l.source) 0 l.messages
