use Rattle.std.proofs.Common.{rules}
use Rattle.tfree.specs.Turns.{IsTurn}
use Rattle.tfree.specs.Views.{Share}
use Rattle.tfree.proofs.Nexts.{clock_is_full}
use Rattle.tfree.proofs.worker.Worker.next_turn.Goals as goal

pub returns-in_err-turned-clause-full : goal.returns-in_err-turned-clause-full
returns-in_err-turned-clause-full c = λ e.
    clock_is_full c.turn.result (λ (s : Share). IsTurn s c.args.slice) c.loop-wait.self c.turn.new.self (search rules)
    c.turn.ensures.next

pub returns-in_err-last-clause-full : goal.returns-in_err-last-clause-full
returns-in_err-last-clause-full c = λ e.
    clock_is_full c.turn-2.result (λ (s : Share). IsTurn s c.args.slice) c.loop-wait.self c.turn-2.new.self
    (search rules) c.turn-2.ensures.next
