use Rattle.std.proofs.Common.{subst}
use Rattle.tverdict.specs.declared.turn.Turn.{Turn}
use Rattle.tverdict.specs.declared.turn.Turn.TheVariants as turn
use Rattle.tverdict.specs.Turns.{IsTurned}
use Rattle.tverdict.proofs.Turned.{all_turned, one_turned}
use Rattle.tverdict.proofs.machine.Machine.turns.Goals as goal

pub returns-in-Made : goal.returns-in-Made
returns-in-Made c =
    let plan = c.args.plan.now in let old = c.args.self.now in let mid = c.turn.new.self in
    all_turned plan old mid c.go_further.new.self c.in-Made.number
    (subst (λ (t : Turn). IsTurned plan old t mid) c.in-Made.is c.in_ok-other.ensures) c.go_further.result
    c.go_further.ensures

pub returns-in_default : goal.returns-in_default
returns-in_default c =
    let plan = c.args.plan.now in let old = c.args.self.now in let mid = c.turn.new.self in
    one_turned plan old mid (turn.Made c.in-Made.number)
    (subst (λ (t : Turn). IsTurned plan old t mid) c.in-Made.is c.in_ok-other.ensures)
