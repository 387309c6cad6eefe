use Rattle.std.proofs.Common.{◌≡◌, ◌∙◌, ap, subst, Err, Result}
use Rattle.tcertify.specs.declared.fault.Fault.{Fault}
use Rattle.tcertify.specs.declared.fault.Fault.TheVariants.{Stops}
use Rattle.tcertify.specs.Words.{reason_of}
use Rattle.tverdict.specs.Stepping.{IsOutcome}
use Rattle.tverdict.proofs.Over.{answer_stops}
use Rattle.tverdict.proofs.machine.Machine.end_call.Goals as goal

pub returns-in-Stops-clause-stepped : goal.returns-in-Stops-clause-stepped
returns-in-Stops-clause-stepped c = λ plan o.
    let m = c.args.self.now in let before = c.args.before in let why = c.in-Stops.why in
    let e : c.args.outcome ≡ Err (Stops why) = c.in-Err.is ∙ ap Err c.in-Stops.is in
    answer_stops plan c.args.number (reason_of why) m
    (subst
    (λ (r : Result (Unit {0}) Fault). IsOutcome plan c.args.number c.args.node before.processes before.channels
    r m)
    e o)
