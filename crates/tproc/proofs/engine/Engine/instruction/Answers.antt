use Rattle.std.proofs.Common.{refl}
use Rattle.std.proofs.lemmas.Result.{err_from_is_err_and}
use Rattle.tproc.specs.Priorities.{number}
use Rattle.tproc.proofs.Quiet.{broken_does, scheduled_does}
use Rattle.tproc.proofs.engine.Engine.instruction.Goals as goal

pub returns-in-Ok : goal.returns-in-Ok
returns-in-Ok c =
    scheduled_does (number c.args.priority) c.in_ok-i.i c.in-Schedule.o c.args.self.now c.scheduled.new.self
    c.perform.new.state
    c.perform.new.claimed _ _ _ _ c.in_ok-i.was c.fetch.ensures c.in_ok-perform.was c.in-Schedule.is
    c.perform.ensures.begins c.in_ok-perform.ensures.left c.perform.ensures.rest c.perform.ensures.claims
    c.in-Ok.ensures

pub returns-in-Err : goal.returns-in-Err
returns-in-Err c =
    scheduled_does (number c.args.priority) c.in_ok-i.i c.in-Schedule.o c.args.self.now c.scheduled.new.self
    c.perform.new.state
    c.perform.new.claimed _ _ _ _ c.in_ok-i.was c.fetch.ensures c.in_ok-perform.was c.in-Schedule.is
    c.perform.ensures.begins c.in_ok-perform.ensures.left c.perform.ensures.rest c.perform.ensures.claims
    c.in-Err.ensures

pub returns-in_err-perform : goal.returns-in_err-perform
returns-in_err-perform c =
    let p = err_from_is_err_and c.from_residual-in_err-perform.result c.from_residual-in_err-perform.ensures.1 in
    broken_does (number c.args.priority) c.in_ok-i.i _ c.args.self.now c.perform.new.state c.perform.new.claimed _ _ _
    c.in_ok-i.was
    c.fetch.ensures c.in_err-perform.was c.perform.ensures.begins (rw (p.1, p.2) refl) c.in_err-perform.ensures.kept.1
    c.in_err-perform.ensures.kept.0
