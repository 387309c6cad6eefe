use Rattle.std.proofs.Common.{refl}
use Rattle.tproc.specs.Priorities.{number}
use Rattle.tproc.proofs.Quiet.{broken_does, scheduled_does}
use Rattle.tproc.proofs.engine.Engine.instruction_alone.Goals as goal

pub returns-in-Ok-Schedule-clause-done : goal.returns-in-Ok-Schedule-clause-done
returns-in-Ok-Schedule-clause-done c =
    scheduled_does (number c.args.priority) c.in-Ok.i c.in-Ok-Schedule.o c.args.self.now c.scheduled.new.self
    c.perform.new.state
    c.perform.new.claimed _ _ _ _ c.in-Ok.is c.fetch.ensures c.in-Ok-Schedule.is c.in-Ok-Schedule.field-0-is
    c.perform.ensures.begins c.in-Ok-Schedule.ensures.left c.perform.ensures.rest c.perform.ensures.claims
    c.scheduled.ensures

pub returns-in-Err-perform-clause-done : goal.returns-in-Err-perform-clause-done
returns-in-Err-perform-clause-done c =
    broken_does (number c.args.priority) c.in-Ok.i _ c.args.self.now c.perform.new.state c.perform.new.claimed _ _ _
    c.in-Ok.is
    c.fetch.ensures c.in-Err-perform.is c.perform.ensures.begins refl c.in-Err-perform.ensures.kept.1
    c.in-Err-perform.ensures.kept.0
