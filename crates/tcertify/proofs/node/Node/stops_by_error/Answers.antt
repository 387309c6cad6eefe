use Rattle.tcertify.specs.Contexts.{context_of}
use Rattle.tcertify.proofs.Scheduling.{stops_never, stops_so}
use Rattle.tcertify.proofs.node.Node.stops_by_error.Goals as goal

pub returns-then-sees_error : goal.returns-then-sees_error
returns-then-sees_error c =
    stops_so c.args.self.now c.sees_error.new.self c.args.process (context_of c.args.context.now) c.sees_error.result
    c.sees_error.ensures _ c.requires _ c.if-sees_error.true c.stops_itself.ensures

pub returns : goal.returns
returns c =
    stops_never c.args.self.now c.sees_error.new.self c.args.process (context_of c.args.context.now)
    c.sees_error.result c.sees_error.ensures _ c.requires c.if-sees_error.false c.goes_on.ensures
