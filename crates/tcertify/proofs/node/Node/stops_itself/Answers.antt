use Rattle.std.proofs.lemmas.Result.{err_from_is_err_and}
use Rattle.tcertify.specs.Contexts.{context_of}
use Rattle.tcertify.specs.Words.{reason_of}
use Rattle.tcertify.proofs.Scheduling.{stops, stops_not}
use Rattle.tcertify.proofs.node.Node.stops_itself.Goals as goal

pub returns-in_err-store : goal.returns-in_err-store
returns-in_err-store c =
    let p = err_from_is_err_and c.from_residual.result c.from_residual.ensures.1 in
    rw (p.1, p.2)
    (stops_not c.args.self.now c.store.new.self c.args.process (context_of c.args.context.now)
    (reason_of c.in_err-store.field-0.0) (rw c.below.ensures at c.in_err-store.ensures))

pub returns : goal.returns
returns c =
    stops c.args.self.now c.store.new.self c.args.process (context_of c.args.context.now) _ _ c.requires
    (rw c.below.ensures at c.in_ok-store.ensures) c.ends.ensures
