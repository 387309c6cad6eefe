use Rattle.std.proofs.Common.{sym}
use Rattle.tcheck.proofs.Found.{found_as, found_none}
use Rattle.tcheck.proofs.Refusals.{was_added, was_refused}
use Rattle.tcheck.proofs.nodes.add_process_wrong.Goals as goal

pub returns-in-Ok : goal.returns-in-Ok
returns-in-Ok c =
    let did = was_added c.args.node c.args.number c.args.process.now _ _ _ _ c.add_process.ensures c.in-Ok.is in
    record {
      found = found_as _ _ (found_none c.args.found.now.items) (sym did.0);
      left = did.1;
    }

pub returns-in_ok-push-in-Err : goal.returns-in_ok-push-in-Err
returns-in_ok-push-in-Err c =
    let did = was_refused c.args.node c.args.number c.args.process.now _ _ _ _ _ c.add_process.ensures c.in-Err.is in
    record {
      found = found_as c.args.found.now.items _ c.in_ok-push-in-Err.ensures.items (sym did.0);
      left = did.1;
    }
