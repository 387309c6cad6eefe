use Rattle.tcheck.proofs.FineHolds.{no_hold_is_refused}
use Rattle.tcheck.proofs.holds.hold_wrongs.Goals as goal

pub returns-clause-nothing : goal.returns-clause-nothing
returns-clause-nothing c = no_hold_is_refused c.args.holds.now

pub returns-in_err-add_hold_wrongs-clause-nothing : goal.returns-in_err-add_hold_wrongs-clause-nothing
returns-in_err-add_hold_wrongs-clause-nothing c = no_hold_is_refused c.args.holds.now
