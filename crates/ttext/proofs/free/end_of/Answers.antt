use Rattle.std.proofs.Common.{ap, Bool}
use Rattle.ttext.specs.declared.printed_run.RunEnd.TheVariants.{Turns}
use Rattle.ttext.proofs.GatheredWorkers.{quiet_as}
use Rattle.ttext.proofs.free.end_of.Goals as goal

pub returns : goal.returns
returns c =
    ap (λ (b : Bool). Turns b) (quiet_as c.quiet_is_nothing_enabled.ensures c.args.net.now c.requires
    c.is_quiet.result c.is_quiet.ensures)
