use Rattle.std.proofs.Common.{sym, ap, ◌∙◌}
use Rattle.tfiles.proofs.Told.{tells_as, tells_none}
use Rattle.twhere.specs.Standing.{interrupted_facts}
use Rattle.twhere.proofs.processes.put_interrupted.Goals as goal

pub returns-in-Some : goal.returns-in-Some
returns-in-Some g c =
    tells_as c.put_process.ensures
    (ap (interrupted_facts c.args.processor.now) (sym c.in-Some.is ∙ c.interrupted.ensures))

pub returns-in_default : goal.returns-in_default
returns-in_default g c =
    tells_as (tells_none c.args.out.now)
    (ap (interrupted_facts c.args.processor.now) (sym c.in_default.is ∙ c.interrupted.ensures))
