use Rattle.std.proofs.Common.{ap, sym}
use Rattle.tfiles.proofs.Told.{tells_as, tells_none}
use Rattle.twords.specs.declared.table.Show.{Show}
use Rattle.ttext.specs.PrintedRuns.{shown_net}
use Rattle.ttext.proofs.printed_run.put_shown.Goals as goal

pub returns-in-Nothing : goal.returns-in-Nothing
returns-in-Nothing g c =
    tells_as (tells_none c.args.out.now) (ap (λ (what : Show). shown_net what c.args.net.now) (sym c.in-Nothing.is))
