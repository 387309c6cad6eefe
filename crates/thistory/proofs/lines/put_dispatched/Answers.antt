use Rattle.std.proofs.Common.{sym, ap, Option, ◌++◌}
use Rattle.std.specs.Prelude.{codes, option_copied}
use Rattle.tproc.specs.Machine.{Machine}
use Rattle.tfiles.proofs.Told.{tells_as, tells_then}
use Rattle.thistory.specs.Lines.{process_text}
use Rattle.thistory.proofs.lines.put_dispatched.Goals as goal

pub returns-in-Some : goal.returns-in-Some
returns-in-Some g c =
    tells_as (tells_then c.put.ensures c.put_current.ensures)
    (ap (λ (m : Option Machine). codes " run  " ++ process_text m) (ap option_copied (sym c.in-Some.is)))

pub returns-in-None : goal.returns-in-None
returns-in-None g c =
    tells_as (tells_then c.put.ensures c.put-in-None.ensures)
    (ap (λ (m : Option Machine). codes " run  " ++ process_text m) (ap option_copied (sym c.in-None.is)))
