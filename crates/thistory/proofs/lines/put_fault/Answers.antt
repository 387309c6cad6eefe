use Rattle.std.proofs.Common.{sym, ap}
use Rattle.tfiles.proofs.Told.{tells_as, tells_none}
use Rattle.thistory.specs.Lines.{fault_text}
use Rattle.thistory.proofs.lines.put_fault.Goals as goal

pub returns-in-NotEnabled : goal.returns-in-NotEnabled
returns-in-NotEnabled g c = tells_as (tells_none c.args.out.now) (ap fault_text (sym c.in-NotEnabled.is))
