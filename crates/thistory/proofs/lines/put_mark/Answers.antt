use Rattle.std.proofs.Common.{sym, ap}
use Rattle.tfiles.proofs.Told.{tells_as, tells_none}
use Rattle.thistory.specs.Lines.{mark_text}
use Rattle.thistory.proofs.lines.put_mark.Goals as goal

pub returns-in-Nothing : goal.returns-in-Nothing
returns-in-Nothing g c = tells_as (tells_none c.args.out.now) (ap mark_text (sym c.in-Nothing.is))
