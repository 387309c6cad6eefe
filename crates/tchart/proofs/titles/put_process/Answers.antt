use Rattle.std.proofs.Common.{ap, sym}
use Rattle.tfiles.proofs.Told.{tells_as, tells_none, tells_then}
use Rattle.tchart.specs.Titles.{process_text}
use Rattle.tchart.proofs.titles.put_process.Goals as goal

pub returns-in-Some : goal.returns-in-Some
returns-in-Some g c = tells_as (tells_then c.put.ensures c.put_word.ensures) (ap process_text (sym c.in-Some.is))

pub returns-in_default : goal.returns-in_default
returns-in_default g c = tells_as (tells_none c.args.out.now) (ap process_text (sym c.in_default.is))
