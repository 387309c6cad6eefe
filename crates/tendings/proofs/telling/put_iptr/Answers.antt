use Rattle.std.proofs.Common.{◌∙◌, sym}
use Rattle.tfiles.proofs.Told.{tells_as, tells_none, tells_then}
use Rattle.tendings.proofs.Headings.{none_runs, some_runs}
use Rattle.tendings.proofs.telling.put_iptr.Goals as goal

pub returns-in-Some : goal.returns-in-Some
returns-in-Some g c =
    tells_as (tells_then c.put.ensures c.put_word.ensures)
    (some_runs c.args.processor.now.control _ _ c.iptr.ensures (sym c.current.ensures ∙ c.in-Some.is))

pub returns-in-None : goal.returns-in-None
returns-in-None g c =
    tells_as (tells_none c.args.out.now)
    (none_runs c.args.processor.now.control (sym c.current.ensures ∙ c.in-None.is))
