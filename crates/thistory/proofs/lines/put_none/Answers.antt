use Rattle.std.proofs.Common.{sym, ap, ◌∙◌}
use Rattle.tfiles.proofs.Told.{tells_as, tells_none}
use Rattle.thistory.specs.Lines.{none_text}
use Rattle.thistory.proofs.lines.put_none.Goals as goal

pub returns-in-Some : goal.returns-in-Some
returns-in-Some g c =
    tells_as (tells_none c.args.out.now) (ap none_text (sym c.in-Some.is ∙ c.current.ensures))

pub returns-in-None : goal.returns-in-None
returns-in-None g c = tells_as c.put.ensures (ap none_text (sym c.in-None.is ∙ c.current.ensures))
