use Rattle.std.proofs.Common.{sym, ap}
use Rattle.tfiles.proofs.Told.{tells_as, tells_then}
use Rattle.twhere.specs.declared.stuck.Who.{Who}
use Rattle.twhere.specs.Standing.{who_text}
use Rattle.twhere.proofs.stuck.put_who.Goals as goal

pub returns-in-Process : goal.returns-in-Process
returns-in-Process g c =
    tells_as (tells_then c.put_word.ensures c.put_numbered.ensures)
    (ap (λ (w : Who). who_text w c.args.number) (sym c.in-Process.is))
