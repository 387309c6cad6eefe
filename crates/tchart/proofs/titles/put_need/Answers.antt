use Rattle.std.proofs.Common.{ap, decimal, sym}
use Rattle.tfiles.proofs.Told.{tells_as, tells_then}
use Rattle.tchart.specs.Titles.{need_text}
use Rattle.tchart.proofs.titles.put_need.Goals as goal

pub returns-in-Receives : goal.returns-in-Receives
returns-in-Receives g c =
    tells_as (tells_then c.put.ensures c.put_word.ensures) (ap need_text (sym c.in-Receives.is))

pub returns-in-Sends : goal.returns-in-Sends
returns-in-Sends g c =
    tells_as (tells_then c.put-in-Sends.ensures c.put_word-in-Sends.ensures) (ap need_text (sym c.in-Sends.is))

pub returns-in-Input : goal.returns-in-Input
returns-in-Input g c =
    tells_as
    (tells_then c.put-in-Input.ensures (tells_as c.put_decimal.ensures (ap decimal c.from.ensures)))
    (ap need_text (sym c.in-Input.is))

pub returns-in-Output : goal.returns-in-Output
returns-in-Output g c =
    tells_as
    (tells_then c.put-in-Output.ensures
    (tells_as c.put_decimal-in-Output.ensures (ap decimal c.from-in-Output.ensures)))
    (ap need_text (sym c.in-Output.is))

pub returns-in-Alternative : goal.returns-in-Alternative
returns-in-Alternative g c = tells_as c.put-in-Alternative.ensures (ap need_text (sym c.in-Alternative.is))
