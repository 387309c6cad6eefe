use Rattle.std.proofs.Common.{sym, ap}
use Rattle.tfiles.proofs.Told.{tells_as, tells_then}
use Rattle.twhere.specs.Standing.{reason_text}
use Rattle.twhere.proofs.waiting.put_reason.Goals as goal

pub returns-in-Receives : goal.returns-in-Receives
returns-in-Receives g c =
    tells_as (tells_then c.put.ensures c.put_channel.ensures)
    (ap (reason_text c.args.at.now.net.now c.args.at.now.number c.args.at.now.node.now) (sym c.in-Receives.is))

pub returns-in-Sends : goal.returns-in-Sends
returns-in-Sends g c =
    tells_as (tells_then c.put-in-Sends.ensures c.put_channel-in-Sends.ensures)
    (ap (reason_text c.args.at.now.net.now c.args.at.now.number c.args.at.now.node.now) (sym c.in-Sends.is))

pub returns-in-LinkInput : goal.returns-in-LinkInput
returns-in-LinkInput g c =
    tells_as c.put_link_input.ensures
    (ap (reason_text c.args.at.now.net.now c.args.at.now.number c.args.at.now.node.now) (sym c.in-LinkInput.is))

pub returns-in-LinkOutput : goal.returns-in-LinkOutput
returns-in-LinkOutput g c =
    tells_as c.put_link_output.ensures
    (ap (reason_text c.args.at.now.net.now c.args.at.now.number c.args.at.now.node.now) (sym c.in-LinkOutput.is))

pub returns-in-Chooses : goal.returns-in-Chooses
returns-in-Chooses g c =
    tells_as c.put-in-Chooses.ensures
    (ap (reason_text c.args.at.now.net.now c.args.at.now.number c.args.at.now.node.now) (sym c.in-Chooses.is))
