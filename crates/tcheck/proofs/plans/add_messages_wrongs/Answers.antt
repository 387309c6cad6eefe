use Rattle.tcheck.specs.Wrongs.{message_wrongs}
use Rattle.tcheck.proofs.Found.{each_more, each_done}
use Rattle.tcheck.proofs.plans.add_messages_wrongs.Goals as goal

pub loop-number-preserved : goal.loop-number-preserved
loop-number-preserved c =
    each_more (message_wrongs c.args.source) c.loop-number.number c.args.messages.now c.index-messages-number.result
    c.args.found.now.items
    c.loop-number.found.items _ c.loop-number-test.true c.index-messages-number.is c.loop-number.invariant
    c.in_ok-add_message_wrong.ensures

pub returns : goal.returns
returns c =
    each_done (message_wrongs c.args.source) c.loop-number.number c.args.messages.now c.args.found.now.items
    c.loop-number.found.items c.loop-number-test.false c.loop-number.invariant
