use Rattle.tevents.proofs.Doing.{still_logged, goes_on, is_not_over, rests_there}
use Rattle.tevents.proofs.resting.rest.Goals as goal

pub returns-then-done-clause-logged : goal.returns-then-done-clause-logged
returns-then-done-clause-logged c =
    still_logged c.args.net.now c.loop-event.net c.do_event.new.net c.args.log.now.items c.loop-event.log.items
    c.do_event.new.log.items c.in-Some.event c.in_ok-done.done c.know_sound.ensures c.loop-event.invariant
    c.in_ok-done.ensures.done

pub returns-then-done-clause-rests : goal.returns-then-done-clause-rests
returns-then-done-clause-rests c =
    is_not_over c.args.net.now c.loop-event.net c.do_event.new.net c.args.log.now.items c.loop-event.log.items
    c.do_event.new.log.items c.in-Some.event c.in_ok-done.done c.know_sound.ensures c.loop-event.invariant
    c.in_ok-done.ensures.done c.if-done.true

pub loop-event-smaller : goal.loop-event-smaller
loop-event-smaller c =
    (goes_on c.args.net.now c.loop-event.net c.do_event.new.net c.args.log.now.items c.loop-event.log.items
    c.do_event.new.log.items c.in-Some.event c.in_ok-done.done c.know_sound.ensures c.loop-event.invariant
    c.in_ok-done.ensures.done c.if-done.false).1

pub loop-event-preserved : goal.loop-event-preserved
loop-event-preserved c =
    (goes_on c.args.net.now c.loop-event.net c.do_event.new.net c.args.log.now.items c.loop-event.log.items
    c.do_event.new.log.items c.in-Some.event c.in_ok-done.done c.know_sound.ensures c.loop-event.invariant
    c.in_ok-done.ensures.done c.if-done.false).0

pub returns-clause-rests : goal.returns-clause-rests
returns-clause-rests c =
    rests_there c.args.net.now c.loop-event.net c.args.log.now.items c.loop-event.log.items c.loop-event.invariant
    c.in_default.ensures
