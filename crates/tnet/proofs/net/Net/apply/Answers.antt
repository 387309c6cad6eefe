use Rattle.tnet.proofs.Applying.{goes_on, stops, ends}
use Rattle.tnet.proofs.WireLaw.{wire_law}
use Rattle.tnet.proofs.net.Net.apply.Goals as goal

pub loop-place-preserved : goal.loop-place-preserved
loop-place-preserved c =
    goes_on c.loop-place.place c.args.events.now _ c.args.self.now c.loop-place.self c.does.new.self c.does.result
    c.loop-place-test.true c.loop-place.invariant c.does.ensures c.if-not-does.false

pub returns-then-not-does : goal.returns-then-not-does
returns-then-not-does c =
    let p = stops c.loop-place.place c.args.events.now _ c.args.self.now c.loop-place.self c.does.new.self c.does.result
    c.know_sound.ensures c.loop-place-test.true c.loop-place.invariant c.does.ensures c.if-not-does.true in
    record { told = p.0; left = p.1.all_done; run = p.1; wires = wire_law _ _ _ c.know_sound.ensures p.1.all_done }

pub returns : goal.returns
returns c =
    let p = ends c.loop-place.place c.args.events.now c.args.self.now c.loop-place.self c.know_sound.ensures
    c.loop-place-test.false c.loop-place.invariant in
    record { told = p.0; left = p.1.all_done; run = p.1; wires = wire_law _ _ _ c.know_sound.ensures p.1.all_done }
