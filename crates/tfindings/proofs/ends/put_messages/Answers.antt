use Rattle.std.proofs.Common.{ap, flat_map}
use Rattle.tfiles.proofs.LeftText.{flat_map-next, flat_map-end}
use Rattle.tfiles.proofs.Told.{tells_as, goes_on-start, goes_on-next, goes_on-end}
use Rattle.tfindings.specs.Ends.{kept_line}
use Rattle.tfindings.proofs.ends.put_messages.Goals as goal

pub loop-message-init : goal.loop-message-init
loop-message-init g c = goes_on-start _ (flat_map (λ m. kept_line m.items) c.args.messages.now)

pub loop-message-preserved : goal.loop-message-preserved
loop-message-preserved g c =
    goes_on-next _ _ c.loop-message.invariant
    (flat_map-next (λ m. kept_line m.items) c.args.messages.now c.loop-message.message-index c.message-item.result
    c.loop-message-test.true) (tells_as c.put_kept.ensures (ap (λ m. kept_line m.items) c.message-item.is))

pub returns : goal.returns
returns g c =
    goes_on-end c.loop-message.invariant
    (flat_map-end (λ m. kept_line m.items) c.args.messages.now c.loop-message.message-index
    c.loop-message-test.false)
