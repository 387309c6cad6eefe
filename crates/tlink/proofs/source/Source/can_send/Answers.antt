use Rattle.tlink.specs.declared.event.NodeEvent.TheVariants.{Send}
use Rattle.tlink.proofs.Sources as source
use Rattle.tlink.proofs.source.Source.can_send.Goals as goal

pub returns-in_default : goal.returns-in_default
returns-in_default c = source.rests (Send 0) c.self.view_is (source.send_over _ _ _ _ _ (cc))

pub returns-then-acked-sent : goal.returns-then-acked-sent
returns-then-acked-sent c =
    source.rests (Send 0) c.self.view_is (source.send_early _ _ _ _ _ c.in-Some.length (cc) c.if-acked-sent.true)

pub returns : goal.returns
returns c =
    source.tells (Send 0) c.self.view_is (source.send_told _ _ _ _ _ c.in-Some.length (cc) c.if-acked-sent.false)
