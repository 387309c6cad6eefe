use Rattle.tlink.proofs.Sources as source
use Rattle.tlink.proofs.Sinks as sink
use Rattle.tlink.proofs.sink.Sink.step.Goals as goal

pub returns-else-link-eq0 : goal.returns-else-link-eq0
returns-else-link-eq0 c =
    source.refuses _ c.self.view_is (sink.alone _ _ _ _ _ (λ b last q. c.if-link-eq0.false (cc)) (λ q. cc))

pub returns-else-link-eq0-2 : goal.returns-else-link-eq0-2
returns-else-link-eq0-2 c =
    source.refuses _ c.self.view_is (sink.alone _ _ _ _ _ (λ b last q. cc) (λ q. c.if-link-eq0-2.false (cc)))

pub returns-in_default : goal.returns-in_default
returns-in_default c =
    source.refuses _ c.self.view_is
    (sink.alone _ _ _ _ _ (c.in_default.not-Data 0) (c.in_default.not-Take 0))
