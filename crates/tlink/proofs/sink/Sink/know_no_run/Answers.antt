use Rattle.tlink.proofs.Sinks as sink
use Rattle.tlink.proofs.sink.Sink.know_no_run.Goals as goal

pub returns : goal.returns
returns c = rw (← c.self.view_is) (sink.alone _ _ _ _ _ (λ b last q. cc) (λ q. cc))
