use Rattle.tlink.proofs.Sources as source
use Rattle.tlink.proofs.source.Source.know_no_run.Goals as goal

pub returns : goal.returns
returns c = rw (← c.self.view_is) (source.alone _ _ _ _ _ _ (λ q. cc) (λ q. cc))
