use Rattle.tproc.proofs.steps.forget_written_closely.Goals as goal

pub returns : goal.returns
returns c = rw (← c.written-span.ensures) c.forget.ensures
