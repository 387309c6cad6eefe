use Rattle.tproc.proofs.engine.Engine.step.Goals as goal

pub take_high-requires-clause-threaded : goal.take_high-requires-clause-threaded
take_high-requires-clause-threaded c = c.requires.threaded 0
