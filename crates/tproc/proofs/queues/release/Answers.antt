use Rattle.tproc.proofs.queues.release.Goals as goal

pub enqueue-requires-clause-saved : goal.enqueue-requires-clause-saved
enqueue-requires-clause-saved c = c.forget.ensures.saved (c.args.claimed.now.marks) c.requires.saved

pub returns-clause-agrees : goal.returns-clause-agrees
returns-clause-agrees c = λ others d h. c.enqueue.ensures.settles others d (c.forget.ensures.unsettles others d h)
