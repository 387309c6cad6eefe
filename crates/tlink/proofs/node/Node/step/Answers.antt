use Rattle.tlink.proofs.Whole.{stays_whole}
use Rattle.tlink.proofs.node.Node.step.Goals as goal
use Rattle.tlink.proofs.node.Node.step.Goals.{in-Processor, in-Source, in-Sink}

pub invariant_of-self : goal.invariant_of-self
invariant_of-self c =
    elim c.match-self.branch [
      | in-Processor w ↦ rw (w.self-inside-is, w.step.ensures.left)
          (stays_whole c.args.event w.in-Processor.links (rw w.in-Processor.is at c.self.invariant))
      | in-Source w ↦ rw (w.self-inside-is, w.step-in-Source.ensures.left)
          (stays_whole c.args.event w.in-Source.source (rw w.in-Source.is at c.self.invariant))
      | in-Sink w ↦ rw (w.self-inside-is, w.step-in-Sink.ensures.left)
          (stays_whole c.args.event w.in-Sink.sink (rw w.in-Sink.is at c.self.invariant))
    ]
