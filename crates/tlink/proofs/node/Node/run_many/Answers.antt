use Rattle.std.proofs.Common.{subst, sym, ap}
use Rattle.tlink.specs.declared.event.Runs.{Runs}
use Rattle.tlink.specs.Node.{NodeState}
use Rattle.tlink.specs.Whole.{IsWhole}
use Rattle.tlink.proofs.RunRows.{runs-whole, runs-idle}
use Rattle.tlink.proofs.node.Node.run_many.Goals as goal
use Rattle.tlink.proofs.node.Node.run_many.Goals.{in-Processor, in-Source, in-Sink}

pub invariant_of-self : goal.invariant_of-self
invariant_of-self c =
    elim c.match-self.branch [
      | in-Processor w ↦ rw w.self-inside-is
          (subst IsWhole (sym (ap (λ (x : NodeState × Runs). x.0) w.run_many.ensures))
          (runs-whole c.args.most w.in-Processor.links (rw w.in-Processor.is at c.self.invariant)))
      | in-Source w ↦ rw w.self-inside-is (rw w.in-Source.is at c.self.invariant)
      | in-Sink w ↦ rw w.self-inside-is (rw w.in-Sink.is at c.self.invariant)
    ]

pub returns : goal.returns
returns c =
    elim c.match-self.branch [
      | in-Processor w ↦ rw (w.self-inside-is, w.result-is, ← c.self.view_is, w.in-Processor.is) w.run_many.ensures
      | in-Source w ↦ rw (w.self-inside-is, w.result-is, ← c.self.view_is, w.in-Source.is, w.not_enabled.ensures)
          (sym (runs-idle c.args.most w.in-Source.source w.know_no_run.ensures))
      | in-Sink w ↦ rw (w.self-inside-is, w.result-is, ← c.self.view_is, w.in-Sink.is, w.not_enabled-in-Sink.ensures)
          (sym (runs-idle c.args.most w.in-Sink.sink w.know_no_run-in-Sink.ensures))
    ]
