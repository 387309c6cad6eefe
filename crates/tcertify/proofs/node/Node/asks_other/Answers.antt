use Rattle.std.proofs.Common.{◌≡◌, sym, ◌∙◌, true, Ok}
use Rattle.std.specs.Prelude.{◌==◌, ◌||◌}
use Rattle.tproc.specs.LinkChannels.{is_link}
use Rattle.tprocesses.specs.Choosing.{requires_silence}
use Rattle.tprocesses.specs.Parts.{done}
use Rattle.tcertify.specs.Nodes.{node_site}
use Rattle.tcertify.proofs.Choices.{does_first, first_holds, second_holds}
use Rattle.tcertify.proofs.Messages.{alike}
use Rattle.tcertify.proofs.NodeRunning.{runs_at_given}
use Rattle.tcertify.proofs.node.Node.asks_other.Goals as goal
use Rattle.tcertify.proofs.node.Node.asks_other.Goals.{then-get-via-then-get, then-get-via-else-get+then-is_link}

pub returns-then-get-clause-done : goal.returns-then-get-clause-done
returns-then-get-clause-done c =
    let a = c.args.self.now in let s = node_site a in let port = c.args.port in let channel = c.args.channel in
    let skips = λ (e : ((port == channel) || is_link port) ≡ true).
    does_first done (requires_silence s port) ((port == channel) || is_link port) a a (Ok tt) e (runs_at_given tt a) in
    elim c.then-get.branch [
      | then-get-via-then-get w ↦ skips (first_holds (port == channel) (is_link port)
          (alike port channel (sym c.get.ensures ∙ w.if-get.true ∙ c.get-2.ensures)))
      | then-get-via-else-get+then-is_link w ↦ skips (second_holds (port == channel) (is_link port)
          (sym w.is_link.ensures ∙ w.if-is_link.true))
    ]
