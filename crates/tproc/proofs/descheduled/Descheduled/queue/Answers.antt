use Rattle.std.proofs.Common.{◌∙◌, ◌<◌, length, ap, arith}
use Rattle.tproc.specs.Entries.{lists_of}
use Rattle.tproc.proofs.TableLists.{one_high, one_low, one_queued, queues_as, total_of}
use Rattle.tproc.proofs.descheduled.Descheduled.queue.Goals as goal
use Rattle.tproc.proofs.descheduled.Descheduled.queue.Goals.{then-get-eq0, else-get-eq0}

pub push-requires-2 : goal.push-requires-2
push-requires-2 c =
    let few = rw (← c.self.view_is) at c.requires in
    let room : length c.self.inside.table < 512 = omega (arith, total_of c.self.inside.table, few) in
    elim c.if-get-eq0.branch [
      | then-get-eq0 w ↦ rw w.self-inside-is room
      | else-get-eq0 w ↦ rw w.self-inside-is room
    ]

pub invariant_of-self : goal.invariant_of-self
invariant_of-self c =
    let t = c.self.inside.table in
    elim c.if-get-eq0.branch [
      | then-get-eq0 w ↦
          let high = one_high t c.args.process (omega (arith, w.if-get-eq0.true, c.get.ensures)) in
          let queue = rw c.workspace_of-workspace.ensures at (w.push.ensures _ c.self.invariant.0) in
          rw w.self-inside-is
          (queues_as c.push-2.new.self _ _ _ (ap lists_of (rw w.self-inside-is at c.push-2.ensures) ∙ high) queue
          c.self.invariant.1)
      | else-get-eq0 w ↦
          let low = one_low t c.args.process (omega (arith, w.if-get-eq0.false, c.get.ensures)) in
          let queue = rw c.workspace_of-workspace.ensures at (w.push-else-get-eq0.ensures _ c.self.invariant.1) in
          rw w.self-inside-is
          (queues_as c.push-2.new.self _ _ _ (ap lists_of (rw w.self-inside-is at c.push-2.ensures) ∙ low)
          c.self.invariant.0 queue)
    ]

pub returns : goal.returns
returns c =
    let done = one_queued c.self.inside.table c.args.process in
    rw (← c.self.view_is)
    (elim c.if-get-eq0.branch [
      | then-get-eq0 w ↦ ap lists_of (rw w.self-inside-is at c.push-2.ensures) ∙ done
      | else-get-eq0 w ↦ ap lists_of (rw w.self-inside-is at c.push-2.ensures) ∙ done
    ])
