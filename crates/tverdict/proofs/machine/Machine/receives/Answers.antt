use Rattle.std.proofs.Common.{◌≡◌, ◌≤◌, ◌<◌, ◌-◌, Err, arith, length, subst, sym}
use Rattle.tword.specs.Stores.{Store}
use Rattle.tprocesses.specs.Machine.{receives, role_at}
use Rattle.tprocesses.specs.Parts.{Doing, HasNoStep, stopping}
use Rattle.tcertify.specs.Nodes.{nothing}
use Rattle.tverdict.specs.Passing.{DoesHalf, RunsHalf}
use Rattle.tverdict.proofs.Half.{half_stops, nobody_receives, source_receives_nothing}
use Rattle.tverdict.proofs.machine.Machine.receives.Goals as goal
use Rattle.tverdict.proofs.machine.Machine.receives.Goals.{else-len-beyond-via-then-len-beyond+else-beyond-len}
use Rattle.tverdict.proofs.machine.Machine.receives.Goals.{else-len-beyond-via-else-len-beyond}

pub returns-then-number-len : goal.returns-then-number-len
returns-then-number-len c =
    subst (λ (x : Store). DoesHalf c.args.plan.now
    (receives c.args.plan.now (role_at c.args.plan.now c.args.to.node) c.args.to x) nothing c.args.to.node
    c.args.self.now c.args.notes.now c.node_receives.result c.node_receives.new.self c.args.notes.now)
    c.as_slice.ensures.value (c.node_receives.ensures c.args.plan.now c.args.notes.now c.requires)

pub returns : goal.returns
returns c =
    let m = c.args.self.now in let plan = c.args.plan.now in let to = c.args.to in let notes = c.args.notes.now in
    let x = c.args.message.items in
    let past : length plan.nodes ≤ to.node =
    omega (arith, c.if-number-len.false, c.len.ensures, c.requires.nodes.many) in
    let is : receives plan (role_at plan to.node) to x ≡ stopping HasNoStep =
    elim c.else-len-beyond.branch [
      | else-len-beyond-via-then-len-beyond+else-beyond-len w ↦
          let high : length plan.sources ≤ to.node - length plan.nodes = omega (
            arith,
            w.if-len-beyond.true,
            c.len-2.ensures,
            c.len-3.ensures,
            c.requires.nodes.many,
            c.requires.sent,
          ) in
          let more : length plan.sinks ≤ to.node - length plan.nodes - length plan.sources = omega (
            arith,
            w.if-beyond-len.false,
            w.len-then-len-beyond.ensures,
            w.len-then-len-beyond-2.ensures,
            c.len-2.ensures,
            c.len-3.ensures,
            c.requires.nodes.many,
            c.requires.sent,
            c.requires.sinks,
          ) in
          nobody_receives plan to x past high more
      | else-len-beyond-via-else-len-beyond w ↦
          let low : to.node - length plan.nodes < length plan.sources = omega (
            arith,
            w.if-len-beyond.false,
            c.len-2.ensures,
            c.len-3.ensures,
            c.requires.nodes.many,
            c.requires.sent,
          ) in
          source_receives_nothing plan to x past low
    ] in
    subst (λ (p : Doing). RunsHalf plan p to.node m notes (Err HasNoStep) m notes) (sym is)
    (half_stops plan to.node m notes HasNoStep)
