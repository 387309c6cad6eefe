use Rattle.std.proofs.Common.{◌≡◌, ◌∙◌, Some, sym}
use Rattle.tprocesses.specs.Machine.{passes, sender_to}
use Rattle.tverdict.proofs.Wiring.{fits2, two_keeps, two_outcome, two_stepped, wire_home, wire_is}
use Rattle.tverdict.proofs.machine.Machine.wire_step.Goals as goal

pub crosses-outcome-requires : goal.crosses-outcome-requires
crosses-outcome-requires c =
    fits2 c.args.plan.now c.args.self.now c.begin_at.new.self c.begin_at-2.new.self c.in-Some.from.node c.args.to.node
    c.requires.follows c.begin_at.ensures c.begin_at-2.ensures

pub end_pass-requires : goal.end_pass-requires
end_pass-requires c =
    let plan = c.args.plan.now in let m = c.args.self.now in let from = c.in-Some.from in let to = c.args.to in
    let sender : sender_to plan to ≡ Some from =
    sym (c.sender_to.ensures plan c.requires.follows.1.sound.wires) ∙ c.in-Some.is in
    let number = c.args.number in let h = c.requires.open in let at = c.requires.agent in (
      plan,
      two_outcome plan m c.begin_at.new.self c.begin_at-2.new.self from.node to.node c.requires.follows
          c.begin_at.ensures c.begin_at-2.ensures c.crosses-outcome.new.self number (passes plan (Some from) to)
          c.new-notes.result c.crosses-outcome.new.notes h (wire_is plan m number from to h at sender)
          (wire_home plan m number from to h at sender) c.counts_at.result c.counts_at-2.result c.counts_at.ensures
          c.counts_at-2.ensures c.crosses-outcome.result c.crosses-outcome.ensures,
    )

pub returns-clause-stepped : goal.returns-clause-stepped
returns-clause-stepped c =
    let plan = c.args.plan.now in let m = c.args.self.now in let from = c.in-Some.from in let to = c.args.to in
    let sender : sender_to plan to ≡ Some from =
    sym (c.sender_to.ensures plan c.requires.follows.1.sound.wires) ∙ c.in-Some.is in
    let number = c.args.number in let h = c.requires.open in let at = c.requires.agent in
    two_stepped plan m c.begin_at.new.self c.begin_at-2.new.self from.node to.node c.requires.follows
    c.begin_at.ensures c.begin_at-2.ensures c.crosses-outcome.new.self number (passes plan (Some from) to)
    c.new-notes.result c.crosses-outcome.new.notes h (wire_is plan m number from to h at sender)
    (wire_home plan m number from to h at sender) c.counts_at.result c.counts_at-2.result c.counts_at.ensures
    c.counts_at-2.ensures c.crosses-outcome.result c.crosses-outcome.ensures c.end_pass.result c.end_pass.new.self
    c.end_pass.ensures.memory (c.end_pass.ensures.stepped plan)

pub returns-clause-kept : goal.returns-clause-kept
returns-clause-kept c =
    let plan = c.args.plan.now in let m = c.args.self.now in let from = c.in-Some.from in let to = c.args.to in
    let sender : sender_to plan to ≡ Some from =
    sym (c.sender_to.ensures plan c.requires.follows.1.sound.wires) ∙ c.in-Some.is in
    let number = c.args.number in let h = c.requires.open in let at = c.requires.agent in
    two_keeps plan m c.begin_at.new.self c.begin_at-2.new.self from.node to.node c.requires.follows
    c.begin_at.ensures c.begin_at-2.ensures c.crosses-outcome.new.self number (passes plan (Some from) to)
    c.new-notes.result c.crosses-outcome.new.notes h (wire_is plan m number from to h at sender)
    (wire_home plan m number from to h at sender) c.counts_at.result c.counts_at-2.result c.counts_at.ensures
    c.counts_at-2.ensures c.crosses-outcome.result c.crosses-outcome.ensures c.end_pass.result c.end_pass.new.self
    c.end_pass.ensures.memory c.end_pass.ensures.kept
