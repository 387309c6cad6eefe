use Rattle.std.proofs.Common.{◌<◌, arith, length, refl, subst, sym, ◌∙◌}
use Rattle.std.proofs.lemmas.Option.{same_Some, slice_get_read, slice_get_within}
use Rattle.std.specs.Vec.{with_item}
use Rattle.tcertify.specs.declared.node.Node.{Node}
use Rattle.tverdict.specs.declared.machine.Machine.{Machine}
use Rattle.tverdict.proofs.Called.{process_done, process_there}
use Rattle.tverdict.proofs.machine.Machine.process_step.Goals as goal

pub listened_at-requires : goal.listened_at-requires
listened_at-requires c =
    process_there c.args.plan.now c.args.self.now c.args.number c.args.node c.args.process c.requires.follows
    c.requires.agent

pub index_mut-at-requires : goal.index_mut-at-requires
index_mut-at-requires c =
    let m = c.args.self.now in
    let (x, at, low) = process_there c.args.plan.now m c.args.number c.args.node c.args.process c.requires.follows
    c.requires.agent in
    let within : c.args.node < length m.nodes.items = slice_get_within m.nodes.items c.args.node x at in
    omega (arith, within, m.nodes.ok.0)

pub do_process-outcome-requires : goal.do_process-outcome-requires
do_process-outcome-requires c =
    let m = c.args.self.now in let n = c.args.node in let old = c.index_mut-at.result.now in
    let (x, at, low) = process_there c.args.plan.now m c.args.number n c.args.process c.requires.follows
    c.requires.agent in
    let there = slice_get_read m.nodes.items (length m.nodes.items) n old refl (slice_get_within m.nodes.items n x at)
    c.index_mut-at.ensures.value in
    subst (λ (y : Node). c.args.process < length y.processes.items.items) (same_Some x old (sym at ∙ there)) low

pub end_call-requires : goal.end_call-requires
end_call-requires c =
    let plan = c.args.plan.now in let m = c.args.self.now in let old = c.index_mut-at.result.now in
    let new = c.do_process-outcome.new.node in
    let now : Machine = record m {
      nodes = with_item m.nodes c.args.node new;
      idle = c.do_process-outcome.new.idle;
    } in (
      plan,
      process_done plan m now c.args.number c.args.node c.args.process c.requires.follows c.requires.open old new
          c.index_mut-at.ensures.value c.do_process-outcome.result c.of-counts.result.processes
          c.of-counts.result.channels c.of-counts.ensures.processes c.of-counts.ensures.channels refl refl
          c.was_last-goes_on.result c.was_last-goes_on.ensures c.in_default.ensures.none c.requires.agent
          c.do_process-outcome.ensures,
    )

pub returns-clause-stepped : goal.returns-clause-stepped
returns-clause-stepped c =
    let plan = c.args.plan.now in let m = c.args.self.now in let old = c.index_mut-at.result.now in
    let new = c.do_process-outcome.new.node in
    let now : Machine = record m {
      nodes = with_item m.nodes c.args.node new;
      idle = c.do_process-outcome.new.idle;
    } in
    c.end_call.ensures.stepped plan
    (process_done plan m now c.args.number c.args.node c.args.process c.requires.follows c.requires.open old new
    c.index_mut-at.ensures.value c.do_process-outcome.result c.of-counts.result.processes c.of-counts.result.channels
    c.of-counts.ensures.processes c.of-counts.ensures.channels refl refl c.was_last-goes_on.result
    c.was_last-goes_on.ensures c.in_default.ensures.none c.requires.agent
    c.do_process-outcome.ensures)
