use Rattle.std.proofs.Common.{◌≤◌, ◌-◌, Err, arith, length, subst, sym}
use Rattle.tword.specs.Stores.{Store}
use Rattle.tprocesses.specs.Parts.{HasNoStep, Part}
use Rattle.tverdict.specs.Passing.{RunsHalf}
use Rattle.tverdict.proofs.Half.{half_stops, nobody_sends}
use Rattle.tverdict.proofs.machine.Machine.sends.Goals as goal

pub returns-then-number-len : goal.returns-then-number-len
returns-then-number-len c = c.node_sends.ensures c.args.plan.now c.args.notes.now c.requires

pub returns : goal.returns
returns c =
    let m = c.args.self.now in let plan = c.args.plan.now in let from = c.args.from in let notes = c.args.notes.now in
    let past : length plan.nodes ≤ from.node =
    omega (arith, c.if-number-len.false, c.len.ensures, c.requires.nodes.many) in
    let high : length plan.sources ≤ from.node - length plan.nodes =
    omega (arith, c.if-number-len-2.false, c.len-2.ensures, c.len-3.ensures, c.requires.nodes.many, c.requires.sent) in
    subst (λ (p : Part Store). RunsHalf plan p from.node m notes (Err HasNoStep) m notes)
    (sym (nobody_sends plan from past high)) (half_stops plan from.node m notes HasNoStep)
