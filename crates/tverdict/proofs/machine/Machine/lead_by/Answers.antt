use Rattle.std.proofs.Common.{ℕ, sym, ◌∙◌, subst, List, Option}
use Rattle.tcertify.specs.declared.node.Node.{Node}
use Rattle.tverdict.specs.Coming.{HasCome, HasComeIfLives}
use Rattle.tverdict.specs.Stepping.{HasLead}
use Rattle.tverdict.proofs.Keeping.{has_clocks, keeps_twice}
use Rattle.tverdict.proofs.Taking.{number_come, told_come, told_handed, wires_come}
use Rattle.tverdict.proofs.machine.Machine.lead_by.Goals as goal

pub number_of-requires : goal.number_of-requires
number_of-requires c =
    let (plan, at, among, t) = c.requires.told in has_clocks plan c.args.number at c.args.self.now t

pub returns-else-to-number : goal.returns-else-to-number
returns-else-to-number c =
    let m = c.args.self.now in let come = c.number_of.new.self in let number = c.args.number in
    let a = c.in-Some.agent in let to = c.in-Some-2.to in
    let has : HasCome m number a to come =
    subst (λ (o : Option ℕ). HasComeIfLives m number a o come) c.in-Some-2.is c.in_ok-to.ensures in
    told_come m come number a to has c.args.node c.args.lead c.requires.lead c.in-Some.ensures.there
    (λ plan fits. c.in-Some.ensures.led plan fits.wires)

pub returns-in_ok-hand_on : goal.returns-in_ok-hand_on
returns-in_ok-hand_on c =
    let m = c.args.self.now in let come = c.number_of.new.self in let handed = c.hand_on.new.self in
    let number = c.args.number in let a = c.in-Some.agent in let to = c.in-Some-2.to in
    let has : HasCome m number a to come =
    subst (λ (o : Option ℕ). HasComeIfLives m number a o come) c.in-Some-2.is c.in_ok-to.ensures in
    let first = told_come m come number a to has c.args.node c.args.lead c.requires.lead c.in-Some.ensures.there
    (λ plan fits. c.in-Some.ensures.led plan fits.wires) in
    keeps_twice number c.args.node m come handed first
    (told_handed come handed number c.args.node to c.in_ok-hand_on.ensures a (number_come m come number a to has)
    c.args.lead (subst (λ (ns : List Node). HasLead ns c.args.node c.args.lead) (sym first.more.nodes) c.requires.lead)
    c.if-to-number.true
    (λ plan fits. c.in-Some.ensures.led plan (sym (wires_come m come number a to has) ∙ fits.wires)))
