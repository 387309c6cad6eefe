use Rattle.std.proofs.Common.{ℕ, refl, subst, Option}
use Rattle.tverdict.specs.declared.machine.Machine.{Machine}
use Rattle.tverdict.specs.Next.{IsNext}
use Rattle.tverdict.proofs.Turned.{cut}
use Rattle.tverdict.proofs.machine.Machine.at_limit.Goals as goal

pub returns-in_default-clause-told : goal.returns-in_default-clause-told
returns-in_default-clause-told c = λ most enough.
    let plan = c.args.plan.now in let mid = c.next_agent.new.self in
    c.ending.ensures plan most c.in_ok-agent.ensures.follows
    (subst (λ (o : Option ℕ). IsNext plan mid o) c.in_default.is c.in_ok-agent.ensures.next)

pub returns-clause-told : goal.returns-clause-told
returns-clause-told c =
    let plan = c.args.plan.now in let mid = c.next_agent.new.self in
    let last : Machine = record mid { candidates = c.push.new.self } in
    cut plan c.args.self.now mid last c.in-Some.agent c.in_ok-agent.ensures.looked c.in_ok-agent.ensures.follows
    (subst (λ (o : Option ℕ). IsNext plan mid o) c.in-Some.is c.in_ok-agent.ensures.next) refl
    c.in_ok-push.ensures.items
