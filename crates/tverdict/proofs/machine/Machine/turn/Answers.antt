use Rattle.std.proofs.Common.{ℕ, refl, subst, Option}
use Rattle.tverdict.specs.declared.machine.Machine.{Machine}
use Rattle.tverdict.specs.Next.{IsNext}
use Rattle.tverdict.proofs.Turned.{made}
use Rattle.tverdict.proofs.machine.Machine.turn.Goals as goal

pub returns-in_ok-push-in-Ok : goal.returns-in_ok-push-in-Ok
returns-in_ok-push-in-Ok c =
    let plan = c.args.plan.now in let mid = c.next_agent.new.self in let new = c.step.new.self in
    let last : Machine = record new { candidates = c.push.new.self } in
    made plan c.args.self.now mid new last c.in-Some.agent c.in_ok-agent.ensures.looked
    (subst (λ (o : Option ℕ). IsNext plan mid o) c.in-Some.is c.in_ok-agent.ensures.next) c.in-Ok.ensures.stepped.0
    c.in-Ok.ensures.stepped.1 c.in-Ok.ensures.kept refl c.in_ok-push-in-Ok.ensures.items
