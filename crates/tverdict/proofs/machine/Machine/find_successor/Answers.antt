use Rattle.std.proofs.Common.{subst, List, All}
use Rattle.tcertify.specs.declared.node.Node.{Node}
use Rattle.tverdict.specs.Next.{AwaitNothing, IsReadySuccessor}
use Rattle.tverdict.proofs.Looked.{comer_follows, comer_steps}
use Rattle.tverdict.proofs.Unlisted.{nobody_else}
use Rattle.tverdict.proofs.machine.Machine.find_successor.Goals as goal

pub returns-in_ok-add_agent-in-Some-clause-found : goal.returns-in_ok-add_agent-in-Some-clause-found
returns-in_ok-add_agent-in-Some-clause-found c = λ plan f none.
    let old = c.args.self.now in let new = c.add_agent.new.self in let a = c.in-Some.successor in
    let number = c.in_ok-add_agent-in-Some.field-0 in let adds = c.in_ok-add_agent-in-Some.ensures in
    let ready = subst (λ (xs : List Node). IsReadySuccessor xs a) c.as_slice.ensures.value c.in-Some.ensures.found in (
      comer_follows plan old new f none a ready number adds,
      comer_steps plan old new f none a ready number adds,
    )

pub returns-in-None-clause-found : goal.returns-in-None-clause-found
returns-in-None-clause-found c = λ plan f none. (
  f,
  nobody_else plan c.args.self.now f
      (subst (λ (xs : List Node). All AwaitNothing xs) c.as_slice.ensures.value c.in-None.ensures.none) none,
)
