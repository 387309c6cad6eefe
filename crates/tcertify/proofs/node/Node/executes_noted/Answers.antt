use Rattle.std.proofs.Common.{rules}
use Rattle.std.proofs.lemmas.Option.{IfSome_then}
use Rattle.tcertify.specs.Carried.{with_left}
use Rattle.tcertify.specs.Contexts.{context_of}
use Rattle.tcertify.proofs.NotedWords.{executed_noted, workspace_noted}
use Rattle.tcertify.proofs.node.Node.executes_noted.Goals as goal

pub returns-clause-done : goal.returns-clause-done
returns-clause-done c =
    let ctx = context_of c.args.context.now in
    IfSome_then c.executes_noted.result c.executes_noted.ensures.done
    (λ left l. executed_noted c.args.self.now _ c.args.process ctx (with_left ctx left) c.args.instruction.now
    c.requires (search rules) l)

pub returns-clause-workspace : goal.returns-clause-workspace
returns-clause-workspace c =
    let ctx = context_of c.args.context.now in
    IfSome_then c.executes_noted.result c.executes_noted.ensures.done
    (λ left l. workspace_noted ctx (with_left ctx left) c.args.instruction.now _ _ l)
