use Rattle.std.proofs.Common.{refl, subst, length}
use Rattle.std.proofs.lemmas.Option.{slice_get_read}
use Rattle.tprocesses.specs.Places.{Name}
use Rattle.tprocesses.specs.Standing.{comes}
use Rattle.tprocesses.specs.Values.{Rests}
use Rattle.tcertify.specs.Contexts.{context_of}
use Rattle.tcertify.specs.Nodes.{Does, node_site, nothing}
use Rattle.tcertify.proofs.Naming.{child_named}
use Rattle.tcertify.proofs.node.Node.child_comes.Goals as goal

pub returns : goal.returns
returns c =
    let a = c.args.self.now in let ps = a.processes.items.items in let p = c.index.result.now in
    let there = slice_get_read ps (length ps) c.args.parent p refl c.requires c.index.ensures in
    subst (λ (x : Name). Does (comes (node_site a) x (context_of c.args.context.now) Rests) nothing a c.comes.result
    c.comes.new.self)
    (child_named a c.args.parent c.args.child p c.in_ok-path.path.items there c.in_ok-path.ensures) c.comes.ensures
