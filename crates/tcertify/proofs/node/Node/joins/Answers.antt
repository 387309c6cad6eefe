use Rattle.std.proofs.Common.{ap, ◌∙◌, subst}
use Rattle.tprocesses.specs.Places.{Name}
use Rattle.tcertify.specs.Nodes.{Does, nothing}
use Rattle.tcertify.specs.Standing.{stand_of}
use Rattle.tcertify.specs.Starts.{joins}
use Rattle.tcertify.proofs.NodeStands.{name_is}
use Rattle.tcertify.proofs.node.Node.joins.Goals as goal

pub returns-in-Some : goal.returns-in-Some
returns-in-Some c =
    let a = c.args.self.now in
    let (p, there, same) = c.in-Some.ensures in
    subst (λ (x : Name). Does (joins x (stand_of c.args.process.stand)) nothing a c.joins_again.result
    c.joins_again.new.self)
    (name_is a c.in-Some.number p there ∙ ap (λ (x : Name). record x { node = a.words.number }) same)
    c.joins_again.ensures
