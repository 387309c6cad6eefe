use Rattle.std.proofs.Common.{refl, rules}
use Rattle.std.proofs.lemmas.Option.{IfSome_then}
use Rattle.tcertify.specs.Instructions.{decoded}
use Rattle.tcertify.specs.Nodes.{node_site}
use Rattle.tcertify.proofs.NodeWords.{on_words}
use Rattle.tcertify.proofs.node.Node.decodes_noted.Goals as goal

pub returns : goal.returns
returns c =
    let a = c.args.self.now in
    IfSome_then c.decodes_noted.result c.decodes_noted.ensures
    (λ i h. on_words a a (decoded (node_site a) c.args.iptr) _ (search rules) refl h)
