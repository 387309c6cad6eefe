use Rattle.tlink.proofs.Fresh.{whole_source}
use Rattle.tlink.proofs.node.Node.new_source.Goals as goal

pub invariant_of-result : goal.invariant_of-result
invariant_of-result c = rw c.in_ok-source.ensures.source (whole_source c.args.messages.now c.requires)
