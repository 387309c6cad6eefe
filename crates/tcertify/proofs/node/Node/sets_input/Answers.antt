use Rattle.std.proofs.Common.{ℕ, subst, Ok}
use Rattle.tproc.specs.declared.channels.Side.TheVariants.{Input}
use Rattle.tplan.specs.Wires.{end_at}
use Rattle.tprocesses.specs.Changes.{Put}
use Rattle.tprocesses.specs.Parts.{change}
use Rattle.tprocesses.specs.Places.{LinkHalf}
use Rattle.tprocesses.specs.Values.{IsLink}
use Rattle.tcertify.specs.Channels.{link_of}
use Rattle.tcertify.specs.Nodes.{RunsAt, names}
use Rattle.tcertify.proofs.node.Node.sets_input.Goals as goal

pub returns-clause-sets : goal.returns-clause-sets
returns-clause-sets c =
    let a = c.args.self.now in let b = c.set_link_half.new.self in
    subst (λ (l : ℕ). RunsAt (change (LinkHalf (end_at a.words.number l) Input)
    (Put (IsLink (link_of (names a) c.args.half)))) a (Ok tt) b) c.input_link.ensures.link c.set_link_half.ensures.sets
