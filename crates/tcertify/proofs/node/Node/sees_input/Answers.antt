use Rattle.std.proofs.Common.{ℕ, subst, Ok}
use Rattle.tproc.specs.declared.channels.Side.TheVariants.{Input}
use Rattle.tplan.specs.Wires.{end_at}
use Rattle.tprocesses.specs.Parts.{see}
use Rattle.tprocesses.specs.Places.{LinkHalf}
use Rattle.tprocesses.specs.Values.{IsLink}
use Rattle.tcertify.specs.Channels.{link_of}
use Rattle.tcertify.specs.Nodes.{RunsAt, names}
use Rattle.tcertify.proofs.node.Node.sees_input.Goals as goal

pub returns-clause-looks : goal.returns-clause-looks
returns-clause-looks c =
    let a = c.args.self.now in let b = c.link_half.new.self in
    subst (λ (l : ℕ). RunsAt (see (LinkHalf (end_at a.words.number l) Input)) a
    (Ok (IsLink (link_of (names a) c.link_half.result))) b) c.input_link.ensures.link c.link_half.ensures.looks
