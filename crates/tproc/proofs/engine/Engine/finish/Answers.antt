use Rattle.std.proofs.Common.{[], ◌∙◌, ap, rules}
use Rattle.tproc.specs.LinkChannels.{without_buffer}
use Rattle.tproc.proofs.AgreeingLinks.{agrees_ended}
use Rattle.tproc.proofs.engine.Engine.finish.Goals as goal

pub invariant_of-self-clause-agrees : goal.invariant_of-self-clause-agrees
invariant_of-self-clause-agrees c =
    c.release.ensures.agrees [] _
    (agrees_ended c.args.side _ [] _ _ c.args.self.now.state _ c.args.self.now.agrees
    (c.release_buffer.ensures.claims ∙ ap (without_buffer c.args.side c.args.link) c.release.ensures.claims)
    (search rules))
