use Rattle.std.proofs.Common.{rules}
use Rattle.tproc.proofs.AgreeingLinks.{agrees_input}
use Rattle.tproc.proofs.link_channels.offer_input.Goals as goal

pub returns-clause-agrees : goal.returns-clause-agrees
returns-clause-agrees c =
    agrees_input _ c.args.offer _ _ _ c.args.state.now _ c.requires.agrees c.claim_input.ensures.claims (search rules)
