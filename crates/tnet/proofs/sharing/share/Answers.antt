use Rattle.std.proofs.Common.{◌∙◌}
use Rattle.tnet.proofs.Shares.{rounded_up}
use Rattle.tnet.proofs.sharing.share.Goals as goal

pub returns : goal.returns
returns c = c.div_ceil.ensures ∙ rounded_up c.args.nodes c.args.workers c.requires
