use Rattle.tproc.proofs.BytesStand.{claimed_bytes_stand}
use Rattle.tproc.proofs.laws.claimed_bytes_stand.Goals as goal

pub returns : goal.returns
returns c = claimed_bytes_stand
