use Rattle.std.proofs.Common.{ℕ, ◌%◌, ap}
use Rattle.std.proofs.lemmas.Nat.{shr-shr}
use Rattle.trounds.proofs.awake.Awake.behind.Goals as goal

pub returns : goal.returns
returns c n = ap (λ (x : ℕ). x % 2) (shr-shr c.args.self.nodes c.args.count n)
