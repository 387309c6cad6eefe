use Rattle.std.proofs.Common.{w64}
use Rattle.std.proofs.lemmas.Nat.Bits.{bit_at_set_same, bit_at_set_other}
use Rattle.trounds.proofs.awake.Awake.insert_unless.Goals as goal

pub returns-then-not-rests-clause-awake : goal.returns-then-not-rests-clause-awake
returns-then-not-rests-clause-awake c = λ _. bit_at_set_same w64 c.args.self.now.nodes c.args.node c.requires

pub returns-then-not-rests-clause-others : goal.returns-then-not-rests-clause-others
returns-then-not-rests-clause-others c = bit_at_set_other w64 c.args.self.now.nodes c.args.node c.requires
