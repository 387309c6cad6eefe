use Rattle.std.proofs.Common.{rules, w64}
use Rattle.std.proofs.lemmas.Nat.Bits.{bit_at_clear_same, bit_at_clear_other}
use Rattle.trounds.proofs.AwakeBits.{below_lowest, later_bit, between_bits, same_bits, next_bit}
use Rattle.trounds.proofs.awake.Awake.after.Goals as goal

pub returns-clause-later : goal.returns-clause-later
returns-clause-later c =
    later_bit c.args.self.now.nodes _ c.args.node (search rules) (search rules) c.requires.node
    (bit_at_clear_same w64 c.args.self.now.nodes c.args.node c.requires.node)
    (bit_at_clear_other w64 c.args.self.now.nodes c.args.node c.requires.node) c.requires.first

pub returns-clause-between : goal.returns-clause-between
returns-clause-between c =
    between_bits c.args.self.now.nodes _ c.args.node (search rules) (search rules) c.requires.node
    (bit_at_clear_same w64 c.args.self.now.nodes c.args.node c.requires.node)
    (bit_at_clear_other w64 c.args.self.now.nodes c.args.node c.requires.node)

pub returns-clause-left : goal.returns-clause-left
returns-clause-left c = λ all left.
    let later = later_bit c.args.self.now.nodes _ c.args.node (search rules) (search rules) c.requires.node
    (bit_at_clear_same w64 c.args.self.now.nodes c.args.node c.requires.node)
    (bit_at_clear_other w64 c.args.self.now.nodes c.args.node c.requires.node) c.requires.first in
    record {
      passed = below_lowest _ (search rules);
      same = same_bits c.args.self.now.nodes _ c.args.node (search rules) (search rules) c.requires.node
          (bit_at_clear_same w64 c.args.self.now.nodes c.args.node c.requires.node)
          (bit_at_clear_other w64 c.args.self.now.nodes c.args.node c.requires.node) all.nodes later left.same;
      found = next_bit c.args.self.now.nodes _ c.args.node (search rules) (search rules) c.requires.node
          (bit_at_clear_same w64 c.args.self.now.nodes c.args.node c.requires.node)
          (bit_at_clear_other w64 c.args.self.now.nodes c.args.node c.requires.node) all.nodes later left.same;
    }
