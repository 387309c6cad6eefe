use Rattle.std.proofs.Common.{rules}
use Rattle.tcertify.proofs.Leaving.{makes_and, makes_bsub, makes_diff, makes_gt, makes_or, makes_sum}
use Rattle.tcertify.proofs.Leaving.{makes_wsub, makes_xor}
use Rattle.tcertify.proofs.common.made_of_two.Goals as goal

pub returns-in-Bsub : goal.returns-in-Bsub
returns-in-Bsub c = rw c.in-Bsub.is (makes_bsub c.args.b c.args.a _ c.plus.ensures)

pub returns-in-Wsub : goal.returns-in-Wsub
returns-in-Wsub c = rw c.in-Wsub.is (makes_wsub c.args.b c.args.a _ c.word_address.ensures)

pub returns-in-Sum : goal.returns-in-Sum
returns-in-Sum c = rw c.in-Sum.is (makes_sum c.args.b c.args.a _ c.plus-in-Sum.ensures)

pub returns-in-Diff : goal.returns-in-Diff
returns-in-Diff c = rw c.in-Diff.is (makes_diff c.args.b c.args.a _ c.minus.ensures)

pub returns-in-Gt : goal.returns-in-Gt
returns-in-Gt c = rw c.in-Gt.is (makes_gt c.args.b c.args.a _ (search rules))

pub returns-in-And : goal.returns-in-And
returns-in-And c =
    rw c.in-And.is
    (makes_and c.args.b c.args.a _ (rw (c.get.ensures, c.get-in-And.ensures) at c.new.ensures))

pub returns-in-Or : goal.returns-in-Or
returns-in-Or c =
    rw c.in-Or.is
    (makes_or c.args.b c.args.a _ (rw (c.get-in-Or.ensures, c.get-in-Or-2.ensures) at c.new-in-Or.ensures))

pub returns-in-Xor : goal.returns-in-Xor
returns-in-Xor c =
    rw c.in-Xor.is
    (makes_xor c.args.b c.args.a _ (rw (c.get-in-Xor.ensures, c.get-in-Xor-2.ensures) at c.new-in-Xor.ensures))
