use Rattle.tcertify.proofs.node.Node.follows_else.Goals as goal

pub returns-in_ok-sets_error-in-Halt : goal.returns-in_ok-sets_error-in-Halt
returns-in_ok-sets_error-in-Halt c =
    rw c.in-Halt.is (rw c.with_left-in-Halt.ensures at c.in_ok-sets_error-in-Halt.ensures)
