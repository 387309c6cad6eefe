use Rattle.tcertify.proofs.node.Node.touches.Goals as goal

pub returns-in-Input : goal.returns-in-Input
returns-in-Input c = rw c.in-Input.is c.take_span.ensures.touched

pub returns-in-Output : goal.returns-in-Output
returns-in-Output c = rw c.in-Output.is c.see_span.ensures.touched
