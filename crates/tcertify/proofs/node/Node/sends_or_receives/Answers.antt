use Rattle.tcertify.specs.Contexts.{context_of}
use Rattle.tcertify.specs.Sides.{side_of}
use Rattle.tcertify.proofs.Scheduling.{exchanges, no_buffer, no_channel, no_length}
use Rattle.tcertify.proofs.node.Node.sends_or_receives.Goals as goal

pub returns-in_default : goal.returns-in_default
returns-in_default c =
    no_length c.args.self.now c.args.process (context_of c.args.context.now) (side_of c.args.side) c.in_default.is

pub returns-in_default-b : goal.returns-in_default-b
returns-in_default-b c =
    no_channel c.args.self.now c.args.process (context_of c.args.context.now) (side_of c.args.side)
    c.in-Some.length c.in-Some.is c.in_default-b.is

pub returns-in_default-c : goal.returns-in_default-c
returns-in_default-c c =
    no_buffer c.args.self.now c.args.process (context_of c.args.context.now) (side_of c.args.side)
    c.in-Some.length c.in-Some.is c.in-Some-b.channel c.in-Some-b.is c.in_default-c.is

pub returns : goal.returns
returns c =
    exchanges c.args.self.now c.args.process (context_of c.args.context.now) (side_of c.args.side)
    c.in-Some.length c.in-Some.is c.in-Some-b.channel c.in-Some-b.is _ c.in-Some-c.start _ c.in-Some-c.is
    (rw c.get-size.ensures at c.communicates.ensures)
