use Rattle.tword.specs.declared.breaks.Break.TheVariants.{LinkBusy}
use Rattle.tprocesses.specs.Parts.{Breaks}
use Rattle.tprocesses.specs.Places.{same_name}
use Rattle.tcertify.specs.Nodes.{name_at}
use Rattle.tcertify.proofs.Alternatives.{named_other, named_same}
use Rattle.tcertify.proofs.Choices.{refused, required}
use Rattle.tcertify.proofs.NodeRunning.{grows_not}
use Rattle.tcertify.proofs.node.Node.is_own.Goals as goal

pub returns-then-other-process : goal.returns-then-other-process
returns-then-other-process c =
    let a = c.args.self.now in let k = c.args.process in let j = c.args.other in
    refused (same_name (name_at a j) (name_at a k)) (Breaks LinkBusy) a
    (named_other a a (grows_not a) j k c.requires.there c.requires.known c.if-other-process.true)

pub returns : goal.returns
returns c =
    let a = c.args.self.now in let k = c.args.process in let j = c.args.other in
    required (same_name (name_at a j) (name_at a k)) (Breaks LinkBusy) a
    (named_same a a (grows_not a) j k c.requires.there c.if-other-process.false)
