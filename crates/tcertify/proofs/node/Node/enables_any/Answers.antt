use Rattle.std.proofs.Common.{sym, ◌∙◌}
use Rattle.tproc.specs.LinkChannels.{is_link}
use Rattle.tprocesses.specs.Choosing.{enables, enables_link}
use Rattle.tcertify.specs.Nodes.{name_at, node_site}
use Rattle.tcertify.proofs.Choices.{does_first, does_second}
use Rattle.tcertify.proofs.node.Node.enables_any.Goals as goal

pub returns-then-is_link : goal.returns-then-is_link
returns-then-is_link c =
    let a = c.args.self.now in let s = node_site a in let x = name_at a c.args.process in
    does_first (enables_link s x c.args.channel) (enables s x c.args.channel) (is_link c.args.channel) a
    c.enables_link.new.self c.enables_link.result (sym c.is_link.ensures ∙ c.if-is_link.true) c.enables_link.ensures

pub returns : goal.returns
returns c =
    let a = c.args.self.now in let s = node_site a in let x = name_at a c.args.process in
    does_second (enables_link s x c.args.channel) (enables s x c.args.channel) (is_link c.args.channel) a
    c.enables.new.self c.enables.result (sym c.is_link.ensures ∙ c.if-is_link.false) c.enables.ensures
