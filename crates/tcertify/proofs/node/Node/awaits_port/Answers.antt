use Rattle.std.proofs.Common.{sym, ◌∙◌, Ok, Err}
use Rattle.std.proofs.lemmas.Result.{err_from_is_err_and}
use Rattle.tproc.specs.LinkChannels.{is_link}
use Rattle.tprocesses.specs.Choosing.{awaits_channel, awaits_link}
use Rattle.tcertify.specs.declared.fault.Fault.TheVariants.{Stops}
use Rattle.tcertify.specs.Nodes.{name_at, node_site}
use Rattle.tcertify.proofs.Choices.{does_first, does_second}
use Rattle.tcertify.proofs.node.Node.awaits_port.Goals as goal

pub returns-then-not-is_link-clause-done : goal.returns-then-not-is_link-clause-done
returns-then-not-is_link-clause-done c =
    let a = c.args.self.now in let s = node_site a in let x = name_at a c.args.process in
    does_second (awaits_link s x c.args.channel) (awaits_channel s x c.args.channel) (is_link c.args.channel) a
    c.awaits_channel.new.self c.awaits_channel.result (sym c.is_link.ensures ∙ c.if-not-is_link.true)
    c.awaits_channel.ensures.done

pub returns-in_err-awaits_link-clause-done : goal.returns-in_err-awaits_link-clause-done
returns-in_err-awaits_link-clause-done c =
    let a = c.args.self.now in let s = node_site a in let x = name_at a c.args.process in
    let p = err_from_is_err_and c.from_residual.result c.from_residual.ensures.1 in
    rw (p.1, p.2)
    (does_first (awaits_link s x c.args.channel) (awaits_channel s x c.args.channel) (is_link c.args.channel) a
    c.awaits_link.new.self (Err (Stops c.in_err-awaits_link.field-0.0)) (sym c.is_link.ensures ∙ c.if-not-is_link.false)
    c.in_err-awaits_link.ensures.done)

pub returns-clause-done : goal.returns-clause-done
returns-clause-done c =
    let a = c.args.self.now in let s = node_site a in let x = name_at a c.args.process in
    does_first (awaits_link s x c.args.channel) (awaits_channel s x c.args.channel) (is_link c.args.channel) a
    c.awaits_link.new.self (Ok tt) (sym c.is_link.ensures ∙ c.if-not-is_link.false) c.in_ok-awaits_link.ensures.done
