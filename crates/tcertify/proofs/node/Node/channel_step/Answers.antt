use Rattle.std.proofs.Common.{ℕ, refl, sym, ap, subst, length}
use Rattle.std.proofs.lemmas.Option.{slice_get_read}
use Rattle.tprocesses.specs.Choosing.{lets_go_on}
use Rattle.tcertify.specs.Channels.{process_in}
use Rattle.tcertify.specs.Nodes.{Does, name_at, node_site, nothing}
use Rattle.tcertify.proofs.Messages.{address_is, channel_still, no_input, no_output, steps_chosen, steps_so}
use Rattle.tcertify.proofs.NodeRunning.{grows_on}
use Rattle.tcertify.proofs.node.Node.channel_step.Goals as goal

pub returns-in_default : goal.returns-in_default
returns-in_default c =
    no_output c.args.self.now c.half-input.new.self c.args.channel c.requires c.half-input.result
    c.half-input.ensures.looks c.half-output.result c.half-output.new.self c.half-output.ensures.looks
    c.in_default.not-Taken

pub returns-in-Taken-input : goal.returns-in-Taken-input
returns-in-Taken-input c =
    steps_so c.args.self.now c.half-input.new.self c.args.channel c.requires c.half-input.result
    c.half-input.ensures.looks c.half-output.result c.half-output.new.self c.half-output.ensures.looks
    c.in-Taken.sender c.in-Taken.is _ _ c.in-Taken-input.receiver c.in-Taken-input.is
    (c.half-input.ensures.known c.in-Taken-input.receiver.process (ap process_in c.in-Taken-input.is))
    (c.half-output.ensures.known c.in-Taken.sender.process (ap process_in c.in-Taken.is)) c.meets.ensures

pub returns-in-Awaited : goal.returns-in-Awaited
returns-in-Awaited c =
    let a = c.args.self.now in let b = c.half-input.new.self in let d = c.half-output.new.self in
    let j = c.args.channel in let k = c.in-Awaited.process in let chs = d.channels.items.items in
    let is_there = channel_still a d j (grows_on a b d c.half-input.ensures.looks.grows
    c.half-output.ensures.looks.grows) c.requires in
    let there = slice_get_read chs (length chs) j c.index.result.now refl is_there c.index.ensures in
    steps_chosen a b j c.requires c.half-input.result c.half-input.ensures.looks c.half-output.result d
    c.half-output.ensures.looks c.in-Taken.sender c.in-Taken.is _ c.lets_go_on.result k c.in-Awaited.is
    (c.half-input.ensures.known k (ap process_in c.in-Awaited.is))
    (c.half-output.ensures.known c.in-Taken.sender.process (ap process_in c.in-Taken.is))
    (subst (λ (w : ℕ). Does (lets_go_on (node_site d) w (name_at d k)) nothing d c.lets_go_on.result
    c.lets_go_on.new.self) (sym (address_is d j c.index.result.now there)) c.lets_go_on.ensures)

pub returns-in-Nobody : goal.returns-in-Nobody
returns-in-Nobody c =
    no_input c.args.self.now c.half-input.new.self c.args.channel c.requires c.half-input.result
    c.half-input.ensures.looks c.half-output.result c.half-output.new.self c.half-output.ensures.looks
    c.in-Taken.sender c.in-Taken.is c.in-Nobody.is
