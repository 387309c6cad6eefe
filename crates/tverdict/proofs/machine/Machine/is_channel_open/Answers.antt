use Rattle.std.proofs.Common.{◌<◌, ◌∙◌, sym, refl, ap, subst, length, Bool}
use Rattle.std.specs.Prelude.{◌&&◌}
use Rattle.std.proofs.lemmas.Option.{same_Some, slice_get_read, slice_get_within}
use Rattle.tproc.specs.declared.channels.Side.TheVariants.{Input, Output}
use Rattle.tprocesses.specs.Machine.{is_met_at}
use Rattle.tprocesses.specs.Places.{Half}
use Rattle.tcertify.specs.declared.node.Node.{Node}
use Rattle.tcertify.specs.Channels.{holder_of}
use Rattle.tcertify.specs.Nodes.{names}
use Rattle.tverdict.proofs.Opens.{channel_open, first_false}
use Rattle.tverdict.proofs.machine.Machine.is_channel_open.Goals as goal

pub returns-then-is_met_at_input : goal.returns-then-is_met_at_input
returns-then-is_met_at_input c = λ plan is.
    let m = c.args.self.now in let nodes = m.nodes.items in let n = c.args.node in let k = c.args.channel in
    let node = c.index.result.now in let h = c.index-channel.result.now in let hs = node.channels.items.items in
    let (x, at, within) = c.requires in
    let there = slice_get_read nodes (length nodes) n node refl (slice_get_within nodes n x at) c.index.ensures in
    let low = subst (λ (a : Node). k < length a.channels.items.items) (same_Some x node (sym at ∙ there)) within in
    let found = slice_get_read hs (length hs) k h refl low c.index-channel.ensures in
    c.is_met_at_output.ensures n h.address (names node)
    ∙ sym (ap (λ (b : Bool). b && is_met_at (Half n h.address Output) (holder_of (names node) h.output.holder))
    (sym (c.is_met_at_input.ensures n h.address (names node)) ∙ c.if-is_met_at_input.true))
    ∙ sym (channel_open plan nodes m.sent.items m.sinks.items n node there (is.numbers n node there) k h found)

pub returns-else-is_met_at_input : goal.returns-else-is_met_at_input
returns-else-is_met_at_input c = λ plan is.
    let m = c.args.self.now in let nodes = m.nodes.items in let n = c.args.node in let k = c.args.channel in
    let node = c.index.result.now in let h = c.index-channel.result.now in let hs = node.channels.items.items in
    let (x, at, within) = c.requires in
    let there = slice_get_read nodes (length nodes) n node refl (slice_get_within nodes n x at) c.index.ensures in
    let low = subst (λ (a : Node). k < length a.channels.items.items) (same_Some x node (sym at ∙ there)) within in
    let found = slice_get_read hs (length hs) k h refl low c.index-channel.ensures in
    let input = c.is_met_at_input.ensures n h.address (names node) in
    input
    ∙ first_false (is_met_at (Half n h.address Input) (holder_of (names node) h.input.holder))
    (is_met_at (Half n h.address Output) (holder_of (names node) h.output.holder))
    (sym input ∙ c.if-is_met_at_input.false)
    ∙ sym (channel_open plan nodes m.sent.items m.sinks.items n node there (is.numbers n node there) k h found)
