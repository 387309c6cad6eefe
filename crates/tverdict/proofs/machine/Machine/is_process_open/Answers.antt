use Rattle.std.proofs.Common.{◌<◌, ◌∙◌, sym, refl, subst, length}
use Rattle.std.proofs.lemmas.Option.{same_Some, slice_get_read, slice_get_within}
use Rattle.tcertify.specs.declared.node.Node.{Node}
use Rattle.tverdict.proofs.Opens.{process_open}
use Rattle.tverdict.proofs.machine.Machine.is_process_open.Goals as goal

pub returns : goal.returns
returns c = λ plan is.
    let m = c.args.self.now in let nodes = m.nodes.items in let n = c.args.node in let k = c.args.process in
    let node = c.index.result.now in let p = c.index-process.result.now in let ps = node.processes.items.items in
    let (x, at, within) = c.requires in
    let there = slice_get_read nodes (length nodes) n node refl (slice_get_within nodes n x at) c.index.ensures in
    let low = subst (λ (a : Node). k < length a.processes.items.items) (same_Some x node (sym at ∙ there)) within in
    let found = slice_get_read ps (length ps) k p refl low c.index-process.ensures in
    c.is_ready_at.ensures
    ∙ sym (process_open plan nodes m.sent.items m.sinks.items n node there (is.numbers n node there) k p found)
