use Rattle.std.proofs.Common.{◌≡◌, ◌<◌, ℕ, false, length, List, None, Option, Some, refl, subst, sym, ap, ◌∙◌}
use Rattle.std.specs.Prelude.{IfNone, IfSome, slice_get}
use Rattle.std.proofs.lemmas.Option.{same_Some, slice_get_read, slice_get_within}
use Rattle.tcertify.specs.declared.node.Node.{Node}
use Rattle.tcertify.specs.declared.process.Process.{Process}
use Rattle.tcertify.specs.Standing.{stand_of}
use Rattle.tfollow.specs.Sites.{is_listening}
use Rattle.tverdict.specs.Listening.{IsListening, ListensAt, ListensNowhere}
use Rattle.tverdict.proofs.machine.Machine.listened_at.Goals as goal

-- what is read of the node and the process is what is there
module _ (nodes : List Node) (n k : ℕ) (node : Node) (known : Process) (at : slice_get nodes n ≡ Some node)
    (has : slice_get node.processes.items.items k ≡ Some known) where
  some_by : (o : Option ℕ) → IfSome o (λ channel. IsListening channel known.stand)
      → IfSome o (λ channel. ListensAt nodes n k channel)
  some_by None h = tt
  some_by (Some channel) h = record { node = node; there = at; known = known; has = has; listens = h }

  none_by : (o : Option ℕ) → IfNone o (is_listening (stand_of known.stand) ≡ false)
      → IfNone o (ListensNowhere nodes n k)
  none_by (Some channel) h = tt
  none_by None h = λ x p there by.
      let same : node ≡ x = same_Some node x (sym at ∙ there) in
      let here : slice_get node.processes.items.items k ≡ Some p =
      ap (λ (y : Node). slice_get y.processes.items.items k) same ∙ by in
      subst (λ (q : Process). is_listening (stand_of q.stand) ≡ false) (same_Some known p (sym has ∙ here)) h

pub returns-clause-some : goal.returns-clause-some
returns-clause-some c =
    let nodes = c.args.self.now.nodes.items in let n = c.args.node in let k = c.args.process in
    let node = c.index.result.now in let known = c.index-process.result.now in let (x, at, low) = c.requires in
    let there = slice_get_read nodes (length nodes) n node refl (slice_get_within nodes n x at) c.index.ensures in
    let within = subst (λ (y : Node). k < length y.processes.items.items) (same_Some x node (sym at ∙ there)) low in
    some_by nodes n k node known there
    (slice_get_read node.processes.items.items (length node.processes.items.items) k known refl within
    c.index-process.ensures) c.listened.result c.listened.ensures.some

pub returns-clause-none : goal.returns-clause-none
returns-clause-none c =
    let nodes = c.args.self.now.nodes.items in let n = c.args.node in let k = c.args.process in
    let node = c.index.result.now in let known = c.index-process.result.now in let (x, at, low) = c.requires in
    let there = slice_get_read nodes (length nodes) n node refl (slice_get_within nodes n x at) c.index.ensures in
    let within = subst (λ (y : Node). k < length y.processes.items.items) (same_Some x node (sym at ∙ there)) low in
    none_by nodes n k node known there
    (slice_get_read node.processes.items.items (length node.processes.items.items) k known refl within
    c.index-process.ensures) c.listened.result c.listened.ensures.none
