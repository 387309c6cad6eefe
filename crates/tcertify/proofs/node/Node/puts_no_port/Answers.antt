use Rattle.std.proofs.Common.{◌≡◌, ℕ, refl, sym, ap, subst, ◌∙◌, length, List}
use Rattle.tprocesses.specs.Choosing.{without_port}
use Rattle.tprocesses.specs.Places.{Name, Ports}
use Rattle.tprocesses.specs.Values.{ArePorts}
use Rattle.tprocesses.specs.Changes.{Put}
use Rattle.tcertify.specs.declared.notes.Mode.TheVariants.{Puts}
use Rattle.tcertify.specs.declared.process.Process.{Process}
use Rattle.tcertify.specs.Nodes.{name_at, node_at, ports_at}
use Rattle.tcertify.specs.Processes.{name_of}
use Rattle.tcertify.specs.Running.{changed}
use Rattle.tcertify.proofs.Growing.{process_key, channel_key, life_key}
use Rattle.tcertify.proofs.Keeping.{IsKept, kept_all, kept_set, length_set}
use Rattle.tcertify.proofs.NodeChanging.{changes_at}
use Rattle.tcertify.proofs.NodePorts.{key_stays, ports_are, ports_state, there_now}
use Rattle.tcertify.proofs.NodeStands.{known_still, name_is}
use Rattle.tcertify.proofs.node.Node.puts_no_port.Goals as goal

pub invariant_of-self : goal.invariant_of-self
invariant_of-self c =
    let a = c.args.self.now in (
      (a.words.sized, (a.words.numbered, tt)),
      (
        a.placed,
        (
          known_still (length a.processes.items.items) _ a.channels.items.items a.links
              (ap length c.disable-place.ensures.set ∙ length_set a.processes.items.items c.args.process _) a.known,
          tt,
        ),
      ),
    )

pub returns : goal.returns
returns c =
    let a = c.args.self.now in let e = c.disable-place.ensures in let qs = c.disable-place.new.self.items.items in
    let k = c.args.process in let p = e.process in let q = e.now in
    let was : ports_at a k ≡ p.ports.items = ports_are a k p e.there in
    let is : q.ports.items ≡ without_port c.args.channel (ports_at a k) =
    e.ports ∙ ap (λ (n : ℕ). without_port n p.ports.items) c.get.ensures ∙ ap (without_port c.args.channel) (sym was) in
    changes_at a _ (Ports (name_at a k)) c.disable-place.result Puts
    (record {
      site = refl;
      first = refl;
      fixed = refl;
      processes = subst (λ (rs : List Process). IsKept process_key a.processes.items.items rs) (sym e.set)
          (kept_set process_key a.processes.items.items k p q e.there
          (key_stays a qs k p q e.there e.set e.same c.disable-place.new.self.apart));
      channels = kept_all channel_key a.channels.items.items;
      lives = kept_all life_key a.lives.items.items;
    })
    c.add.ensures.keeps c.add.ensures.tells
    (λ numbering n. ap (λ (x : Name). numbering (Ports x)) (name_is a k p e.there)
    ∙ ap (λ (r : Process). numbering (Ports (name_of a.words.number r))) (sym e.same)
    ∙ n.ports k q (there_now a qs k p q e.there e.set e.same c.disable-place.new.self.apart)
    ∙ ap (λ (r : Process). r.place) e.same ∙ e.place)
    (Put (ArePorts (without_port c.args.channel (ports_at a k)))) refl
    (λ rest. ports_state a qs k p q e.there e.set e.same c.disable-place.new.self.apart rest
    ∙ ap (λ (x : Name). changed (Ports x) (Put (ArePorts q.ports.items)) (node_at a rest)) (sym (name_is a k p e.there))
    ∙ ap (λ (l : List ℕ). changed (Ports (name_at a k)) (Put (ArePorts l)) (node_at a rest)) is) refl
