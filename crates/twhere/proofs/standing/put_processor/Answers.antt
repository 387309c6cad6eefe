use Rattle.std.proofs.Common.{◌≡◌, ℕ, ap, ap₂, List, Option, Bool}
use Rattle.std.specs.Prelude.{codes}
use Rattle.tword.specs.declared.breaks.Break.{Break}
use Rattle.tproc.specs.declared.waiter.Waiter.{Waiter}
use Rattle.tproc.specs.Machine.{Machine}
use Rattle.tfiles.specs.Texts.{node_line}
use Rattle.tfiles.proofs.Told.{tells_as, tells_then}
use Rattle.twhere.specs.Standing.{interrupted_facts, queue_facts, running_facts, waiting_facts}
use Rattle.twhere.proofs.standing.put_processor.Goals as goal

pub returns : goal.returns
returns g c =
    let machine : c.args.at.now.processor.now ≡ c.args.at.now.node.now.machine = c.args.at.now.same in
    let halted : c.is_halted.result ≡ c.args.at.now.node.now.machine.control.halted = (cc) in
    tells_then
    (tells_as c.put_node_line.ensures
    (ap₂ (λ (b : Option Break) (h : Bool). node_line c.args.at.now.number b h) c.broken.ensures halted))
    (tells_then (tells_as c.put_running.ensures (ap (λ (n : Machine). running_facts n n.control.current) machine))
    (tells_then
    (tells_as c.put_interrupted.ensures (ap (λ (n : Machine). interrupted_facts n n.control.interrupted) machine))
    (tells_then
    (tells_as c.put_queue.ensures
    (ap₂ (λ (n : Machine) (q : List ℕ). queue_facts (codes "  high queue    ") n q) machine c.as_slice.ensures))
    (tells_then
    (tells_as c.put_queue-2.ensures
    (ap₂ (λ (n : Machine) (q : List ℕ). queue_facts (codes "  low queue     ") n q) machine c.as_slice-2.ensures))
    (tells_as c.put_waiting.ensures
    (ap (λ (ws : List Waiter). waiting_facts c.args.at.now.net.now c.args.at.now.number c.args.at.now.node.now ws)
    c.as_slice-3.ensures))))))
