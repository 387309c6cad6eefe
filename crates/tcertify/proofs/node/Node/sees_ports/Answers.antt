use Rattle.std.proofs.Common.{refl, length, inl}
use Rattle.std.proofs.lemmas.Option.{slice_get_read}
use Rattle.tprocesses.specs.Places.{Ports}
use Rattle.tprocesses.specs.Values.{ArePorts}
use Rattle.tcertify.specs.declared.notes.Mode.TheVariants.{Looks}
use Rattle.tcertify.specs.Nodes.{name_at, ports_at}
use Rattle.tcertify.proofs.Growing.{lists_stay}
use Rattle.tcertify.proofs.NodeChanging.{looks_at}
use Rattle.tcertify.proofs.NodePorts.{ports_number, ports_seen}
use Rattle.tcertify.proofs.node.Node.sees_ports.Goals as goal

pub returns-clause-looks : goal.returns-clause-looks
returns-clause-looks c =
    let a = c.args.self.now in let k = c.args.process in let p = c.index.result.now in
    let ps = a.processes.items.items in
    let there = slice_get_read ps (length ps) k p refl c.requires c.index.ensures in
    looks_at a _ (Ports (name_at a k)) p.place Looks (lists_stay a _ refl refl refl refl refl refl)
    c.add.ensures.keeps c.add.ensures.tells (λ numbering n. ports_number _ k p there numbering n)
    (ArePorts (ports_at a k)) refl (λ rest. refl) (λ rest. ports_seen a k p there rest) (λ l old. inl old)
