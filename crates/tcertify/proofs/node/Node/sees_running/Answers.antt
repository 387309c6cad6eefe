use Rattle.std.proofs.Common.{refl, ap, ◌∙◌, length, inl}
use Rattle.std.proofs.lemmas.Option.{slice_get_read}
use Rattle.tprocesses.specs.Places.{Standing}
use Rattle.tprocesses.specs.Values.{IsStand}
use Rattle.tprocesses.specs.Values as value
use Rattle.tcertify.specs.declared.notes.Mode.TheVariants.{Looks}
use Rattle.tcertify.specs.declared.standing.Stand.{Stand}
use Rattle.tcertify.specs.Contexts.{context_of}
use Rattle.tcertify.specs.Nodes.{name_at}
use Rattle.tcertify.specs.Standing.{stand_of}
use Rattle.tcertify.proofs.Growing.{lists_stay}
use Rattle.tcertify.proofs.NodeChanging.{looks_at}
use Rattle.tcertify.proofs.NodeStands.{running_there, stand_number, stand_seen}
use Rattle.tcertify.proofs.node.Node.sees_running.Goals as goal

pub returns : goal.returns
returns c =
    let a = c.args.self.now in let k = c.args.process in let p = c.index.result.now in
    let ps = a.processes.items.items in
    let there = slice_get_read ps (length ps) k p refl c.requires.there c.index.ensures in
    let is = running_there a k p c.args.context.now there c.requires.runs in
    looks_at a _ (Standing (name_at a k)) p.place Looks (lists_stay a _ refl refl refl refl refl refl)
    c.add.ensures.keeps c.add.ensures.tells (λ numbering n. stand_number _ k p there numbering n)
    (IsStand (value.Runs (context_of c.args.context.now))) refl (λ rest. refl)
    (λ rest. stand_seen a k p there rest ∙ ap (λ (s : Stand). IsStand (stand_of s)) is) (λ l old. inl old)
