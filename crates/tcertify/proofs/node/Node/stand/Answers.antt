use Rattle.std.proofs.Common.{refl, sym, ◌∙◌, length, inl}
use Rattle.std.proofs.lemmas.Option.{slice_get_read}
use Rattle.tprocesses.specs.Places.{Standing}
use Rattle.tprocesses.specs.Values.{IsStand}
use Rattle.tcertify.specs.declared.lead.Lead.TheVariants.{Process}
use Rattle.tcertify.specs.declared.notes.Mode.TheVariants.{Looks}
use Rattle.tcertify.specs.Nodes.{name_at}
use Rattle.tcertify.specs.Standing.{stand_of}
use Rattle.tcertify.proofs.Growing.{lists_stay}
use Rattle.tcertify.proofs.NodeChanging.{looks_and_leads, looks_at}
use Rattle.tcertify.proofs.NodeStands.{stand_leads, stand_number, stand_seen}
use Rattle.tcertify.proofs.node.Node.stand.Goals as goal

pub returns-then-not-is_ready : goal.returns-then-not-is_ready
returns-then-not-is_ready c =
    let a = c.args.self.now in let k = c.args.process in let p = c.index-seen.result.now in
    let ps = a.processes.items.items in
    let there = slice_get_read ps (length ps) k p refl c.requires c.index-seen.ensures in
    looks_and_leads a _ c.note_lead.new.self (Standing (name_at a k)) p.place Looks (Process k) c.note_lead.ensures
    (IsStand (stand_of p.stand)) (lists_stay a _ refl refl refl refl refl refl) (λ rest. refl) refl
    c.add.ensures.keeps c.add.ensures.tells (λ numbering n. stand_number _ k p there numbering n) refl
    (λ rest. stand_seen a k p there rest)
    (stand_leads _ c.note_lead.new.self k p c.note_lead.ensures there
    (sym c.is_ready.ensures ∙ c.if-not-is_ready.true))

pub returns-else-not-is_ready : goal.returns-else-not-is_ready
returns-else-not-is_ready c =
    let a = c.args.self.now in let k = c.args.process in let p = c.index-seen.result.now in
    let ps = a.processes.items.items in
    let there = slice_get_read ps (length ps) k p refl c.requires c.index-seen.ensures in
    looks_at a _ (Standing (name_at a k)) p.place Looks (lists_stay a _ refl refl refl refl refl refl)
    c.add.ensures.keeps c.add.ensures.tells (λ numbering n. stand_number _ k p there numbering n)
    (IsStand (stand_of p.stand)) refl (λ rest. refl) (λ rest. stand_seen a k p there rest) (λ l old. inl old)
