use Rattle.std.proofs.Common.{◌∙◌, inl, refl, sym}
use Rattle.tplan.specs.Wires.{end_at}
use Rattle.tprocesses.specs.Places.{Unfinished}
use Rattle.tprocesses.specs.Values.{IsFlag}
use Rattle.tcertify.specs.declared.notes.Mode.TheVariants.{Looks}
use Rattle.tcertify.proofs.Growing.{lists_stay}
use Rattle.tcertify.proofs.NodeChanging.{looks_at}
use Rattle.tcertify.proofs.NodeOutputs.{unfinished_seen}
use Rattle.tcertify.proofs.node.Node.is_unfinished.Goals as goal

pub returns : goal.returns
returns c =
    let a = c.args.self.now in let k = c.args.link in
    looks_at a _ (Unfinished (end_at a.words.number k)) c.unfinished_place-place.result Looks
    (lists_stay a _ refl refl refl refl refl refl) c.add.ensures.keeps c.add.ensures.tells
    (λ numbering n. n.unfinished k c.requires ∙ sym c.unfinished_place-place.ensures)
    (IsFlag c.is_unfinished.result) refl (λ rest. refl)
    (λ rest. unfinished_seen a k c.is_unfinished.result c.is_unfinished.ensures rest) (λ l old. inl old)
