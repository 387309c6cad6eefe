use Rattle.std.proofs.Common.{ℕ, refl, ap, ◌∙◌, length, inl}
use Rattle.std.proofs.lemmas.Option.{slice_get_read}
use Rattle.tprocesses.specs.Places.{Successions}
use Rattle.tprocesses.specs.Values.{IsCount}
use Rattle.tcertify.specs.declared.notes.Mode.TheVariants.{Looks}
use Rattle.tcertify.specs.Nodes.{node_at, workspace_at}
use Rattle.tcertify.proofs.Growing.{lists_stay}
use Rattle.tcertify.proofs.NodeChanging.{looks_at}
use Rattle.tcertify.proofs.NodeLives.{successors_seen, workspace_is}
use Rattle.tcertify.proofs.node.Node.successors_of.Goals as goal

pub returns : goal.returns
returns c =
    let a = c.args.self.now in let k = c.args.number in let l = c.index-life.result.now in
    let ls = a.lives.items.items in
    let there = slice_get_read ls (length ls) k l refl c.requires c.index-life.ensures in
    looks_at a _ (Successions a.words.number (workspace_at a k)) l.successors_place Looks
    (lists_stay a _ refl refl refl refl refl refl) c.add.ensures.keeps c.add.ensures.tells
    (λ numbering n. ap (λ (w : ℕ). numbering (Successions a.words.number w)) (workspace_is a k l there)
    ∙ n.successions k l there)
    (IsCount l.successors) refl (λ rest. refl)
    (λ rest. ap (λ (w : ℕ). node_at a rest (Successions a.words.number w)) (workspace_is a k l there)
    ∙ successors_seen a k l there rest) (λ j old. inl old)
