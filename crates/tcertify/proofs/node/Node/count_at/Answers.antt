use Rattle.std.proofs.Common.{◌≡◌, ℕ, refl, sym, ap, ◌∙◌, length, rules, inl}
use Rattle.std.specs.Int.{w32}
use Rattle.std.proofs.lemmas.Option.{slice_get_read}
use mir.Val.{to_z, of_z}
use Rattle.tprocesses.specs.Places.{Life}
use Rattle.tprocesses.specs.Values.{IsAmount}
use Rattle.tcertify.specs.declared.notes.Mode.TheVariants.{Looks}
use Rattle.tcertify.specs.Nodes.{node_at, workspace_at}
use Rattle.tcertify.proofs.Growing.{lists_stay}
use Rattle.tcertify.proofs.NodeChanging.{looks_at}
use Rattle.tcertify.proofs.NodeLives.{life_seen, workspace_is}
use Rattle.tcertify.proofs.node.Node.count_at.Goals as goal

pub returns : goal.returns
returns c =
    let a = c.args.self.now in let k = c.args.number in let l = c.index-life.result.now in
    let ls = a.lives.items.items in
    let e : to_z w32 (of_z w32 l.count) ≡ l.count = search rules in
    let there = slice_get_read ls (length ls) k l refl c.requires c.index-life.ensures in
    looks_at a _ (Life a.words.number (workspace_at a k)) l.count_place Looks
    (lists_stay a _ refl refl refl refl refl refl) c.add.ensures.keeps c.add.ensures.tells
    (λ numbering n. ap (λ (w : ℕ). numbering (Life a.words.number w)) (workspace_is a k l there) ∙ n.life k l there)
    (IsAmount (to_z w32 (of_z w32 l.count))) refl (λ rest. refl)
    (λ rest. ap (λ (w : ℕ). node_at a rest (Life a.words.number w)) (workspace_is a k l there)
    ∙ life_seen a k l there rest ∙ ap IsAmount (sym e)) (λ j old. inl old)
