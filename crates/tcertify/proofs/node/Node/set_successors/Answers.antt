use Rattle.std.proofs.Common.{◌≡◌, ℕ, refl, sym, ap, subst, ◌∙◌, length, rules, List}
use Rattle.std.specs.Int.{w32}
use Rattle.std.proofs.lemmas.Option.{slice_get_read}
use mir.Val.{to_z, of_z}
use Rattle.tprocesses.specs.Changes.{Put}
use Rattle.tprocesses.specs.Places as place
use Rattle.tprocesses.specs.Values.{IsCount}
use Rattle.tcertify.specs.declared.life.Life.{Life}
use Rattle.tcertify.specs.declared.notes.Mode.TheVariants.{Puts}
use Rattle.tcertify.specs.Nodes.{node_at, workspace_at}
use Rattle.tcertify.specs.Running.{changed}
use Rattle.tcertify.proofs.Growing.{process_key, channel_key, life_key}
use Rattle.tcertify.proofs.Keeping.{IsKept, kept_all, kept_set}
use Rattle.tcertify.proofs.NodeChanging.{changes_at}
use Rattle.tcertify.proofs.NodeLives.{life_now, successors_state, workspace_is}
use Rattle.tcertify.proofs.node.Node.set_successors.Goals as goal

pub returns : goal.returns
returns c =
    let a = c.args.self.now in let k = c.args.number in let l = c.index-life.result.now in
    let ls = a.lives.items.items in let ms = c.set.new.self.items.items in let n = c.args.successors in
    let there = slice_get_read ls (length ls) k l refl c.requires c.index-life.ensures in
    let e : to_z w32 (of_z w32 l.count) ≡ l.count = search rules in
    let m : Life = record l { count = to_z w32 (of_z w32 l.count); successors = n } in
    changes_at a _ (place.Successions a.words.number (workspace_at a k)) l.successors_place Puts
    (record {
      site = refl;
      first = refl;
      fixed = refl;
      processes = kept_all process_key a.processes.items.items;
      channels = kept_all channel_key a.channels.items.items;
      lives = subst (λ (ns : List Life). IsKept life_key ls ns) (sym c.set.ensures) (kept_set life_key ls k l m there
          refl);
    })
    c.add.ensures.keeps c.add.ensures.tells
    (λ numbering h. ap (λ (w : ℕ). numbering (place.Successions a.words.number w)) (workspace_is a k l there)
    ∙ h.successions k m (life_now a ms k l m there c.set.ensures refl c.set.new.self.apart))
    (Put (IsCount n)) refl
    (λ rest. successors_state a ms k l m there c.set.ensures refl c.set.new.self.apart n refl e rest
    ∙ ap (λ (w : ℕ). changed (place.Successions a.words.number w) (Put (IsCount n)) (node_at a rest))
    (sym (workspace_is a k l there)))
    refl
