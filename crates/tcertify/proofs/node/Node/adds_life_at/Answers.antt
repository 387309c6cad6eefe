use Rattle.std.proofs.Common.{◌≡◌, ℕ, ℤ, refl, sym, ap, subst, ◌∙◌, length, rules, List, Option}
use Rattle.std.specs.Prelude.{◌+ℤ◌}
use Rattle.std.specs.Int.{w32}
use Rattle.std.proofs.lemmas.Option.{slice_get_read}
use Rattle.std.proofs.lemmas.Int.{to_z-of_z}
use Rattle.std.specs.Option.{SomeIff}
use mir.Val.{SFits, to_z, of_z}
use Rattle.tprocesses.specs.Changes.{Add}
use Rattle.tprocesses.specs.Places as place
use Rattle.tcertify.specs.declared.life.Life.{Life}
use Rattle.tcertify.specs.declared.notes.Mode.TheVariants.{Adds}
use Rattle.tcertify.specs.Nodes.{node_at, workspace_at}
use Rattle.tcertify.specs.Running.{changed}
use Rattle.tcertify.proofs.Growing.{process_key, channel_key, life_key}
use Rattle.tcertify.proofs.Keeping.{IsKept, kept_all, kept_set}
use Rattle.tcertify.proofs.NodeChanging.{changes_at}
use Rattle.tcertify.proofs.NodeLives.{count_state, life_now, workspace_is}
use Rattle.tcertify.proofs.node.Node.adds_life_at.Goals as goal

pub returns : goal.returns
returns c =
    let a = c.args.self.now in let k = c.args.number in let l = c.index-life.result.now in
    let ls = a.lives.items.items in let ms = c.set.new.self.items.items in let z = c.args.more in
    let there = slice_get_read ls (length ls) k l refl c.requires c.index-life.ensures in
    let m : Life = record l { count = to_z w32 (of_z w32 c.in_ok-count.count) } in
    let both : ℤ = to_z w32 (of_z w32 l.count) +ℤ to_z w32 (of_z w32 z) in
    let e : to_z w32 (of_z w32 l.count) ≡ l.count = search rules in
    let f : to_z w32 (of_z w32 z) ≡ z = search rules in
    let s = subst (λ (o : Option ℤ). SomeIff o (SFits w32 both) both) c.in_ok-count.ensures.ok_part
    c.checked_add.ensures in
    let sum : m.count ≡ l.count +ℤ z =
    ap (λ (y : ℤ). to_z w32 (of_z w32 y)) s.1 ∙ to_z-of_z w32 both s.0
    ∙ ap (λ (y : ℤ). y +ℤ to_z w32 (of_z w32 z)) e ∙ ap (λ (y : ℤ). l.count +ℤ y) f in
    changes_at a _ (place.Life a.words.number (workspace_at a k)) l.count_place Adds
    (record {
      site = refl;
      first = refl;
      fixed = refl;
      processes = kept_all process_key a.processes.items.items;
      channels = kept_all channel_key a.channels.items.items;
      lives = subst (λ (ns : List Life). IsKept life_key ls ns) (sym c.set.ensures) (kept_set life_key ls k l m there
          refl);
    })
    c.add.ensures.keeps c.add.ensures.tells
    (λ numbering n. ap (λ (w : ℕ). numbering (place.Life a.words.number w)) (workspace_is a k l there)
    ∙ n.life k m (life_now a ms k l m there c.set.ensures refl c.set.new.self.apart))
    (Add z) refl
    (λ rest. count_state a ms k l m there c.set.ensures refl c.set.new.self.apart z sum refl rest
    ∙ ap (λ (w : ℕ). changed (place.Life a.words.number w) (Add z) (node_at a rest)) (sym (workspace_is a k l there)))
    refl
