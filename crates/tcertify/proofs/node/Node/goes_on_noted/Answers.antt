use Rattle.std.proofs.Common.{ℕ, refl, sym, ap, subst, ◌∙◌, length, List}
use Rattle.std.specs.Prelude.{option_map}
use Rattle.tprocesses.specs.Places.{Name, Standing}
use Rattle.tprocesses.specs.Values.{IsStand}
use Rattle.tprocesses.specs.Changes.{Put}
use Rattle.tcertify.specs.declared.notes.Mode.TheVariants.{Puts}
use Rattle.tcertify.specs.declared.process.Process.{Process}
use Rattle.tcertify.specs.declared.standing.Stand.TheVariants.{Runs}
use Rattle.tcertify.specs.Carried.{with_registers}
use Rattle.tcertify.specs.Nodes.{name_at, node_at}
use Rattle.tcertify.specs.Notes.{Tells}
use Rattle.tcertify.proofs.NodeRunning.{keeps_all}
use Rattle.tcertify.specs.Running.{changed}
use Rattle.tcertify.specs.Standing.{stand_of}
use Rattle.tcertify.proofs.Growing.{process_key, channel_key, life_key}
use Rattle.tcertify.proofs.Keeping.{IsKept, kept_all, kept_set, length_set}
use Rattle.tcertify.proofs.NodeChanging.{changes_at}
use Rattle.tcertify.proofs.NodeStands.{known_still, name_is, stand_state, there_now}
use Rattle.tcertify.proofs.node.Node.goes_on_noted.Goals as goal

pub invariant_of-self-clause-known : goal.invariant_of-self-clause-known
invariant_of-self-clause-known c =
    let a = c.args.self.now in
    known_still (length a.processes.items.items) _ a.channels.items.items a.links
    (ap length c.set_left-place.ensures.set ∙ length_set a.processes.items.items c.args.process _) a.known

pub returns-clause-done : goal.returns-clause-done
returns-clause-done c =
    let a = c.args.self.now in let e = c.set_left-place.ensures in let qs = c.set_left-place.new.self.items.items in
    let k = c.args.process in let p = e.process in
    let s = Runs (with_registers c.args.context.now c.args.left) in
    changes_at a _ (Standing (name_at a k)) c.set_left-place.result Puts
    (record {
      site = refl;
      first = refl;
      fixed = refl;
      processes = subst (λ (rs : List Process). IsKept process_key a.processes.items.items rs) (sym e.set)
          (kept_set process_key a.processes.items.items k p (record p { stand = s }) e.there refl);
      channels = kept_all channel_key a.channels.items.items;
      lives = kept_all life_key a.lives.items.items;
    })
    (keeps_all a.words.notes)
    (subst (λ (n : ℕ). Tells a.words.notes n Puts) e.place (c.requires.noted p e.there))
    (λ numbering n. ap (λ (x : Name). numbering (Standing x)) (name_is a k p e.there)
    ∙ n.stand k (record p { stand = s }) (there_now a qs k p s e.there e.set c.set_left-place.new.self.apart) ∙
    e.place)
    (Put (IsStand (stand_of s))) refl
    (λ rest. stand_state a qs k p s e.there e.set c.set_left-place.new.self.apart rest
    ∙ ap (λ (x : Name). changed (Standing x) (Put (IsStand (stand_of s))) (node_at a rest))
    (sym (name_is a k p e.there))) refl

pub returns-clause-goes : goal.returns-clause-goes
returns-clause-goes c =
    let a = c.args.self.now in let e = c.set_left-place.ensures in let qs = c.set_left-place.new.self.items.items in
    let k = c.args.process in let p = e.process in
    let s = Runs (with_registers c.args.context.now c.args.left) in
    ap (option_map (λ (q : Process). q.stand))
    (there_now a qs k p s e.there e.set c.set_left-place.new.self.apart)

pub returns-clause-processes : goal.returns-clause-processes
returns-clause-processes c =
    let e = c.set_left-place.ensures in
    ap length e.set ∙ length_set c.args.self.now.processes.items.items c.args.process _
