use Rattle.std.proofs.Common.{◌≡◌, ℕ, pos, refl, sym, ap, subst, ◌∙◌, length, arith, rules, List, [], ◌∷◌, ◌++◌}
use Rattle.std.proofs.Common.{length-append}
use Rattle.std.specs.Prelude.{slice_get}
use Rattle.tcertify.specs.declared.life.Life.{Life}
use Rattle.tcertify.proofs.Growing.{process_key, channel_key, life_key}
use Rattle.tcertify.proofs.Keeping.{IsKept, get_pushed, kept_all, kept_push}
use Rattle.tcertify.proofs.NodeChanging.{grows_alone}
use Rattle.tcertify.proofs.NodeLives.{workspace_in, workspace_state}
use Rattle.tcertify.proofs.node.Node.adds_workspace.Goals as goal

pub returns-clause-done : goal.returns-clause-done
returns-clause-done c =
    let a = c.args.self.now in let ls = a.lives.items.items in
    let l : Life = record {
      workspace = c.args.workspace;
      count = pos 0;
      count_place = c.in-Some.count_place;
      successors = 0;
      successors_place = c.in-Some-next_place.successors_place;
    } in
    grows_alone a _
    (record {
      site = refl;
      first = refl;
      fixed = refl;
      processes = kept_all process_key a.processes.items.items;
      channels = kept_all channel_key a.channels.items.items;
      lives = subst (λ (ns : List Life). IsKept life_key ls ns) (sym c.in_ok-push.ensures) (kept_push life_key ls l);
    })
    (λ rest. workspace_state a l c.requires refl refl c.push.new.self.items.items c.in_ok-push.ensures rest) refl refl

pub returns-clause-there : goal.returns-clause-there
returns-clause-there c =
    let a = c.args.self.now in let ls = a.lives.items.items in
    let l : Life = record {
      workspace = c.args.workspace;
      count = pos 0;
      count_place = c.in-Some.count_place;
      successors = 0;
      successors_place = c.in-Some-next_place.successors_place;
    } in
    let at : c.len-number.result ≡ length ls = search rules in (
      omega (arith, at, ap length c.in_ok-push.ensures, length-append ls (l ∷ [])),
      workspace_in c.push.new.self.items.items c.len-number.result l
          (ap (λ (ns : List Life). slice_get ns c.len-number.result) c.in_ok-push.ensures
          ∙ ap (λ (n : ℕ). slice_get (ls ++ l ∷ []) n) at ∙ get_pushed ls l),
    )
