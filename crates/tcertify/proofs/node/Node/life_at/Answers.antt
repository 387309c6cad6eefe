use Rattle.std.proofs.Common.{refl, ◌∙◌}
use Rattle.std.proofs.lemmas.Option.{slice_get_within}
use Rattle.tprocesses.specs.Parts.{done}
use Rattle.tcertify.proofs.Growing.{lists_stay}
use Rattle.tcertify.proofs.NodeChanging.{grows_alone}
use Rattle.tcertify.proofs.NodeLives.{lives_same, workspace_in}
use Rattle.tcertify.proofs.NodeRunning.{does_after}
use Rattle.tcertify.proofs.node.Node.life_at.Goals as goal

pub returns-in-Some-clause-done : goal.returns-in-Some-clause-done
returns-in-Some-clause-done c =
    let a = c.args.self.now in
    grows_alone a _ (lists_stay a _ refl refl refl refl refl c.find.ensures.items)
    (λ rest. lives_same a c.find.new.self.items.items c.find.ensures.items rest) refl refl

pub returns-in-Some-clause-there : goal.returns-in-Some-clause-there
returns-in-Some-clause-there c =
    let (l, there, own) = c.in-Some.ensures.found in (
      slice_get_within c.find.new.self.items.items c.in-Some.number l there,
      workspace_in c.find.new.self.items.items c.in-Some.number l there ∙ own,
    )

pub returns-clause-done : goal.returns-clause-done
returns-clause-done c =
    let a = c.args.self.now in
    does_after done (λ _. tt) a _ c.adds_workspace.new.self c.adds_workspace.result
    (grows_alone a _ (lists_stay a _ refl refl refl refl refl c.find.ensures.items)
    (λ rest. lives_same a c.find.new.self.items.items c.find.ensures.items rest) refl refl)
    c.adds_workspace.ensures.done
