-- Each configuration that a run of a plan without a fault leads to is steady.
use Rattle.std.proofs.Common.{subst, List, [], ◌∷◌}
use Rattle.tplan.specs.declared.event.Note.{Note}
use Rattle.tnet.specs.Building.{opening_configuration}
use Rattle.tnet.specs.Rendezvous.{Configuration, Step, IsRun}
use Rattle.tseen.specs.Steps.{AreSteady, RunsStaySteady}
use Rattle.tseen.proofs.SteadyOpening.{opening_nodes_are_steady}
use Rattle.tseen.proofs.SteadySteps.{steps_keep_steady}

steady_at_end : (c c' : Configuration) (steps : List Step) (notes : List Note) → IsRun c steps notes c' → AreSteady c
    → AreSteady c'
steady_at_end c c' [] notes run all = subst AreSteady run.1 all
steady_at_end c c' (l ∷ steps) notes (mid, rest, lawful, told, run) all =
    steady_at_end mid c' steps rest run (steps_keep_steady c mid l lawful all)

pub runs_stay_steady : RunsStaySteady
runs_stay_steady p c steps notes none words run =
    steady_at_end (opening_configuration p) c steps notes run (opening_nodes_are_steady p none words)
