use Rattle.tfindings.proofs.StepsMade.{IsAgain}
use Rattle.tfindings.proofs.steps.made_on.Given as goal

-- a run was made again up to the machine, with so many steps with the number
abbrev pub invariant-loop : goal.invariant-loop
invariant-loop l = IsAgain l.plan l.number l.machine l.count l.earlier
