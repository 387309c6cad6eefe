use Rattle.std.proofs.Common.{ℕ, sym, ap, ◌∙◌, Option}
use Rattle.tcpu.specs.declared.registers.Registers.{Registers}
use Rattle.std.specs.Prelude.{codes}
use Rattle.tfiles.proofs.Told.{tells_as}
use Rattle.twhere.specs.Standing.{idle_facts, process_facts, running_facts}
use Rattle.twhere.proofs.processes.put_running.Goals as goal

pub returns-in-Some : goal.returns-in-Some
returns-in-Some g c =
    tells_as c.put_process.ensures
    (ap (λ (r : Registers). process_facts (codes "  runs          ") c.args.processor.now c.in-Some.priority r)
    c.registers.ensures
    ∙ ap (λ (p : Option ℕ). running_facts c.args.processor.now p) (sym c.in-Some.is ∙ c.current.ensures))

pub returns-in-None : goal.returns-in-None
returns-in-None g c =
    tells_as c.put_idle.ensures
    (ap idle_facts c.registers-in-None.ensures
    ∙ ap (λ (p : Option ℕ). running_facts c.args.processor.now p) (sym c.in-None.is ∙ c.current.ensures))
