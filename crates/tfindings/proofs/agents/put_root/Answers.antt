use Rattle.std.proofs.Common.{ap, sym, decimal}
use Rattle.tfiles.proofs.Told.{tells_then, tells_as}
use Rattle.tcertify.specs.declared.process.Root.{Root}
use Rattle.tcertify.specs.Processes.{root_of}
use Rattle.tfindings.specs.Agents.{root_text}
use Rattle.tfindings.proofs.agents.put_root.Goals as goal

pub returns-in-After : goal.returns-in-After
returns-in-After g c =
    tells_as (tells_then c.put.ensures
    (tells_then c.put_word.ensures
    (tells_then c.put-in-After.ensures
    (tells_as c.put_decimal-in-After.ensures (ap decimal c.from-in-After.ensures)))))
    (ap (λ (r : Root). root_text (root_of r)) (sym c.in-After.is))
