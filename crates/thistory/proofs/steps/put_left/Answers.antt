use Rattle.std.proofs.Common.{sym, ap}
use Rattle.std.specs.Prelude.{option_copied}
use Rattle.tfiles.proofs.Told.{tells_as, tells_none}
use Rattle.thistory.specs.declared.deed.Deed.{Deed}
use Rattle.thistory.specs.Steps.{left_text}
use Rattle.thistory.proofs.steps.put_left.Goals as goal

pub returns-in-Ack : goal.returns-in-Ack
returns-in-Ack g c =
    tells_as (tells_none c.args.out.now)
    (ap (λ (d : Deed). left_text d c.args.done.now.answer (option_copied c.args.processor)) (sym c.in-Ack.is))
