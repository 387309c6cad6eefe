use Rattle.std.proofs.Common.{sym, ap}
use Rattle.std.specs.Prelude.{option_copied}
use Rattle.tfiles.proofs.Told.{tells_as, tells_none}
use Rattle.thistory.specs.Steps.{registers_text}
use Rattle.thistory.proofs.steps.put_registers.Goals as goal

pub returns-in_default : goal.returns-in_default
returns-in_default g c =
    tells_as (tells_none c.args.out.now) (ap registers_text (ap option_copied (sym c.in_default.is)))
