use Rattle.std.proofs.Common.{sym, ap}
use Rattle.std.specs.Prelude.{option_copied}
use Rattle.tfiles.proofs.Told.{tells_as, tells_none}
use Rattle.thistory.specs.Lines.{rest_text}
use Rattle.thistory.proofs.lines.put_rest.Goals as goal

pub returns-in_default : goal.returns-in_default
returns-in_default g c = tells_as (tells_none c.args.out.now) (ap rest_text (ap option_copied (sym c.in_default.is)))
