use Rattle.std.proofs.Common.{sym, ap}
use Rattle.tfiles.proofs.Told.{tells_none, tells_then, tells_as}
use Rattle.tnames.specs.Texts.{found_text}
use Rattle.tnames.proofs.text.put_name.Goals as goal

pub returns-in-Some : goal.returns-in-Some
returns-in-Some g c =
    tells_as (tells_then c.put.ensures c.put_distance.ensures) (ap found_text (sym c.in-Some.ensures))

pub returns-in_default : goal.returns-in_default
returns-in_default g c = tells_as (tells_none c.args.out.now) (ap found_text (sym c.in_default.ensures))
