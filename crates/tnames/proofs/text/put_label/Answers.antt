use Rattle.std.proofs.Common.{sym, ap}
use Rattle.tfiles.proofs.Told.{tells_none, tells_as}
use Rattle.tnames.specs.Texts.{label_text}
use Rattle.tnames.proofs.text.put_label.Goals as goal

pub returns-in-Some : goal.returns-in-Some
returns-in-Some g c = tells_as c.put_label_at.ensures (ap label_text (sym c.in-Some.ensures))

pub returns-in_default : goal.returns-in_default
returns-in_default g c = tells_as (tells_none c.args.out.now) (ap label_text (sym c.in_default.ensures))
