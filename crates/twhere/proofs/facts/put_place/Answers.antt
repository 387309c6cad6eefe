use Rattle.std.proofs.Common.{ap}
use Rattle.tfiles.proofs.Told.{tells_then, tells_as}
use Rattle.twhere.specs.Standing.{code_text}
use Rattle.twhere.proofs.facts.put_place.Goals as goal

pub returns : goal.returns
returns g c =
    tells_then c.put_word.ensures
    (tells_then c.put.ensures (tells_as c.put_code.ensures (ap (code_text c.args.processor.now) c.saved_iptr.ensures)))
