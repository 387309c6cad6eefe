use Rattle.std.proofs.Common.{ap, sym}
use Rattle.tfindings.specs.Telling.{code_text}
use Rattle.tfiles.proofs.Told.{tells_then, tells_as, tells_none}
use Rattle.tfindings.proofs.telling.put_code.Goals as goal

pub returns-in-Some : goal.returns-in-Some
returns-in-Some g c =
    tells_as (tells_then c.put.ensures
    (tells_then c.put_word.ensures (tells_then c.put-in-Some.ensures c.put_fetched.ensures)))
    (ap code_text (sym c.in-Some.is))

pub returns-in_default : goal.returns-in_default
returns-in_default g c = tells_as (tells_none c.args.out.now) (ap code_text (sym c.in_default.is))
