use Rattle.std.proofs.Common.{ap, sym}
use Rattle.tfiles.proofs.Told.{tells_as, tells_none, tells_then}
use Rattle.tcheck.specs.TextSentences.{line_text}
use Rattle.tcheck.proofs.text_sentences.put_place.Goals as goal

pub returns-in-Some : goal.returns-in-Some
returns-in-Some g c =
    tells_as (tells_then c.put_numbered.ensures c.put.ensures) (ap line_text (sym c.in-Some.is))

pub returns-in_default : goal.returns-in_default
returns-in_default g c = tells_as (tells_none c.args.out.now) (ap line_text (sym c.in_default.is))
