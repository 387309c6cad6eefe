use Rattle.std.proofs.Common.{sym, ap}
use Rattle.tfiles.proofs.Told.{tells_as}
use Rattle.tcheck.specs.TextSentences.{flaw_text}
use Rattle.tcheck.proofs.text_sentences.put_flaw.Goals as goal

pub returns-in-NoToml : goal.returns-in-NoToml
returns-in-NoToml g c = tells_as c.put.ensures (ap flaw_text (sym c.in-NoToml.is))
