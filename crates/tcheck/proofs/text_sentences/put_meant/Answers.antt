use Rattle.std.proofs.Common.{◌∙◌, ap, sym}
use Rattle.tfiles.proofs.Told.{tells_as}
use Rattle.tcheck.specs.TextSentences.{meant_text, near_text}
use Rattle.tcheck.proofs.text_sentences.put_meant.Goals as goal

pub returns-in-Some : goal.returns-in-Some
returns-in-Some g c =
    tells_as c.put_near.ensures
    (ap near_text c.as_str.ensures ∙ ap (meant_text c.args.part) (sym c.in-Some.is))
