use Rattle.std.proofs.Common.{ap₂, get_or, None, ℕ, Option}
use Rattle.tfiles.specs.Logs.{line}
use Rattle.tfiles.proofs.Told.{goes_on-start, goes_on-next, goes_on-end, tells_as}
use Rattle.twiring.specs.declared.flaws.TextFlaw.{TextFlaw}
use Rattle.tcheck.specs.TextSentences.{flaws_text, told_text}
use Rattle.tcheck.proofs.Rests.{texts_end, texts_at}
use Rattle.tcheck.proofs.text_sentences.put_flaws.Goals as goal

pub loop-number-init : goal.loop-number-init
loop-number-init g c = goes_on-start c.args.out.now (flaws_text c.args.lines.now c.args.flaws.now)

pub loop-number-preserved : goal.loop-number-preserved
loop-number-preserved g c =
    goes_on-next _ _ c.loop-number.invariant
    (texts_at (λ k f. line (told_text (get_or c.args.lines.now k None) f)) c.loop-number.number c.args.flaws.now
    c.index-flaws-number.result c.loop-number-test.true)
    (tells_as c.put_line.ensures
    (ap₂ (λ (l : Option ℕ) (f : TextFlaw). line (told_text l f)) c.line_at.ensures c.index-flaws-number.is))

pub returns : goal.returns
returns g c =
    goes_on-end c.loop-number.invariant
    (texts_end (λ k f. line (told_text (get_or c.args.lines.now k None) f)) c.loop-number.number c.args.flaws.now
    c.loop-number-test.false)
