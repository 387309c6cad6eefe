use Rattle.std.proofs.Common.{ℕ, sym, ap, ◌∙◌, codes}
use Rattle.tfiles.proofs.Told.{tells_as}
use Rattle.tcheck.specs.Sentences.{flaw_text, named_image, range_text}
use Rattle.tcheck.proofs.sentences.put_flaw.Goals as goal

pub returns-in-TooManyNodes : goal.returns-in-TooManyNodes
returns-in-TooManyNodes g c = tells_as c.put.ensures (ap (flaw_text c.args.name.now) (sym c.in-TooManyNodes.is))

pub returns-in-TooMany : goal.returns-in-TooMany
returns-in-TooMany g c =
    tells_as c.put_range.ensures
    (ap (range_text (codes "there are ") c.in-TooMany.count) c.plenty_text.ensures ∙ ap (flaw_text c.args.name.now)
    (sym c.in-TooMany.is))

pub returns-in-BadTimeslice : goal.returns-in-BadTimeslice
returns-in-BadTimeslice g c =
    tells_as c.put_range-in-BadTimeslice.ensures
    (ap (λ (n : ℕ). range_text (codes "the timeslice is ") n (codes "; it has to be 1 to 65536")) c.from.ensures
    ∙ ap (flaw_text c.args.name.now) (sym c.in-BadTimeslice.is))

pub returns-in-NoFile : goal.returns-in-NoFile
returns-in-NoFile g c = tells_as c.put_image.ensures (ap (flaw_text c.args.name.now) (sym c.in-NoFile.is))

pub returns-in-BadImage : goal.returns-in-BadImage
returns-in-BadImage g c =
    tells_as c.put_image-in-BadImage.ensures
    (ap (named_image c.args.name.now) c.image_text.ensures ∙ ap (flaw_text c.args.name.now) (sym c.in-BadImage.is))

pub returns-in-BadSize : goal.returns-in-BadSize
returns-in-BadSize g c = tells_as c.put_size.ensures (ap (flaw_text c.args.name.now) (sym c.in-BadSize.is))

pub returns-in-BadSegment : goal.returns-in-BadSegment
returns-in-BadSegment g c = tells_as c.put_segment.ensures (ap (flaw_text c.args.name.now) (sym c.in-BadSegment.is))

pub returns-in-BadProcess : goal.returns-in-BadProcess
returns-in-BadProcess g c = tells_as c.put_process.ensures (ap (flaw_text c.args.name.now) (sym c.in-BadProcess.is))

pub returns-in-BadMessage : goal.returns-in-BadMessage
returns-in-BadMessage g c = tells_as c.put_message.ensures (ap (flaw_text c.args.name.now) (sym c.in-BadMessage.is))

pub returns-in-BadEnd : goal.returns-in-BadEnd
returns-in-BadEnd g c = tells_as c.put_bad_end.ensures (ap (flaw_text c.args.name.now) (sym c.in-BadEnd.is))

pub returns-in-SameEnd : goal.returns-in-SameEnd
returns-in-SameEnd g c = tells_as c.put_behind.ensures (ap (flaw_text c.args.name.now) (sym c.in-SameEnd.is))

pub returns-in-SharedEnd : goal.returns-in-SharedEnd
returns-in-SharedEnd g c = tells_as c.put_shared.ensures (ap (flaw_text c.args.name.now) (sym c.in-SharedEnd.is))

pub returns-in-BadCapacity : goal.returns-in-BadCapacity
returns-in-BadCapacity g c =
    tells_as c.put_range-in-BadCapacity.ensures
    (ap (λ (n : ℕ). range_text (codes "it takes ") n (codes " bytes; it has to take 1 to 65536"))
    c.from-in-BadCapacity.ensures ∙ ap (flaw_text c.args.name.now) (sym c.in-BadCapacity.is))

pub returns-in-NoWire : goal.returns-in-NoWire
returns-in-NoWire g c = tells_as c.put_behind-in-NoWire.ensures (ap (flaw_text c.args.name.now) (sym c.in-NoWire.is))

pub returns-in-EndsEarly : goal.returns-in-EndsEarly
returns-in-EndsEarly g c = tells_as c.put_early.ensures (ap (flaw_text c.args.name.now) (sym c.in-EndsEarly.is))
