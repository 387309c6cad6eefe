use Rattle.std.proofs.Common.{ap, sym}
use Rattle.tfiles.proofs.Told.{tells_as}
use Rattle.tfiles.specs.declared.image.ImageFault.{ImageFault}
use Rattle.tfiles.specs.Texts.{words}
use Rattle.topening.specs.FaultLines.{image_words}
use Rattle.topening.proofs.fault_line.put_image_fault.Goals as goal

pub returns-in-BadMagic : goal.returns-in-BadMagic
returns-in-BadMagic g c =
    tells_as c.put_image.ensures (ap (λ (f : ImageFault). words (image_words c.args.node f)) (sym c.in-BadMagic.is))

pub returns-in-TooMany : goal.returns-in-TooMany
returns-in-TooMany g c =
    tells_as c.put_image-in-TooMany.ensures
    (ap (λ (f : ImageFault). words (image_words c.args.node f)) (sym c.in-TooMany.is))

pub returns-in-Truncated : goal.returns-in-Truncated
returns-in-Truncated g c =
    tells_as c.put_image-in-Truncated.ensures
    (ap (λ (f : ImageFault). words (image_words c.args.node f)) (sym c.in-Truncated.is))

pub returns-in-Trailing : goal.returns-in-Trailing
returns-in-Trailing g c =
    tells_as c.put_image-in-Trailing.ensures
    (ap (λ (f : ImageFault). words (image_words c.args.node f)) (sym c.in-Trailing.is))

pub returns-in-OutOfMemory : goal.returns-in-OutOfMemory
returns-in-OutOfMemory g c =
    tells_as c.put.ensures (ap (λ (f : ImageFault). words (image_words c.args.node f)) (sym c.in-OutOfMemory.is))
