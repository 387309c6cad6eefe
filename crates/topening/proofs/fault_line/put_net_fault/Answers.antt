use Rattle.std.proofs.Common.{◌∙◌, ap, append_assoc, codes, decimal, sym}
use Rattle.tfiles.proofs.Told.{tells_as, tells_then}
use Rattle.tplan.specs.declared.plan.BuildFault.{BuildFault}
use Rattle.tfiles.specs.Texts.{words}
use Rattle.topening.specs.FaultLines.{net_words}
use Rattle.topening.proofs.fault_line.put_net_fault.Goals as goal

pub returns-in-TooMany : goal.returns-in-TooMany
returns-in-TooMany g c = tells_as c.put.ensures (ap (λ (f : BuildFault). words (net_words f)) (sym c.in-TooMany.is))

pub returns-in-BadSize : goal.returns-in-BadSize
returns-in-BadSize g c =
    tells_as c.put_numbered.ensures (ap (λ (f : BuildFault). words (net_words f)) (sym c.in-BadSize.is))

pub returns-in-BadTimeslice : goal.returns-in-BadTimeslice
returns-in-BadTimeslice g c =
    tells_as c.put-in-BadTimeslice.ensures (ap (λ (f : BuildFault). words (net_words f)) (sym c.in-BadTimeslice.is))

pub returns-in-BadEnd : goal.returns-in-BadEnd
returns-in-BadEnd g c =
    tells_as c.put_numbered-in-BadEnd.ensures (ap (λ (f : BuildFault). words (net_words f)) (sym c.in-BadEnd.is))

pub returns-in-SameEnd : goal.returns-in-SameEnd
returns-in-SameEnd g c =
    tells_as c.put_numbered-in-SameEnd.ensures (ap (λ (f : BuildFault). words (net_words f)) (sym c.in-SameEnd.is))

pub returns-in-EndTwice : goal.returns-in-EndTwice
returns-in-EndTwice g c =
    tells_as c.put_numbered-in-EndTwice.ensures (ap (λ (f : BuildFault). words (net_words f)) (sym c.in-EndTwice.is))

pub returns-in-BadCapacity : goal.returns-in-BadCapacity
returns-in-BadCapacity g c =
    tells_as c.put_numbered-in-BadCapacity.ensures
    (ap (λ (f : BuildFault). words (net_words f)) (sym c.in-BadCapacity.is))

pub returns-in-BadSegment : goal.returns-in-BadSegment
returns-in-BadSegment g c =
    tells_as (tells_then c.put_numbered-in-BadSegment.ensures c.put_numbered-in-BadSegment-2.ensures)
    (append_assoc (codes "net N7 BadSegment ") (decimal c.in-BadSegment.node) _
    ∙ ap (λ (f : BuildFault). words (net_words f)) (sym c.in-BadSegment.is))

pub returns-in-BadProcess : goal.returns-in-BadProcess
returns-in-BadProcess g c =
    tells_as
    (tells_then c.put_numbered-in-BadProcess.ensures
    (tells_then c.put_numbered-in-BadProcess-2.ensures
    (tells_then c.put-in-BadProcess.ensures (tells_as c.put-in-BadProcess-2.ensures c.break_name.ensures))))
    (append_assoc (codes "net N8 BadProcess ") (decimal c.in-BadProcess.node) _
    ∙ ap (λ (f : BuildFault). words (net_words f)) (sym c.in-BadProcess.is))
