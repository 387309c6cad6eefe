use Rattle.std.proofs.Common.{ap}
use Rattle.tfiles.specs.Texts.{sink_line}
use Rattle.tfiles.proofs.Told.{tells_as, tells_then}
use Rattle.tfindings.proofs.EndParts.{as_many, kept_lines}
use Rattle.tfindings.proofs.ends.put_sink.Goals as goal

pub returns : goal.returns
returns g c =
    tells_then
    (tells_as c.put_sink_line.ensures (ap (sink_line c.args.number) (as_many _ _ c.as_slice-messages.ensures.value)))
    (tells_as c.put_messages.ensures (kept_lines _ _ c.as_slice-messages.ensures.value))
