use Rattle.tfiles.proofs.Told.{tells_then}
use Rattle.ttext.proofs.printed_run.put_lines.Goals as goal

pub returns : goal.returns
returns g c = tells_then c.put_trace.ensures (tells_then c.put_shown.ensures c.put_end.ensures)
