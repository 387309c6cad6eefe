use Rattle.tfiles.proofs.Told.{tells_then}
use Rattle.ttext.proofs.printed_run.put_json.Goals as goal

pub returns : goal.returns
returns g c = tells_then c.put_json_trace.ensures (tells_then c.put_json_net.ensures c.put_json_end.ensures)
