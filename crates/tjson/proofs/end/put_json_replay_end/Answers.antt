use Rattle.tfiles.proofs.Told.{tells_then}
use Rattle.tjson.proofs.Lines.{ends_line}
use Rattle.tjson.proofs.end.put_json_replay_end.Goals as goal

pub returns : goal.returns
returns g c = tells_then c.put.ensures (ends_line c.put_decimal.ensures c.put-2.ensures)
