use Rattle.std.proofs.Common.{ap}
use Rattle.tfiles.proofs.Told.{tells_then, tells_as}
use Rattle.tjson.specs.Json.{quoted}
use Rattle.tjson.proofs.node.put_frozen.Goals as goal

pub returns : goal.returns
returns g c = tells_then c.put.ensures (tells_as c.put_string.ensures (ap quoted c.break_name.ensures))
