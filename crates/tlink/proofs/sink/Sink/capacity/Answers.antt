use Rattle.std.proofs.Common.{arith, Some}
use Rattle.std.proofs.lemmas.List.{length-map}
use Rattle.tlink.proofs.sink.Sink.capacity.Goals as goal

pub returns : goal.returns
returns c = rw (← c.self.view_is) (omega (arith, length-map c.self.inside.bytes.items Some))
