use Rattle.tlink.proofs.Sinks.{shown_cells}
use Rattle.tlink.proofs.sink.Sink.kept.Goals as goal

pub returns : goal.returns
returns c =
    rw (← c.self.view_is, shown_cells c.self.inside.bytes.items, ← c.deref.ensures.value, ← c.deref-2.ensures.value)
    c.new.ensures
