use Rattle.std.proofs.lemmas.List.{take-append-drop}
use Rattle.tlink.proofs.Sinks.{shown_cells}
use Rattle.tlink.proofs.source.Source.messages.Goals as goal

pub returns : goal.returns
returns c =
    rw (
      ← c.self.view_is,
      shown_cells c.self.inside.bytes.items,
      take-append-drop c.self.inside.done c.self.inside.lengths.items,
      ← c.deref.ensures.value,
      ← c.deref-2.ensures.value,
    )
    c.new.ensures
