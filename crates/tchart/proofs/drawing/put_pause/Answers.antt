use Rattle.tchart.proofs.drawing.put_pause.Goals as goal

pub returns : goal.returns
returns g c =
    rw (
      c.class_of-class.ensures,
      c.awaited_of.ensures,
      c.saturating_sub-x.ensures,
      c.x_of.ensures,
      c.from-3.ensures,
      c.y_of-y.ensures,
      c.saturating_sub.ensures,
      c.saturating_sub-rows.ensures,
      c.from.ensures,
      c.from-2.ensures,
    ) at c.put_rectangle.ensures
