use Rattle.tchart.proofs.drawing.put_arrow.Goals as goal

pub returns : goal.returns
returns g c =
    rw (c.x_of.ensures, c.y_of.ensures, c.x_of-2.ensures, c.y_of-2.ensures) at c.put_line.ensures
