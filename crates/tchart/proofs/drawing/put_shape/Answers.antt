use Rattle.std.proofs.Common.{ℕ, ap, sym, ◌∙◌}
use Rattle.tfiles.specs.Texts.{break_name}
use Rattle.tfiles.proofs.Told.{tells_as}
use Rattle.tchart.specs.Drawing.{bar_shape, freeze_shape, halt_shape, pause_shape, shape_text}
use Rattle.tchart.proofs.drawing.put_shape.Goals as goal

pub returns-in-Bar : goal.returns-in-Bar
returns-in-Bar g c =
    tells_as c.put_bar.ensures
    (ap (λ (n : ℕ). bar_shape n c.in-Bar.bar) c.from.ensures ∙ ap shape_text (sym c.in-Bar.is))

pub returns-in-Pause : goal.returns-in-Pause
returns-in-Pause g c =
    tells_as c.put_pause.ensures
    (ap (λ (n : ℕ). pause_shape n c.in-Pause.lane c.in-Pause.pause c.in-Pause.to) c.from-in-Pause.ensures
    ∙ ap shape_text (sym c.in-Pause.is))

pub returns-in-Begin : goal.returns-in-Begin
returns-in-Begin g c =
    let dot = rw (c.x_of.ensures, c.from-in-Begin.ensures, c.y_of.ensures) at c.put_circle.ensures in
    tells_as dot (ap shape_text (sym c.in-Begin.is))

pub returns-in-Message : goal.returns-in-Message
returns-in-Message g c = tells_as c.put_arrow.ensures (ap shape_text (sym c.in-Message.is))

pub returns-in-Halt : goal.returns-in-Halt
returns-in-Halt g c =
    tells_as c.put_halt.ensures
    (ap (λ (n : ℕ). halt_shape n c.in-Halt.row) c.from-in-Halt.ensures ∙ ap shape_text (sym c.in-Halt.is))

pub returns-in-Freeze : goal.returns-in-Freeze
returns-in-Freeze g c =
    tells_as c.put_freeze.ensures
    (ap (λ (n : ℕ). freeze_shape n c.in-Freeze.row (break_name c.in-Freeze.broken)) c.from-in-Freeze.ensures
    ∙ ap shape_text (sym c.in-Freeze.is))
